-- Protocols: what the data derives, the relations say.
use Rattle.std.proofs.Common.{◌≡◌, ◌-◌, ℕ, List, map, Some}
use Rattle.chor_base.specs.declared.rule.Rule.TheVariants.{P3}
use Rattle.chor_lexer.specs.declared.token.Token.{Token}
use Rattle.chor_lexer.specs.Lexeme.{Lexeme}
use Rattle.grammar.specs.Grammars.{Allowed, Derives, many, in_turn, the_first, the_second, none_of_many, one_of_many}
use Rattle.source_grammar.specs.Grammar as sg
use Rattle.source_grammar.specs.Limits.{KeepsNames, KeepsStep, KeepsState, KeepsMoreStates, KeepsProtocol}
use Rattle.source_rows.specs.Sources.{NAME, sort as sorts, payload, arm, step, state, protocol, names}
use Rattle.source_rows.specs.Values.{Tables, Derived, rules, name, listing, sort_of, payload_of, arm_of, step_of, state_of, protocol_of}
use Rattle.source_bridge.specs.Bridge.{lexed, There, AreTables, ByRelation}
use Rattle.source_bridge.proofs.Terminals.{from_mark, from_word, from_name, room_from}
use Rattle.source_bridge.proofs.FromStatements.{from_here, from_list}

module _ (i : Tables) (z : AreTables i) (Q : Allowed) where
  pub from_sort : {ls us : List Lexeme} {x : Derived sorts} {ts : List Token} → Derives (rules i) Q sorts ls x us → ls ≡ lexed i ts → There i ts → ByRelation i (sg.SortIs i.words) ts (sort_of x) us
  from_sort (the_first w) e h = from_here i z Q (from_word i z Q w e h) (λ t w' e0 h0. record { rest = t; is = sg.int w'; left = e0; there = h0 })
  from_sort (the_second (the_first w)) e h = from_here i z Q (from_word i z Q w e h) (λ t w' e0 h0. record { rest = t; is = sg.bool w'; left = e0; there = h0 })
  from_sort (the_second (the_second w)) e h = from_here i z Q (from_word i z Q w e h) (λ t w' e0 h0. record { rest = t; is = sg.text w'; left = e0; there = h0 })

  pub from_payload : {ls us : List Lexeme} {x : Derived payload} {ts : List Token} → Derives (rules i) Q payload ls x us → ls ≡ lexed i ts → There i ts → ByRelation i (sg.PayloadIs i.words) ts (payload_of i x) us
  from_payload (the_first s) e h = from_here i z Q (from_sort s e h) (λ t s' e0 h0. record { rest = t; is = sg.plain s'; left = e0; there = h0 })
  from_payload (the_second (in_turn p (in_turn d (in_turn s (in_turn a r))))) e h =
      from_here i z Q (from_name i z Q p e h) (λ t0 p' e0 h0.
      from_here i z Q (from_mark i z Q d e0 h0) (λ t1 d' e1 h1.
      from_here i z Q (from_name i z Q s e1 h1) (λ t2 s' e2 h2.
      from_here i z Q (from_mark i z Q a e2 h2) (λ t3 a' e3 h3.
      from_here i z Q (from_name i z Q r e3 h3) (λ t4 r' e4 h4.
      record { rest = t4; is = sg.endpoint p' d' s' a' r'; left = e4; there = h4 })))))

  from_arm : (ls us : List Lexeme) (x : Derived arm) (ts : List Token) → Derives (rules i) Q arm ls x us → ls ≡ lexed i ts → There i ts → ByRelation i (λ a y b. sg.ArmIs i.words a y b × Unit {0}) ts (arm_of i x) us
  from_arm ls us _ ts (in_turn l (in_turn w n)) e h =
      from_here i z Q (from_name i z Q l e h) (λ t0 l' e0 h0.
      from_here i z Q (from_word i z Q w e0 h0) (λ t1 w' e1 h1.
      from_here i z Q (from_name i z Q n e1 h1) (λ t2 n' e2 h2.
      record { rest = t2; is = (sg.an_arm l' w' n', tt); left = e2; there = h2 })))

  item_name : (ls us : List Lexeme) (x : Lexeme) (ts : List Token) → Derives (rules i) Q NAME ls x us → ls ≡ lexed i ts → There i ts → ByRelation i (λ a y b. sg.NameIs i.words a y b × Unit {0}) ts (name i x) us
  item_name ls us x ts d e h = from_here i z Q (from_name i z Q d e h) (λ t n e0 h0. record { rest = t; is = (n, tt); left = e0; there = h0 })

  pub from_names : (n : ℕ) {ls us : List Lexeme} {x : Derived (names (Some n))} {ts : List Token} → Derives (rules i) Q (names (Some n)) ls x us → ls ≡ lexed i ts → There i ts → ByRelation i (λ a y b. (d : sg.NamesAre i.words a y b) × KeepsNames Q n d) ts (listing (name i) x) us
  from_names n d e h = from_list i z Q (λ ts x rest d. Unit {0}) NAME (name i) item_name n _ _ _ _ d e h

  pub from_step : {ls us : List Lexeme} {x : Derived step} {ts : List Token} → Derives (rules i) Q step ls x us → ls ≡ lexed i ts → There i ts → ByRelation i (λ a y b. (d : sg.StepIs i.words a y b) × KeepsStep Q d) ts (step_of i x) us
  from_step (the_first w) e h = from_here i z Q (from_word i z Q w e h) (λ t w' e0 h0. record { rest = t; is = (sg.end_step w', tt); left = e0; there = h0 })
  from_step (the_second (in_turn a (in_turn r (in_turn b (the_first (in_turn c (in_turn p (in_turn w n)))))))) e h =
      from_here i z Q (from_name i z Q a e h) (λ t0 a' e0 h0.
      from_here i z Q (from_mark i z Q r e0 h0) (λ t1 r' e1 h1.
      from_here i z Q (from_name i z Q b e1 h1) (λ t2 b' e2 h2.
      from_here i z Q (from_mark i z Q c e2 h2) (λ t3 c' e3 h3.
      from_here i z Q (from_payload p e3 h3) (λ t4 p' e4 h4.
      from_here i z Q (from_word i z Q w e4 h4) (λ t5 w' e5 h5.
      from_here i z Q (from_name i z Q n e5 h5) (λ t6 n' e6 h6.
      record { rest = t6; is = (sg.value_step a' r' b' c' p' w' n', tt); left = e6; there = h6 })))))))
  from_step (the_second (in_turn a (in_turn r (in_turn b (the_second (in_turn o (in_turn xs c))))))) e h =
      from_here i z Q (from_name i z Q a e h) (λ t0 a' e0 h0.
      from_here i z Q (from_mark i z Q r e0 h0) (λ t1 r' e1 h1.
      from_here i z Q (from_name i z Q b e1 h1) (λ t2 b' e2 h2.
      from_here i z Q (from_mark i z Q o e2 h2) (λ t3 o' e3 h3.
      from_here i z Q (from_list i z Q (λ ts x rest d. Unit {0}) arm (arm_of i) from_arm 64 _ _ _ _ xs e3 h3) (λ t4 x' e4 h4.
      from_here i z Q (from_mark i z Q c e4 h4) (λ t5 c' e5 h5.
      record { rest = t5; is = (sg.choice_step a' r' b' o' x'.0 c', x'.1); left = e5; there = h5 }))))))

  pub from_state : {ls us : List Lexeme} {x : Derived state} {ts : List Token} → Derives (rules i) Q state ls x us → ls ≡ lexed i ts → There i ts → ByRelation i (λ a y b. (d : sg.StateIs i.words a y b) × KeepsState Q d) ts (state_of i x) us
  from_state (in_turn n (in_turn a (in_turn s m))) e h =
      from_here i z Q (from_name i z Q n e h) (λ t0 n' e0 h0.
      from_here i z Q (from_mark i z Q a e0 h0) (λ t1 a' e1 h1.
      from_here i z Q (from_step s e1 h1) (λ t2 s' e2 h2.
      from_here i z Q (from_mark i z Q m e2 h2) (λ t3 m' e3 h3.
      record { rest = t3; is = (sg.a_state n' a' s'.0 m', s'.1); left = e3; there = h3 }))))

  from_states : (n : ℕ) {ls us : List Lexeme} {xs : List (Derived state)} {ts : List Token} → Derives (rules i) Q (many P3 (Some n) state) ls xs us → ls ≡ lexed i ts → There i ts → ByRelation i (λ a y b. (d : sg.MoreStatesAre i.words a y b) × KeepsMoreStates Q n d) ts (map (state_of i) xs) us
  from_states n {ts = ts} none_of_many e h = record { rest = ts; is = (sg.no_state, tt); left = e; there = h }
  from_states n {ts = ts} (one_of_many r d m) e h =
      from_here i z Q (from_state d e h) (λ t0 d' e0 h0.
      from_here i z Q (from_states (n - 1) m e0 h0) (λ t1 m' e1 h1.
      record { rest = t1; is = (sg.one_state d'.0 m'.0, (room_from i z Q P3 n ts _ e r, d'.1, m'.1)); left = e1; there = h1 }))

  pub from_protocol : {ls us : List Lexeme} {x : Derived protocol} {ts : List Token} → Derives (rules i) Q protocol ls x us → ls ≡ lexed i ts → There i ts → ByRelation i (λ a y b. (d : sg.ProtocolIs i.words a y b) × KeepsProtocol Q d) ts (protocol_of i x) us
  from_protocol (in_turn w (in_turn n (in_turn o (in_turn rs (in_turn c (in_turn b (in_turn s (in_turn ss q)))))))) e h =
      from_here i z Q (from_word i z Q w e h) (λ t0 w' e0 h0.
      from_here i z Q (from_name i z Q n e0 h0) (λ t1 n' e1 h1.
      from_here i z Q (from_mark i z Q o e1 h1) (λ t2 o' e2 h2.
      from_here i z Q (from_names 16 rs e2 h2) (λ t3 rs' e3 h3.
      from_here i z Q (from_mark i z Q c e3 h3) (λ t4 c' e4 h4.
      from_here i z Q (from_mark i z Q b e4 h4) (λ t5 b' e5 h5.
      from_here i z Q (from_state s e5 h5) (λ t6 s' e6 h6.
      from_here i z Q (from_states 255 ss e6 h6) (λ t7 ss' e7 h7.
      from_here i z Q (from_mark i z Q q e7 h7) (λ t8 q' e8 h8.
      record { rest = t8; is = (sg.a_protocol w' n' o' rs'.0 c' b' (sg.some_states s'.0 ss'.0) q', (rs'.1, (s'.1, ss'.1))); left = e8; there = h8 })))))))))
