-- Statements and blocks: what the data derives, the relations say.
use Rattle.std.proofs.Common.{◌≡◌, ◌-◌, ◌≤◌, zero, suc, length, arith, ℕ, List, map, Some, None, refl, sym, ap, subst}
use Rattle.chor_base.specs.declared.rule.Place.{Place}
use Rattle.chor_base.specs.declared.rule.Rule.TheVariants.{P2, P3}
use Rattle.chor_lexer.specs.declared.token.Token.{Token}
use Rattle.chor_lexer.specs.declared.mark.Mark.TheVariants.{Comma}
use Rattle.chor_lexer.specs.Lexeme.{Lexeme}
use Rattle.chor_tree.specs.Source.{Statement, Block, Then}
use Rattle.chor_tree.specs.declared.file.Named.{Named}
use Rattle.grammar.specs.Classes.{a_mark}
use Rattle.grammar.specs.Grammars.{Allowed, Derives, more, is_one, in_turn, the_first, the_second, is_empty, no_more, one_more, with_room, by_rule}
use Rattle.grammar.proofs.Progress.{shorter as shorter_by}
use Rattle.source_grammar.specs.Grammar as sg
use Rattle.source_grammar.specs.Limits.{KeepsMore, KeepsList, KeepsStatement, KeepsBlock, KeepsLines, KeepsTail}
use Rattle.source_grammar.specs.Values.{StandsAt}
use Rattle.source_rows.specs.Sources.{Source, NAME, kept, commas, part, statement, block, tail, lines_of, passed}
use Rattle.source_rows.specs.Values.{Tables, Derived, rules, name, listing, role_of, statement_of, begins_at, block_of, tail_of, passed_of}
use Rattle.source_bridge.specs.Bridge.{lexed, There, AreTables, ByRelation}
use Rattle.source_bridge.proofs.Terminals.{from_mark, from_word, from_name, first_of, room_from}
use Rattle.source_bridge.proofs.FromExpressions.{from_expr, at_most, shorter}

module _ (i : Tables) (z : AreTables i) (Q : Allowed) where
  -- ---- lists

  abbrev Item : Type 0 → Type 1
  Item A = List Token → A → List Token → Type 0

  abbrev Reads : {A : Type 0} → (g : Source) → (Derived g → A) → Item A → Type 0
  Reads g f R = (ls us : List Lexeme) (x : Derived g) (ts : List Token) → Derives (rules i) Q g ls x us → ls ≡ lexed i ts → There i ts → ByRelation i R ts (f x) us

  names_item : (ls us : List Lexeme) (x : Lexeme) (ts : List Token) → Derives (rules i) Q NAME ls x us → ls ≡ lexed i ts → There i ts → ByRelation i (sg.NameIs i.words) ts (name i x) us
  names_item ls us x ts d e h = let n = from_name i z Q d e h in record { rest = n.rest; is = n.is; left = n.left; there = n.there }

  from_more_any : {A : Type 0} {R : Item A} (g : Source) (f : Derived g → A) → Reads g f R → {ls us : List Lexeme} {xs : List (Derived g)} {ts : List Token} → Derives (rules i) Q (more P3 None (a_mark Comma) g) ls xs us → ls ≡ lexed i ts → There i ts → ByRelation i (sg.MoreAre R) ts (map f xs) us
  from_more_any g f item {ts = ts} no_more e h = record { rest = ts; is = sg.no_more; left = e; there = h }
  from_more_any g f item (one_more l p j (with_room r d) m) e h =
      let c' = from_mark i z Q (is_one l p j) e h in
      let d' = item _ _ _ _ d c'.left c'.there in
      let m' = from_more_any g f item m d'.left d'.there in
      record { rest = m'.rest; is = sg.one_more c'.is d'.is m'.is; left = m'.left; there = m'.there }

  pub from_any : {A : Type 0} {R : Item A} (g : Source) (f : Derived g → A) → Reads g f R → {ls us : List Lexeme} {x : Derived (commas None g)} {ts : List Token} → Derives (rules i) Q (commas None g) ls x us → ls ≡ lexed i ts → There i ts → ByRelation i (sg.ListIs R) ts (listing f x) us
  from_any g f item (in_turn (with_room r d) m) e h =
      let d' = item _ _ _ _ d e h in
      let m' = from_more_any g f item m d'.left d'.there in
      record { rest = m'.rest; is = sg.a_list d'.is m'.is; left = m'.left; there = m'.there }

  -- lists with a limit, whose items keep what K asks
  module _ {A : Type 0} {R : Item A} (K : (ts : List Token) (x : A) (rest : List Token) → R ts x rest → Type 0) (g : Source) (f : Derived g → A) (item : Reads g f (λ a y b. (d : R a y b) × K a y b d)) where
    from_more : {ls us : List Lexeme} (n : ℕ) {xs : List (Derived g)} {ts : List Token} → Derives (rules i) Q (more P3 (Some n) (a_mark Comma) g) ls xs us → ls ≡ lexed i ts → There i ts → ByRelation i (λ a y b. (d : sg.MoreAre R a y b) × KeepsMore Q K n d) ts (map f xs) us
    from_more n {ts = ts} no_more e h = record { rest = ts; is = (sg.no_more, tt); left = e; there = h }
    from_more n (one_more l p j (with_room r d) m) e h =
        let c' = from_mark i z Q (is_one l p j) e h in
        let d' = item _ _ _ _ d c'.left c'.there in
        let m' = from_more (n - 1) m d'.left d'.there in
        record { rest = m'.rest; is = (sg.one_more c'.is d'.is.0 m'.is.0, (room_from i z Q P3 n c'.rest _ c'.left r, d'.is.1, m'.is.1)); left = m'.left; there = m'.there }

    pub from_list : (n : ℕ) → Reads (commas (Some n) g) (listing f) (λ a y b. (d : sg.ListIs R a y b) × KeepsList Q K n d)
    from_list n ls us _ ts (in_turn (with_room r d) m) e h =
        let d' = item _ _ _ _ d e h in
        let m' = from_more (n - 1) m d'.left d'.there in
        record { rest = m'.rest; is = (sg.a_list d'.is.0 m'.is.0, (room_from i z Q P3 n ts _ e r, d'.is.1, m'.is.1)); left = m'.left; there = m'.there }

  pub from_part : {ls us : List Lexeme} {x : Derived (part)} {ts : List Token} → Derives (rules i) Q (part) ls x us → ls ≡ lexed i ts → There i ts → ByRelation i (sg.PartIs i.words) ts (role_of i x) us
  from_part (in_turn p (in_turn o (in_turn r c))) e h =
      let p' = from_name i z Q p e h in
      let o' = from_mark i z Q o p'.left p'.there in
      let r' = from_name i z Q r o'.left o'.there in
      let c' = from_mark i z Q c r'.left r'.there in
      record { rest = c'.rest; is = sg.a_part p'.is o'.is r'.is c'.is; left = c'.left; there = c'.there }

  -- with what the relation says of it
  abbrev pub from_here : {A B : Type 0} {R : Item A} {ts : List Token} {x : A} {us : List Lexeme} → ByRelation i R ts x us → ((rest : List Token) → R ts x rest → us ≡ lexed i rest → There i rest → B) → B
  from_here b k = k b.rest b.is b.left b.there

  -- a word that is kept says where it stands
  pub from_kept : {w : List ℕ} {ls us : List Lexeme} {x : Lexeme} {ts : List Token} → Derives (rules i) Q (kept w) ls x us → ls ≡ lexed i ts → There i ts → ByRelation i (λ a y b. sg.WordIs i.words w a b × StandsAt y.place a) ts x us
  from_kept {w} {ts = ts} (is_one {ts = ls} {rest = us} l p j) e h =
      let f = first_of i ts ls l us e p h in
      let k = from_word i z Q {w = w} (is_one l p j) e h in
      record { rest = k.rest; is = (k.is, record { token = f.token; rest = f.rest; parts = f.parts; place = ap (λ (x : Lexeme). x.place) f.is }); left = k.left; there = k.there }

  name_stands : {ls us : List Lexeme} {x : Lexeme} {ts : List Token} → Derives (rules i) Q NAME ls x us → ls ≡ lexed i ts → There i ts → StandsAt x.place ts
  name_stands {ts = ts} (is_one {ts = ls} {rest = us} l p j) e h = let f = first_of i ts ls l us e p h in record { token = f.token; rest = f.rest; parts = f.parts; place = ap (λ (x : Lexeme). x.place) f.is }

  -- ---- statements

  pub record Said (at : Place) (s : Statement) (ts : List Token) (us : List Lexeme) : Type 0 where
    pub rest : List Token
    pub is : sg.StatementIs i.words ts s rest
    pub keeps : KeepsStatement Q is
    pub begins : StandsAt at ts
    pub left : us ≡ lexed i rest
    pub there : There i rest

  pub from_statement : {ls us : List Lexeme} {x : Derived statement} {ts : List Token} → Derives (rules i) Q statement ls x us → ls ≡ lexed i ts → There i ts → Said (begins_at x) (statement_of i x) ts us
  from_statement (the_first (in_turn w (in_turn c (in_turn o (in_turn k (in_turn q (in_turn m (in_turn a (the_first (in_turn n s)))))))))) e h =
      from_here (from_kept w e h) (λ t0 w' e0 h0.
      from_here (from_name i z Q c e0 h0) (λ t1 c' e1 h1.
      from_here (from_mark i z Q o e1 h1) (λ t2 o' e2 h2.
      from_here (from_name i z Q k e2 h2) (λ t3 k' e3 h3.
      from_here (from_mark i z Q q e3 h3) (λ t4 q' e4 h4.
      from_here (from_mark i z Q m e4 h4) (λ t5 m' e5 h5.
      from_here (from_any part (role_of i) (λ ls us x ts d e h. from_part d e h) a e5 h5) (λ t6 a' e6 h6.
      from_here (from_word i z Q n e6 h6) (λ t7 n' e7 h7.
      from_here (from_any part (role_of i) (λ ls us x ts d e h. from_part d e h) s e7 h7) (λ t8 s' e8 h8.
      record { rest = t8; is = sg.a_start w'.0 c' o' k' q' m' a' (sg.some_new n' s'); keeps = tt; begins = w'.1; left = e8; there = h8 })))))))))
  from_statement (the_first (in_turn w (in_turn c (in_turn o (in_turn k (in_turn q (in_turn m (in_turn a (the_second is_empty))))))))) e h =
      from_here (from_kept w e h) (λ t0 w' e0 h0.
      from_here (from_name i z Q c e0 h0) (λ t1 c' e1 h1.
      from_here (from_mark i z Q o e1 h1) (λ t2 o' e2 h2.
      from_here (from_name i z Q k e2 h2) (λ t3 k' e3 h3.
      from_here (from_mark i z Q q e3 h3) (λ t4 q' e4 h4.
      from_here (from_mark i z Q m e4 h4) (λ t5 m' e5 h5.
      from_here (from_any part (role_of i) (λ ls us x ts d e h. from_part d e h) a e5 h5) (λ t6 a' e6 h6.
      record { rest = t6; is = sg.a_start w'.0 c' o' k' q' m' a' sg.no_new; keeps = tt; begins = w'.1; left = e6; there = h6 })))))))
  from_statement (the_second (in_turn p (the_first (in_turn o (in_turn r (in_turn c (the_first (in_turn d (in_turn x (in_turn w (in_turn b (in_turn f (in_turn v (in_turn g k)))))))))))))) e h =
      from_here (from_name i z Q p e h) (λ t0 p' e0 h0.
      from_here (from_mark i z Q o e0 h0) (λ t1 o' e1 h1.
      from_here (from_name i z Q r e1 h1) (λ t2 r' e2 h2.
      from_here (from_mark i z Q c e2 h2) (λ t3 c' e3 h3.
      from_here (from_mark i z Q d e3 h3) (λ t4 d' e4 h4.
      from_here (from_expr i z Q x e4 h4) (λ t5 x' e5 h5.
      from_here (from_mark i z Q w e5 h5) (λ t6 w' e6 h6.
      from_here (from_part b e6 h6) (λ t7 b' e7 h7.
      from_here (from_mark i z Q f e7 h7) (λ t8 f' e8 h8.
      from_here (from_name i z Q v e8 h8) (λ t9 v' e9 h9.
      from_here (from_mark i z Q g e9 h9) (λ t10 g' e10 h10.
      from_here (from_name i z Q k e10 h10) (λ t11 k' e11 h11.
      record { rest = t11; is = sg.a_value (sg.a_part p' o' r' c') d' x'.0 w' b' f' v' g' k'; keeps = x'.1; begins = name_stands p e h; left = e11; there = h11 }))))))))))))
  from_statement (the_second (in_turn p (the_first (in_turn o (in_turn r (in_turn c (the_second (in_turn w (in_turn b (in_turn m (in_turn k (the_first (in_turn d l))))))))))))) e h =
      from_here (from_name i z Q p e h) (λ t0 p' e0 h0.
      from_here (from_mark i z Q o e0 h0) (λ t1 o' e1 h1.
      from_here (from_name i z Q r e1 h1) (λ t2 r' e2 h2.
      from_here (from_mark i z Q c e2 h2) (λ t3 c' e3 h3.
      from_here (from_mark i z Q w e3 h3) (λ t4 w' e4 h4.
      from_here (from_part b e4 h4) (λ t5 b' e5 h5.
      from_here (from_mark i z Q m e5 h5) (λ t6 m' e6 h6.
      from_here (from_name i z Q k e6 h6) (λ t7 k' e7 h7.
      from_here (from_mark i z Q d e7 h7) (λ t8 d' e8 h8.
      from_here (from_name i z Q l e8 h8) (λ t9 l' e9 h9.
      record { rest = t9; is = sg.a_label (sg.a_part p' o' r' c') w' b' m' k' d' l'; keeps = tt; begins = name_stands p e h; left = e9; there = h9 }))))))))))
  from_statement (the_second (in_turn p (the_first (in_turn o (in_turn r (in_turn c (the_second (in_turn w (in_turn b (in_turn m (in_turn k (the_second (in_turn u (in_turn g q)))))))))))))) e h =
      from_here (from_name i z Q p e h) (λ t0 p' e0 h0.
      from_here (from_mark i z Q o e0 h0) (λ t1 o' e1 h1.
      from_here (from_name i z Q r e1 h1) (λ t2 r' e2 h2.
      from_here (from_mark i z Q c e2 h2) (λ t3 c' e3 h3.
      from_here (from_mark i z Q w e3 h3) (λ t4 w' e4 h4.
      from_here (from_part b e4 h4) (λ t5 b' e5 h5.
      from_here (from_mark i z Q m e5 h5) (λ t6 m' e6 h6.
      from_here (from_name i z Q k e6 h6) (λ t7 k' e7 h7.
      from_here (from_mark i z Q u e7 h7) (λ t8 u' e8 h8.
      from_here (from_part g e8 h8) (λ t9 g' e9 h9.
      from_here (from_mark i z Q q e9 h9) (λ t10 q' e10 h10.
      record { rest = t10; is = sg.a_delegation (sg.a_part p' o' r' c') w' b' m' k' u' g' q'; keeps = tt; begins = name_stands p e h; left = e10; there = h10 })))))))))))
  from_statement (the_second (in_turn p (the_second (the_first (in_turn d (in_turn x (in_turn b (the_first (in_turn w (in_turn f (in_turn u (in_turn l (in_turn m (in_turn r q)))))))))))))) e h =
      from_here (from_name i z Q p e h) (λ t0 p' e0 h0.
      from_here (from_mark i z Q d e0 h0) (λ t1 d' e1 h1.
      from_here (from_name i z Q x e1 h1) (λ t2 x' e2 h2.
      from_here (from_mark i z Q b e2 h2) (λ t3 b' e3 h3.
      from_here (from_word i z Q w e3 h3) (λ t4 w' e4 h4.
      from_here (from_name i z Q f e4 h4) (λ t5 f' e5 h5.
      from_here (from_mark i z Q u e5 h5) (λ t6 u' e6 h6.
      from_here (from_expr i z Q l e6 h6) (λ t7 l' e7 h7.
      from_here (from_mark i z Q m e7 h7) (λ t8 m' e8 h8.
      from_here (from_expr i z Q r e8 h8) (λ t9 r' e9 h9.
      from_here (from_mark i z Q q e9 h9) (λ t10 q' e10 h10.
      record { rest = t10; is = sg.a_host_call p' d' x' b' w' f' u' l'.0 m' r'.0 q'; keeps = (l'.1, r'.1); begins = name_stands p e h; left = e10; there = h10 })))))))))))
  from_statement (the_second (in_turn p (the_second (the_first (in_turn d (in_turn x (in_turn b (the_second t)))))))) e h =
      from_here (from_name i z Q p e h) (λ t0 p' e0 h0.
      from_here (from_mark i z Q d e0 h0) (λ t1 d' e1 h1.
      from_here (from_name i z Q x e1 h1) (λ t2 x' e2 h2.
      from_here (from_mark i z Q b e2 h2) (λ t3 b' e3 h3.
      from_here (from_expr i z Q t e3 h3) (λ t4 t' e4 h4.
      record { rest = t4; is = sg.a_set p' d' x' b' t'.0; keeps = t'.1; begins = name_stands p e h; left = e4; there = h4 })))))
  from_statement (the_second (in_turn p (the_second (the_second (in_turn w t))))) e h =
      from_here (from_name i z Q p e h) (λ t0 p' e0 h0.
      from_here (from_word i z Q w e0 h0) (λ t1 w' e1 h1.
      from_here (from_expr i z Q t e1 h1) (λ t2 t' e2 h2.
      record { rest = t2; is = sg.a_show p' w' t'.0; keeps = t'.1; begins = name_stands p e h; left = e2; there = h2 })))

  -- ---- blocks

  abbrev Passed : List Token → List Named × List Named → List Token → Type 0
  Passed ts v rest = sg.PassedAre i.words ts v.0 v.1 rest

  from_passed : {ls us : List Lexeme} {x : Derived passed} {ts : List Token} → Derives (rules i) Q passed ls x us → ls ≡ lexed i ts → There i ts → ByRelation i Passed ts (passed_of i x) us
  from_passed {ts = ts} (the_second is_empty) e h = record { rest = ts; is = sg.nothing_passed; left = e; there = h }
  from_passed (the_first (in_turn p (the_second is_empty))) e h =
      let p' = from_any NAME (name i) names_item p e h in
      record { rest = p'.rest; is = sg.processes_passed p'.is sg.no_session_passed; left = p'.left; there = p'.there }
  from_passed (the_first (in_turn p (the_first (in_turn m s)))) e h =
      let p' = from_any NAME (name i) names_item p e h in
      let m' = from_mark i z Q m p'.left p'.there in
      let s' = from_any NAME (name i) names_item s m'.left m'.there in
      record { rest = s'.rest; is = sg.processes_passed p'.is (sg.sessions_passed m'.is s'.is); left = s'.left; there = s'.there }

  abbrev BlockR : ℕ → ℕ → List Token → Block → List Token → Type 0
  BlockR b p ts x rest = (d : sg.BlockIs i.words ts x rest) × KeepsBlock Q b p d

  abbrev LinesR : ℕ → ℕ → List Token → Block → List Token → Type 0
  LinesR b p ts x rest = (d : sg.LinesAre i.words ts x rest) × KeepsLines Q b p d

  abbrev TailR : ℕ → ℕ → List Token → Block → List Token → Type 0
  TailR b p ts x rest = (d : sg.TailIs i.words ts x rest) × KeepsTail Q b p d

  -- with so many tokens at most
  abbrev Lines : ℕ → Type 0
  Lines n = (b p : ℕ) (ls us : List Lexeme) (x : Derived (lines_of b p)) (ts : List Token) → length ls ≤ n → Derives (rules i) Q (lines_of b p) ls x us → ls ≡ lexed i ts → There i ts → ByRelation i (LinesR b p) ts (block_of i b p x) us

  block_by : (n : ℕ) → Lines n → (b p : ℕ) {ls us : List Lexeme} {x : Derived (block b p)} {ts : List Token} → length ls ≤ suc n → Derives (rules i) Q (block b p) ls x us → ls ≡ lexed i ts → There i ts → ByRelation i (BlockR b p) ts x.0 us
  block_by n lines b p {ts = ts} w (in_turn (with_room r (by_rule {v = v} l q j d s)) c) e h =
      let o' = from_mark i z Q (is_one l q j) e h in
      let d' = lines (b - 1) p _ _ _ _ (shorter q w) d o'.left o'.there in
      let c' = from_mark i z Q c d'.left d'.there in
      record { rest = c'.rest; is = subst (λ (y : Block). BlockR b p ts y c'.rest) (sym s) (sg.a_block o'.is d'.is.0 c'.is, (room_from i z Q P2 b ts _ e r, d'.is.1)); left = c'.left; there = c'.there }

  tail_by : (n : ℕ) → Lines n → (b p : ℕ) {ls us : List Lexeme} {x : Derived (tail b p)} {ts : List Token} → length ls ≤ suc n → Derives (rules i) Q (tail b p) ls x us → ls ≡ lexed i ts → There i ts → ByRelation i (TailR b p) ts (tail_of i b p x) us
  tail_by n lines b p l (the_first w) e h = let w' = from_kept w e h in record { rest = w'.rest; is = (sg.an_end w'.is.1 w'.is.0, tt); left = w'.left; there = w'.there }
  tail_by n lines b p l (the_second (the_first (in_turn w (in_turn f (in_turn o (in_turn v c)))))) e h =
      let w' = from_kept w e h in
      let f' = from_name i z Q f w'.left w'.there in
      let o' = from_mark i z Q o f'.left f'.there in
      let v' = from_passed v o'.left o'.there in
      let c' = from_mark i z Q c v'.left v'.there in
      record { rest = c'.rest; is = (sg.a_call w'.is.1 w'.is.0 f'.is o'.is v'.is c'.is, tt); left = c'.left; there = c'.there }
  tail_by n lines b p l (the_second (the_second (in_turn w (in_turn q (in_turn d (in_turn t (in_turn one (in_turn u two)))))))) e h =
      let w' = from_kept w e h in
      let q' = from_name i z Q q w'.left w'.there in
      let d' = from_mark i z Q d q'.left q'.there in
      let t' = from_expr i z Q t d'.left d'.there in
      let l1 = at_most (rules i) t (at_most (rules i) d (at_most (rules i) q (at_most (rules i) w l))) in
      let a' = block_by n lines b p l1 one t'.left t'.there in
      let u' = from_word i z Q u a'.left a'.there in
      let b' = block_by n lines b p (at_most (rules i) u (at_most (rules i) one l1)) two u'.left u'.there in
      record { rest = b'.rest; is = (sg.a_conditional w'.is.1 w'.is.0 q'.is d'.is t'.is.0 a'.is.0 u'.is b'.is.0, (t'.is.1, a'.is.1, b'.is.1)); left = b'.left; there = b'.there }

  lines_by : (n : ℕ) → Lines n → Lines (suc n)
  lines_by n lines b p ls us _ ts w (the_first (in_turn {x = x} (with_room r s) (by_rule {v = v} l q j d k))) e h =
      let s' = from_statement s e h in
      let m' = from_mark i z Q (is_one l q j) s'.left s'.there in
      let d' = lines b (p - 1) _ _ _ _ (shorter q (at_most (rules i) s w)) d m'.left m'.there in
      record {
        rest = d'.rest;
        is = subst (λ (y : Block). LinesR b p ts (Then (begins_at x) (statement_of i x) y) d'.rest) (sym k) (sg.a_line s'.begins s'.is m'.is d'.is.0, (room_from i z Q P3 p ts _ e r, s'.keeps, d'.is.1));
        left = d'.left;
        there = d'.there;
      }
  lines_by n lines b p ls us _ ts w (the_second (with_room r t)) e h =
      let t' = tail_by n lines b (p - 1) w t e h in
      record { rest = t'.rest; is = (sg.a_tail t'.is.0, (room_from i z Q P3 p ts _ e r, t'.is.1)); left = t'.left; there = t'.there }

  -- without a token there is nothing
  no_lines : Lines zero
  no_lines b p ls us x ts w d e h = absurd (omega (arith, shorter_by (rules i) d refl, w))

  lines_at : (n : ℕ) → Lines n
  lines_at zero = no_lines
  lines_at (suc n) = lines_by n (lines_at n)

  pub from_lines : (b p : ℕ) {ls us : List Lexeme} {x : Derived (lines_of b p)} {ts : List Token} → Derives (rules i) Q (lines_of b p) ls x us → ls ≡ lexed i ts → There i ts → ByRelation i (LinesR b p) ts (block_of i b p x) us
  from_lines b p {ls} d e h = lines_at (length ls) b p ls _ _ _ (omega arith) d e h

  pub from_block : (b p : ℕ) {ls us : List Lexeme} {x : Derived (block b p)} {ts : List Token} → Derives (rules i) Q (block b p) ls x us → ls ≡ lexed i ts → There i ts → ByRelation i (BlockR b p) ts x.0 us
  from_block b p {ls} d e h = block_by (length ls) (lines_at (length ls)) b p (omega arith) d e h
