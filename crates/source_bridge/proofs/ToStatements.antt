-- Statements and blocks: what the relations say, the data derives.
use Rattle.std.proofs.Common.{◌≡◌, ◌-◌, inl, inr, ℕ, List, [], ◌∷◌, map, None, refl, sym, ap, ◌∙◌}
use Rattle.chor_base.specs.declared.rule.Place.{Place}
use Rattle.chor_base.specs.declared.rule.Rule.TheVariants.{P2, P3}
use Rattle.chor_lexer.specs.declared.token.Token.{Token}
use Rattle.chor_lexer.specs.declared.mark.Mark.TheVariants.{Comma}
use Rattle.chor_lexer.specs.Lexeme.{Lexeme}
use Rattle.chor_tree.specs.Source.{Statement, Starts, Sends, Selects, Gives, Sets, Asks, Shows, Block, Then, Either, Calls, Ends}
use Rattle.chor_tree.specs.declared.file.Named.{Named}
use Rattle.chor_tree.specs.declared.tree.Part.{Part}
use Rattle.grammar.specs.Classes.{a_mark}
use Rattle.grammar.specs.Grammars.{Allowed, Derives, more, is_one, in_turn, the_first, the_second, is_empty, no_more, one_more, with_room, by_rule}
use Rattle.source_grammar.specs.Grammar as sg
use Rattle.source_grammar.specs.Limits.{KeepsStatement, KeepsBlock, KeepsLines, KeepsTail}
use Rattle.source_rows.specs.Sources.{Source, NAME, commas, part, statement, block, tail, lines_of, passed}
use Rattle.source_rows.specs.Values.{Tables, Derived, rules, name, listing, role_of, statement_of, begins_at, block_of, tail_of, passed_of}
use Rattle.source_grammar.specs.Values.{StandsAt}
use Rattle.source_bridge.specs.Bridge.{lexed, There, AreTables, ByData}
use Rattle.source_bridge.proofs.ToTerminals.{to_here, to_mark, to_word, to_name, to_kept, room_to, any_room, separated}
use Rattle.source_bridge.proofs.ToExpressions.{to_expr}

module _ (i : Tables) (z : AreTables i) (Q : Allowed) where
  pub to_part : {ts rest : List Token} {p : Part} → sg.PartIs i.words ts p rest → There i ts → ByData i Q part (role_of i) ts p rest
  to_part (sg.a_part p o r c) h =
      to_here (to_name i z Q p h) (λ p1 p2 p3 h0.
      to_here (to_mark i z Q o h0) (λ o1 o2 o3 h1.
      to_here (to_name i z Q r h1) (λ r1 r2 r3 h2.
      to_here (to_mark i z Q c h2) (λ c1 c2 c3 h3.
      record { value = _; is = (in_turn p2 (in_turn o2 (in_turn r2 c2))); same = λ j. record { process = p3 j; role = r3 j }; there = h3 }))))

  -- ---- lists without a limit

  abbrev Item : Type 0 → Type 1
  Item A = List Token → A → List Token → Type 0

  to_more : {A : Type 0} {R : Item A} (g : Source) (f : Derived g → A) → ((ts : List Token) (x : A) (rest : List Token) → R ts x rest → There i ts → ByData i Q g f ts x rest) → {ts rest : List Token} {xs : List A} → sg.MoreAre R ts xs rest → There i ts → ByData i Q (more P3 None (a_mark Comma) g) (map f) ts xs rest
  to_more g f item sg.no_more h = record { value = []; is = no_more; same = refl; there = h }
  to_more g f item (sg.one_more c x m) h =
      to_here (to_mark i z Q c h) (λ c1 c2 c3 h0.
      to_here (item _ _ _ x h0) (λ x1 x2 x3 h1.
      to_here (to_more g f item m h1) (λ m1 m2 m3 h2.
      separated i Q c2 (λ l p k. record { value = x1 ∷ m1; is = one_more l p k (with_room (any_room Q P3 _) x2) m2; same = λ j. x3 j ∷ m3 j; there = h2 }))))

  pub to_list : {A : Type 0} {R : Item A} (g : Source) (f : Derived g → A) → ((ts : List Token) (x : A) (rest : List Token) → R ts x rest → There i ts → ByData i Q g f ts x rest) → {ts rest : List Token} {xs : List A} → sg.ListIs R ts xs rest → There i ts → ByData i Q (commas None g) (listing f) ts xs rest
  to_list g f item (sg.a_list x m) h =
      to_here (item _ _ _ x h) (λ x1 x2 x3 h1.
      to_here (to_more g f item m h1) (λ m1 m2 m3 h2.
      record { value = (x1, m1); is = in_turn (with_room (any_room Q P3 _) x2) m2; same = λ j. x3 j ∷ m3 j; there = h2 }))

  to_names : {ts rest : List Token} {ns : List Named} → sg.NamesAre i.words ts ns rest → There i ts → ByData i Q (commas None NAME) (listing (name i)) ts ns rest
  to_names d h = to_list NAME (name i) (λ ts x rest d h. to_name i z Q d h) d h

  to_parts : {ts rest : List Token} {ps : List Part} → sg.ListIs (sg.PartIs i.words) ts ps rest → There i ts → ByData i Q (commas None part) (listing (role_of i)) ts ps rest
  to_parts d h = to_list part (role_of i) (λ ts x rest d h. to_part d h) d h

  -- ---- statements

  pub to_statement : {ts rest : List Token} {s : Statement} → (d : sg.StatementIs i.words ts s rest) → KeepsStatement Q d → There i ts → ByData i Q statement (statement_of i) ts s rest
  to_statement (sg.a_start w c o k q m a (sg.some_new n s)) u h =
      to_here (to_kept i z Q w h) (λ w1 w2 w3 h0.
      to_here (to_name i z Q c h0) (λ c1 c2 c3 h1.
      to_here (to_mark i z Q o h1) (λ o1 o2 o3 h2.
      to_here (to_name i z Q k h2) (λ k1 k2 k3 h3.
      to_here (to_mark i z Q q h3) (λ q1 q2 q3 h4.
      to_here (to_mark i z Q m h4) (λ m1 m2 m3 h5.
      to_here (to_parts a h5) (λ a1 a2 a3 h6.
      to_here (to_word i z Q n h6) (λ n1 n2 n3 h7.
      to_here (to_parts s h7) (λ s1 s2 s3 h8.
      record { value = _; is = the_first (in_turn w2 (in_turn c2 (in_turn o2 (in_turn k2 (in_turn q2 (in_turn m2 (in_turn a2 (the_first (in_turn n2 s2))))))))); same = λ j. Starts (c3 j) (k3 j) (a3 j) (s3 j); there = h8 })))))))))
  to_statement (sg.a_start w c o k q m a sg.no_new) u h =
      to_here (to_kept i z Q w h) (λ w1 w2 w3 h0.
      to_here (to_name i z Q c h0) (λ c1 c2 c3 h1.
      to_here (to_mark i z Q o h1) (λ o1 o2 o3 h2.
      to_here (to_name i z Q k h2) (λ k1 k2 k3 h3.
      to_here (to_mark i z Q q h3) (λ q1 q2 q3 h4.
      to_here (to_mark i z Q m h4) (λ m1 m2 m3 h5.
      to_here (to_parts a h5) (λ a1 a2 a3 h6.
      record { value = _; is = the_first (in_turn w2 (in_turn c2 (in_turn o2 (in_turn k2 (in_turn q2 (in_turn m2 (in_turn a2 (the_second is_empty)))))))); same = λ j. Starts (c3 j) (k3 j) (a3 j) []; there = h6 })))))))
  to_statement (sg.a_value (sg.a_part p o r c) d x w b f v g k) u h =
      to_here (to_name i z Q p h) (λ p1 p2 p3 h0.
      to_here (to_mark i z Q o h0) (λ o1 o2 o3 h1.
      to_here (to_name i z Q r h1) (λ r1 r2 r3 h2.
      to_here (to_mark i z Q c h2) (λ c1 c2 c3 h3.
      to_here (to_mark i z Q d h3) (λ d1 d2 d3 h4.
      to_here (to_expr i z Q x u h4) (λ x1 x2 x3 h5.
      to_here (to_mark i z Q w h5) (λ w1 w2 w3 h6.
      to_here (to_part b h6) (λ b1 b2 b3 h7.
      to_here (to_mark i z Q f h7) (λ f1 f2 f3 h8.
      to_here (to_name i z Q v h8) (λ v1 v2 v3 h9.
      to_here (to_mark i z Q g h9) (λ g1 g2 g3 h10.
      to_here (to_name i z Q k h10) (λ k1 k2 k3 h11.
      record { value = _; is = the_second (in_turn p2 (the_first (in_turn o2 (in_turn r2 (in_turn c2 (the_first (in_turn d2 (in_turn x2 (in_turn w2 (in_turn b2 (in_turn f2 (in_turn v2 (in_turn g2 k2))))))))))))); same = λ j. Sends (record { process = p3 j; role = r3 j }) (x3 j) (b3 j) (v3 j).name (k3 j); there = h11 }))))))))))))
  to_statement (sg.a_label (sg.a_part p o r c) w b m k d l) u h =
      to_here (to_name i z Q p h) (λ p1 p2 p3 h0.
      to_here (to_mark i z Q o h0) (λ o1 o2 o3 h1.
      to_here (to_name i z Q r h1) (λ r1 r2 r3 h2.
      to_here (to_mark i z Q c h2) (λ c1 c2 c3 h3.
      to_here (to_mark i z Q w h3) (λ w1 w2 w3 h4.
      to_here (to_part b h4) (λ b1 b2 b3 h5.
      to_here (to_mark i z Q m h5) (λ m1 m2 m3 h6.
      to_here (to_name i z Q k h6) (λ k1 k2 k3 h7.
      to_here (to_mark i z Q d h7) (λ d1 d2 d3 h8.
      to_here (to_name i z Q l h8) (λ l1 l2 l3 h9.
      record { value = _; is = the_second (in_turn p2 (the_first (in_turn o2 (in_turn r2 (in_turn c2 (the_second (in_turn w2 (in_turn b2 (in_turn m2 (in_turn k2 (the_first (in_turn d2 l2)))))))))))); same = λ j. Selects (record { process = p3 j; role = r3 j }) (b3 j) (k3 j) (l3 j).name; there = h9 }))))))))))
  to_statement (sg.a_delegation (sg.a_part p o r c) w b m k a g q) u h =
      to_here (to_name i z Q p h) (λ p1 p2 p3 h0.
      to_here (to_mark i z Q o h0) (λ o1 o2 o3 h1.
      to_here (to_name i z Q r h1) (λ r1 r2 r3 h2.
      to_here (to_mark i z Q c h2) (λ c1 c2 c3 h3.
      to_here (to_mark i z Q w h3) (λ w1 w2 w3 h4.
      to_here (to_part b h4) (λ b1 b2 b3 h5.
      to_here (to_mark i z Q m h5) (λ m1 m2 m3 h6.
      to_here (to_name i z Q k h6) (λ k1 k2 k3 h7.
      to_here (to_mark i z Q a h7) (λ a1 a2 a3 h8.
      to_here (to_part g h8) (λ g1 g2 g3 h9.
      to_here (to_mark i z Q q h9) (λ q1 q2 q3 h10.
      record { value = _; is = the_second (in_turn p2 (the_first (in_turn o2 (in_turn r2 (in_turn c2 (the_second (in_turn w2 (in_turn b2 (in_turn m2 (in_turn k2 (the_second (in_turn a2 (in_turn g2 q2))))))))))))); same = λ j. Gives (record { process = p3 j; role = r3 j }) (b3 j) (k3 j) (g3 j); there = h10 })))))))))))
  to_statement (sg.a_set p d x b t) u h =
      to_here (to_name i z Q p h) (λ p1 p2 p3 h0.
      to_here (to_mark i z Q d h0) (λ d1 d2 d3 h1.
      to_here (to_name i z Q x h1) (λ x1 x2 x3 h2.
      to_here (to_mark i z Q b h2) (λ b1 b2 b3 h3.
      to_here (to_expr i z Q t u h3) (λ t1 t2 t3 h4.
      record { value = _; is = the_second (in_turn p2 (the_second (the_first (in_turn d2 (in_turn x2 (in_turn b2 (the_second t2))))))); same = λ j. Sets (p3 j) (x3 j).name (t3 j); there = h4 })))))
  to_statement (sg.a_host_call p d x b w f a l m r q) u h =
      to_here (to_name i z Q p h) (λ p1 p2 p3 h0.
      to_here (to_mark i z Q d h0) (λ d1 d2 d3 h1.
      to_here (to_name i z Q x h1) (λ x1 x2 x3 h2.
      to_here (to_mark i z Q b h2) (λ b1 b2 b3 h3.
      to_here (to_word i z Q w h3) (λ w1 w2 w3 h4.
      to_here (to_name i z Q f h4) (λ f1 f2 f3 h5.
      to_here (to_mark i z Q a h5) (λ a1 a2 a3 h6.
      to_here (to_expr i z Q l u.0 h6) (λ l1 l2 l3 h7.
      to_here (to_mark i z Q m h7) (λ m1 m2 m3 h8.
      to_here (to_expr i z Q r u.1 h8) (λ r1 r2 r3 h9.
      to_here (to_mark i z Q q h9) (λ q1 q2 q3 h10.
      record { value = _; is = the_second (in_turn p2 (the_second (the_first (in_turn d2 (in_turn x2 (in_turn b2 (the_first (in_turn w2 (in_turn f2 (in_turn a2 (in_turn l2 (in_turn m2 (in_turn r2 q2))))))))))))); same = λ j. Asks (p3 j) (x3 j).name (f3 j) (l3 j) (r3 j); there = h10 })))))))))))
  to_statement (sg.a_show p w t) u h =
      to_here (to_name i z Q p h) (λ p1 p2 p3 h0.
      to_here (to_word i z Q w h0) (λ w1 w2 w3 h1.
      to_here (to_expr i z Q t u h1) (λ t1 t2 t3 h2.
      record { value = _; is = the_second (in_turn p2 (the_second (the_second (in_turn w2 t2)))); same = λ j. Shows (p3 j) (t3 j); there = h2 })))

  -- ---- blocks

  same_first : {l m : Lexeme} {ls us vs : List Lexeme} → ls ≡ l ∷ us → ls ≡ m ∷ vs → l ≡ m
  same_first {l} {m} {ls} {us} {vs} p q = let e : l ∷ us ≡ m ∷ vs = sym p ∙ q in cc

  begins : {ls us vs : List Lexeme} {l : Lexeme} {x : Derived statement} → Derives (rules i) Q statement ls x us → ls ≡ l ∷ vs → begins_at x ≡ l.place
  begins (the_first (in_turn (is_one m p j) d)) e = ap (λ (x : Lexeme). x.place) (same_first p e)
  begins (the_second (in_turn (is_one m p j) d)) e = ap (λ (x : Lexeme). x.place) (same_first p e)

  same_token : {t u : Token} {ts us vs : List Token} → ts ≡ t ∷ us → ts ≡ u ∷ vs → t ≡ u
  same_token {t} {u} {ts} {us} {vs} p q = let e : t ∷ us ≡ u ∷ vs = sym p ∙ q in cc

  pub stands : {p : Place} {w : List ℕ} {ts rest : List Token} → (a : StandsAt p ts) → (d : sg.WordIs i.words w ts rest) → d.token.place ≡ p
  stands a d = ap (λ (t : Token). t.place) (same_token d.parts a.parts) ∙ sym a.place

  to_passed : {ts rest : List Token} {ps ss : List Named} → sg.PassedAre i.words ts ps ss rest → There i ts → ByData i Q passed (passed_of i) ts (ps, ss) rest
  to_passed sg.nothing_passed h = record { value = inr tt; is = the_second is_empty; same = refl; there = h }
  to_passed (sg.processes_passed p sg.no_session_passed) h = to_here (to_names p h) (λ p1 p2 p3 h0. record { value = inl (p1, inr tt); is = the_first (in_turn p2 (the_second is_empty)); same = λ j. (p3 j, []); there = h0 })
  to_passed (sg.processes_passed p (sg.sessions_passed m s)) h =
      to_here (to_names p h) (λ p1 p2 p3 h0.
      to_here (to_mark i z Q m h0) (λ m1 m2 m3 h1.
      to_here (to_names s h1) (λ s1 s2 s3 h2.
      record { value = inl (p1, inl (m1, s1)); is = the_first (in_turn p2 (the_first (in_turn m2 s2))); same = λ j. (p3 j, s3 j); there = h2 })))

  mutual
    pub to_block : (b p : ℕ) {ts rest : List Token} {x : Block} → (d : sg.BlockIs i.words ts x rest) → KeepsBlock Q b p d → There i ts → ByData i Q (block b p) (λ v. v.0) ts x rest
    to_block b p {ts = ts} (sg.a_block o d c) k h =
        to_here (to_mark i z Q o h) (λ o1 o2 o3 h0.
        to_here (to_lines (b - 1) p d k.1 h0) (λ d1 d2 d3 h1.
        to_here (to_mark i z Q c h1) (λ c1 c2 c3 h2.
        separated i Q o2 (λ l q y. record { value = (block_of i (b - 1) p d1, c1); is = in_turn (with_room (room_to i Q P2 b ts k.0) (by_rule l q y d2 refl)) c2; same = d3; there = h2 }))))

    pub to_lines : (b p : ℕ) {ts rest : List Token} {x : Block} → (d : sg.LinesAre i.words ts x rest) → KeepsLines Q b p d → There i ts → ByData i Q (lines_of b p) (block_of i b p) ts x rest
    to_lines b p {ts = ts} (sg.a_line a s m d) k h =
        to_here (to_statement s k.1 h) (λ s1 s2 s3 h0.
        to_here (to_mark i z Q m h0) (λ m1 m2 m3 h1.
        to_here (to_lines b (p - 1) d k.2 h1) (λ d1 d2 d3 h2.
        separated i Q m2 (λ l q y. let e = begins s2 (ap (lexed i) a.parts) ∙ sym a.place in record {
          value = inl (s1, block_of i b (p - 1) d1);
          is = the_first (in_turn (with_room (room_to i Q P3 p ts k.0) s2) (by_rule l q y d2 refl));
          same = λ j. Then (e j) (s3 j) (d3 j);
          there = h2;
        }))))
    to_lines b p {ts = ts} (sg.a_tail t) k h = to_here (to_tail b (p - 1) t k.1 h) (λ t1 t2 t3 h0. record { value = inr t1; is = the_second (with_room (room_to i Q P3 p ts k.0) t2); same = t3; there = h0 })

    to_tail : (b p : ℕ) {ts rest : List Token} {x : Block} → (d : sg.TailIs i.words ts x rest) → KeepsTail Q b p d → There i ts → ByData i Q (tail b p) (tail_of i b p) ts x rest
    to_tail b p (sg.an_end a w) k h = to_here (to_kept i z Q w h) (λ w1 w2 w3 h0. record { value = inl w1; is = the_first w2; same = ap Ends (w3 ∙ stands a w); there = h0 })
    to_tail b p (sg.a_call a w f o v c) k h =
        to_here (to_kept i z Q w h) (λ w1 w2 w3 h0.
        to_here (to_name i z Q f h0) (λ f1 f2 f3 h1.
        to_here (to_mark i z Q o h1) (λ o1 o2 o3 h2.
        to_here (to_passed v h2) (λ v1 v2 v3 h3.
        to_here (to_mark i z Q c h3) (λ c1 c2 c3 h4.
        let e = w3 ∙ stands a w in
        record { value = inr (inl (w1, (f1, (o1, (v1, c1))))); is = the_second (the_first (in_turn w2 (in_turn f2 (in_turn o2 (in_turn v2 c2))))); same = λ j. Calls (e j) (f3 j) (v3 j).0 (v3 j).1; there = h4 })))))
    to_tail b p (sg.a_conditional a w q d t one v two) k h =
        to_here (to_kept i z Q w h) (λ w1 w2 w3 h0.
        to_here (to_name i z Q q h0) (λ q1 q2 q3 h1.
        to_here (to_mark i z Q d h1) (λ d1 d2 d3 h2.
        to_here (to_expr i z Q t k.0 h2) (λ t1 t2 t3 h3.
        to_here (to_block b p one k.1 h3) (λ x1 x2 x3 h4.
        to_here (to_word i z Q v h4) (λ v1 v2 v3 h5.
        to_here (to_block b p two k.2 h5) (λ y1 y2 y3 h6.
        let e = w3 ∙ stands a w in
        record { value = inr (inr (w1, (q1, (d1, (t1, (x1, (v1, y1))))))); is = the_second (the_second (in_turn w2 (in_turn q2 (in_turn d2 (in_turn t2 (in_turn x2 (in_turn v2 y2))))))); same = λ j. Either (e j) (q3 j) (t3 j) (x3 j) (y3 j); there = h6 })))))))
