-- Headers, what stands before main, main and whole files: what the relations say, the data derives.
use Rattle.std.proofs.Common.{◌≡◌, ◌⊎◌, not, inl, inr, ℕ, pos, Bool, true, false, List, [], ◌∷◌, Option, Some, None, refl, ap, ◌∙◌, arith}
use Rattle.std.proofs.lemmas.Bool.Decides.{nat_tests}
use Rattle.chor_base.specs.declared.rule.Place.{Place}
use Rattle.chor_base.specs.declared.rule.Rule.TheVariants.{P3}
use Rattle.chor_lexer.specs.declared.token.Kind.{Kind}
use Rattle.chor_lexer.specs.declared.token.Kind.TheVariants as kind
use Rattle.chor_lexer.specs.declared.token.Token.{Token}
use Rattle.chor_lexer.specs.Lexeme.{number, Lexeme}
use Rattle.chor_tree.specs.declared.header.Header.{Header}
use Rattle.chor_tree.specs.declared.file.Named.{Named}
use Rattle.chor_tree.specs.Headers.{is_capacity}
use Rattle.chor_tree.specs.Source.{Items, Source as Tree}
use Rattle.grammar.specs.Classes.{Class, exactly, a_number_in, a_number_out, the_end, is_in, is_of, says}
use Rattle.grammar.specs.Grammars.{Allowed, Derives, one, many, optional, is_empty, is_one, in_turn, the_first, the_second, none_of_many, one_of_many, with_room}
use Rattle.source_grammar.specs.Symbols.{AllowsFirst}
use Rattle.source_grammar.specs.Grammar as sg
use Rattle.source_grammar.specs.Limits.{Keeps, KeepsAnyNames, KeepsCapacity, KeepsHeader, KeepsItems}
use Rattle.source_rows.specs.Sources.{item, processes, declared, header, capacity}
use Rattle.source_rows.specs.Values.{Tables, Derived, rules, number_of, items_of, processes_of, capacity_of, header_of}
use Rattle.source_bridge.specs.Bridge.{symbol_of, lexeme_of, lexed, There, AreTables, ByData}
use Rattle.source_bridge.specs.Laws.{DeriveSource}
use Rattle.source_bridge.proofs.ToTerminals.{to_here, to_mark, to_word, to_kept, kind_is, there_after, room_to, any_room}
use Rattle.source_bridge.proofs.ToStatements.{stands, to_block}
use Rattle.source_bridge.proofs.ToProtocols.{to_limited_names, to_protocol}
use Rattle.source_bridge.proofs.ToServices.{to_service}
use Rattle.source_bridge.proofs.ToHeads.{to_procedure}

in_so : (n : ℕ) → is_capacity n ≡ true → is_in 1 999999 n ≡ true
in_so n h = grind (arith, nat_tests)

out_so : (n : ℕ) → is_capacity n ≡ false → not (is_in 1 999999 n) ≡ true
out_so n h = grind (arith, nat_tests)

module _ (i : Tables) (z : AreTables i) (Q : Allowed) where
  to_number : (c : Class) {n : ℕ} {ts rest : List Token} → (d : sg.NumberIs n ts rest) → is_of c (number n) ≡ true → Derives (rules i) Q (one c) (lexed i ts) (says c (lexeme_of i d.token)) (lexed i rest)
  to_number c {n} d h = is_one (lexeme_of i d.token) (ap (lexed i) d.parts) (kind_is i c d.token (kind.Number (pos n)) d.is h)

  number_same : {n : ℕ} {ts rest : List Token} → (d : sg.NumberIs n ts rest) → number_of i (symbol_of i d.token.kind) ≡ n
  number_same d = ap (λ (q : Kind). number_of i (symbol_of i q)) d.is

  number_after : {n : ℕ} {ts rest : List Token} → (d : sg.NumberIs n ts rest) → There i ts → There i rest
  number_after d h = (there_after i d.parts h).1

  -- ---- headers

  -- a number, and what is made of it
  record ANumber (n : ℕ) (ts rest : List Token) : Type 0 where
    value : Derived capacity
    is : Derives (rules i) Q capacity (lexed i ts) value (lexed i rest)
    lexeme : Lexeme
    same : number_of i lexeme.symbol ≡ n
    which : (value ≡ inl lexeme) ⊎ (value ≡ inr lexeme)

  to_capacity : (n : ℕ) (b : Bool) {ts rest : List Token} → is_capacity n ≡ b → (d : sg.NumberIs n ts rest) → (is_capacity n ≡ false → AllowsFirst Q P3 ts) → ANumber n ts rest
  to_capacity n true e d k = record { value = inl _; is = the_first (to_number (a_number_in 1 999999) d (in_so n e)); lexeme = lexeme_of i d.token; same = number_same d; which = inl refl }
  to_capacity n false {ts = ts} e d k = record { value = inr _; is = the_second (with_room (room_to i Q P3 0 ts (λ q. k e)) (to_number (a_number_out 1 999999) d (out_so n e))); lexeme = lexeme_of i d.token; same = number_same d; which = inr refl }

  to_declared : {ts rest : List Token} {c : Option ℕ} {p : Place} → (d : sg.CapacityIs i.words ts c p rest) → KeepsCapacity Q d → There i ts → ByData i Q declared (capacity_of i) ts (c, p) rest
  to_declared sg.no_capacity k h = record { value = inr tt; is = the_second is_empty; same = refl; there = h }
  to_declared (sg.a_capacity {n = n} a w d m) k h =
      to_here (to_kept i z Q w h) (λ w1 w2 w3 h0.
      to_here (to_mark i z Q m (number_after d h0)) (λ m1 m2 m3 h1.
      let e = w3 ∙ stands i z Q a w in
      let c = to_capacity n (is_capacity n) refl d k in
      record { value = inl (w1, (c.value, m1)); is = the_first (in_turn w2 (in_turn c.is m2)); same = read w1 m1 c.value c.lexeme c.which c.same e; there = h1 }))
    where
      read : (w : Lexeme) (m : Unit {0}) (v : Derived capacity) (l : Lexeme) → (v ≡ inl l) ⊎ (v ≡ inr l) → {n : ℕ} {p : Place} → number_of i l.symbol ≡ n → w.place ≡ p → capacity_of i (inl (w, (v, m))) ≡ (Some n, p)
      read w m v l (inl f) s e = ap (λ (x : Derived capacity). capacity_of i (inl (w, (x, m)))) f ∙ (λ j. (Some (s j), e j))
      read w m v l (inr f) s e = ap (λ (x : Derived capacity). capacity_of i (inl (w, (x, m)))) f ∙ (λ j. (Some (s j), e j))

  to_header : {ts rest : List Token} {x : Header} → (d : sg.HeaderIs i.words ts x rest) → KeepsHeader Q d → There i ts → ByData i Q (optional header) (header_of i) ts x rest
  to_header sg.without_header k h = record { value = inr tt; is = the_second is_empty; same = refl; there = h }
  to_header (sg.a_header w n m c) k h =
      to_here (to_word i z Q w h) (λ w1 w2 w3 h0.
      to_here (to_mark i z Q m (number_after n h0)) (λ m1 m2 m3 h1.
      to_here (to_declared c k h1) (λ c1 c2 c3 h2.
      record {
        value = inl (w1, (tt, (m1, c1)));
        is = the_first (in_turn w2 (in_turn (to_number (exactly 2) n refl) (in_turn m2 c2)));
        same = λ j. record { version = 2; capacity = (c3 j).0; place = (c3 j).1 };
        there = h2;
      })))

  -- ---- files

  to_items : {ts rest : List Token} {x : Items} → (d : sg.ItemsAre i.words ts x rest) → KeepsItems Q d → There i ts → ByData i Q (many P3 None item) (items_of i) ts x rest
  to_items sg.no_item k h = record { value = []; is = none_of_many; same = refl; there = h }
  to_items (sg.protocol_first d m) k h =
      to_here (to_protocol i z Q d k.0 h) (λ d1 d2 d3 h0.
      to_here (to_items m k.1 h0) (λ m1 m2 m3 h1.
      record { value = inl d1 ∷ m1; is = one_of_many (any_room Q P3 _) (the_first d2) m2; same = λ j. record { protocols = d3 j ∷ (m3 j).protocols; services = (m3 j).services; procedures = (m3 j).procedures }; there = h1 }))
  to_items (sg.service_first d m) k h =
      to_here (to_service i z Q d k.0 h) (λ d1 d2 d3 h0.
      to_here (to_items m k.1 h0) (λ m1 m2 m3 h1.
      record { value = inr (inl d1) ∷ m1; is = one_of_many (any_room Q P3 _) (the_second (the_first d2)) m2; same = λ j. record { protocols = (m3 j).protocols; services = d3 j ∷ (m3 j).services; procedures = (m3 j).procedures }; there = h1 }))
  to_items (sg.procedure_first d m) k h =
      to_here (to_procedure i z Q d k.0 h) (λ d1 d2 d3 h0.
      to_here (to_items m k.1 h0) (λ m1 m2 m3 h1.
      record { value = inr (inr d1) ∷ m1; is = one_of_many (any_room Q P3 _) (the_second (the_second d2)) m2; same = λ j. record { protocols = (m3 j).protocols; services = (m3 j).services; procedures = d3 j ∷ (m3 j).procedures }; there = h1 }))

  to_processes : {ts rest : List Token} {ns : List Named} → (d : sg.AnyNamesAre i.words ts ns rest) → KeepsAnyNames Q 64 d → There i ts → ByData i Q processes (processes_of i) ts ns rest
  to_processes sg.no_names k h = record { value = inr tt; is = the_second is_empty; same = refl; there = h }
  to_processes (sg.some_names d) k h = to_here (to_limited_names i z Q 64 d k h) (λ d1 d2 d3 h0. record { value = inl d1; is = the_first d2; same = d3; there = h0 })

  to_end : {ts : List Token} → sg.EndIs ts → Derives (rules i) Q (one the_end) (lexed i ts) tt []
  to_end d = is_one (lexeme_of i d.token) (ap (lexed i) d.alone) (kind_is i the_end d.token kind.Last d.last refl)

  pub to_file : {ts : List Token} {s : Tree} → (d : sg.FileIs i.words ts s) → Keeps Q d → There i ts → DeriveSource i Q ts s
  to_file (sg.a_file g xs w o ps c b e) k h =
      to_here (to_header g k.0 h) (λ g1 g2 g3 h0.
      to_here (to_items xs k.1 h0) (λ x1 x2 x3 h1.
      to_here (to_word i z Q w h1) (λ w1 w2 w3 h2.
      to_here (to_mark i z Q o h2) (λ o1 o2 o3 h3.
      to_here (to_processes ps k.2 h3) (λ p1 p2 p3 h4.
      to_here (to_mark i z Q c h4) (λ c1 c2 c3 h5.
      to_here (to_block i z Q 64 1024 b k.3 h5) (λ b1 b2 b3 h6.
      record {
        value = (g1, (x1, ((w1, (o1, (p1, (c1, b1)))), tt)));
        is = in_turn g2 (in_turn x2 (in_turn (in_turn w2 (in_turn o2 (in_turn p2 (in_turn c2 b2)))) (to_end e)));
        same = λ j. record { header = g3 j; items = x3 j; processes = p3 j; body = b3 j };
      })))))))
