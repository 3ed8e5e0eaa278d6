-- Services: what the relations say, the data derives.
use Rattle.std.proofs.Common.{◌≡◌, ◌-◌, inl, inr, suc, length, arith, ℕ, List, [], ◌∷◌, refl, ◌∙◌, subst}
use Rattle.chor_base.specs.declared.rule.Rule.TheVariants.{P3}
use Rattle.chor_lexer.specs.declared.mark.Mark.TheVariants.{Comma, Bar, CloseParen}
use Rattle.chor_lexer.specs.declared.token.Token.{Token}
use Rattle.chor_lexer.specs.Lexeme.{Lexeme}
use Rattle.chor_tree.specs.declared.file.Named.{Named}
use Rattle.chor_tree.specs.declared.file.Service.{Service}
use Rattle.grammar.specs.Classes.{a_mark}
use Rattle.grammar.specs.Grammars.{Allowed, alt, after, in_turn, the_first, the_second, with_room, by_rule}
use Rattle.source_grammar.specs.Grammar as sg
use Rattle.source_grammar.specs.Limits.{KeepsMore, KeepsNames, KeepsServed, KeepsService}
use Rattle.source_rows.specs.Sources.{Source, mark, roles, served, roles_of, served_of, service}
use Rattle.source_rows.specs.Values.{Tables, Derived, Roles, name, served_list, role_lists, service_of}
use Rattle.source_bridge.specs.Bridge.{There, AreTables, ByData}
use Rattle.source_bridge.proofs.ToTerminals.{to_here, to_mark, to_word, to_name, room_to, separated}

-- the end of the second list
abbrev served_end : ℕ → Source
served_end n = alt (after (a_mark Comma) (served n)) (mark CloseParen)

-- the end of both lists
abbrev roles_end : ℕ → Source
roles_end n = alt (after (a_mark Comma) (roles n)) (alt (after (a_mark Bar) (served n)) (mark CloseParen))

abbrev more_served : (n : ℕ) → Derived (served_end n) → List Named
more_served n (inl xs) = xs
more_served n (inr v) = []

abbrev more_roles : (n : ℕ) → Derived (roles_end n) → Roles
more_roles n (inl v) = v
more_roles n (inr (inl ys)) = record { active = []; serve = ys }
more_roles n (inr (inr v)) = record { active = []; serve = [] }

module _ (i : Tables) (z : AreTables i) (Q : Allowed) where
  served_same : (n : ℕ) (x : Lexeme) (v : Derived (served_end (n - 1))) → served_list i n (x, v) ≡ name i x ∷ more_served (n - 1) v
  served_same n x (inl xs) = refl
  served_same n x (inr v) = refl

  roles_same : (n : ℕ) (x : Lexeme) (v : Derived (roles_end (n - 1))) → role_lists i n (x, v) ≡ record { active = name i x ∷ (more_roles (n - 1) v).active; serve = (more_roles (n - 1) v).serve }
  roles_same n x (inl v) = refl
  roles_same n x (inr (inl ys)) = refl
  roles_same n x (inr (inr v)) = refl

  -- what a list of names keeps
  abbrev KeepsMoreNames : (n : ℕ) {ts mid : List Token} {xs : List Named} → sg.MoreAre (sg.NameIs i.words) ts xs mid → Type 0
  KeepsMoreNames n m = KeepsMore Q (λ ts x rest d. Unit {0}) n m

  -- ---- the second list

  to_served_end : (n : ℕ) {ts mid rest : List Token} {xs : List Named} → (m : sg.MoreAre (sg.NameIs i.words) ts xs mid) → KeepsMoreNames n m → sg.MarkIs CloseParen mid rest → There i ts → ByData i Q (served_end n) (more_served n) ts xs rest
  to_served_end n sg.no_more k c h = to_here (to_mark i z Q c h) (λ c1 c2 c3 h0. record { value = inr c1; is = the_second c2; same = refl; there = h0 })
  to_served_end n (sg.one_more {t1 = t1} o x m) k c h =
      to_here (to_mark i z Q o h) (λ o1 o2 o3 h0.
      to_here (to_name i z Q x h0) (λ x1 x2 x3 h1.
      to_here (to_served_end (n - 1) m k.2 c h1) (λ m1 m2 m3 h2.
      separated i Q o2 (λ l p j. record {
        value = inl (served_list i n (x1, m1));
        is = the_first (by_rule l p j (in_turn (with_room (room_to i Q P3 n t1 k.0) x2) m2) refl);
        same = served_same n x1 m1 ∙ (λ o. x3 o ∷ m3 o);
        there = h2;
      }))))

  to_served : (n : ℕ) {ts mid rest : List Token} {xs : List Named} → (d : sg.NamesAre i.words ts xs mid) → KeepsNames Q n d → sg.MarkIs CloseParen mid rest → There i ts → ByData i Q (served_of n) (served_list i n) ts xs rest
  to_served n {ts = ts} (sg.a_list x m) k c h =
      to_here (to_name i z Q x h) (λ x1 x2 x3 h0.
      to_here (to_served_end (n - 1) m k.2 c h0) (λ m1 m2 m3 h1.
      record { value = (x1, m1); is = in_turn (with_room (room_to i Q P3 n ts k.0) x2) m2; same = served_same n x1 m1 ∙ (λ o. x3 o ∷ m3 o); there = h1 }))

  -- ---- both lists

  one_less : (n k : ℕ) → n - suc k ≡ (n - 1) - k
  one_less n k = omega arith

  all_left : (n : ℕ) → n - 0 ≡ n
  all_left n = omega arith

  to_roles_end : (n : ℕ) {ts t1 t2 rest : List Token} {xs ys : List Named} → (m : sg.MoreAre (sg.NameIs i.words) ts xs t1) → KeepsMoreNames n m → (d : sg.ServedAre i.words t1 ys t2) → KeepsServed Q (n - length xs) d → sg.MarkIs CloseParen t2 rest → There i ts → ByData i Q (roles_end n) (more_roles n) ts (record { active = xs; serve = ys }) rest
  to_roles_end n sg.no_more k sg.none_served u c h = to_here (to_mark i z Q c h) (λ c1 c2 c3 h0. record { value = inr (inr c1); is = the_second (the_second c2); same = refl; there = h0 })
  to_roles_end n sg.no_more k (sg.some_served b ns) u c h =
      to_here (to_mark i z Q b h) (λ b1 b2 b3 h0.
      to_here (to_served n ns (subst (λ (k : ℕ). KeepsNames Q k ns) (all_left n) u) c h0) (λ d1 d2 d3 h1.
      separated i Q b2 (λ l p j. record { value = inr (inl (served_list i n d1)); is = the_second (the_first (by_rule l p j d2 refl)); same = λ o. record { active = []; serve = d3 o }; there = h1 })))
  to_roles_end n (sg.one_more {t1 = t1} {xs = xs} o x m) k d u c h =
      to_here (to_mark i z Q o h) (λ o1 o2 o3 h0.
      to_here (to_name i z Q x h0) (λ x1 x2 x3 h1.
      to_here (to_roles_end (n - 1) m k.2 d (subst (λ (k : ℕ). KeepsServed Q k d) (one_less n (length xs)) u) c h1) (λ m1 m2 m3 h2.
      separated i Q o2 (λ l p j. record {
        value = inl (role_lists i n (x1, m1));
        is = the_first (by_rule l p j (in_turn (with_room (room_to i Q P3 n t1 k.0) x2) m2) refl);
        same = roles_same n x1 m1 ∙ (λ o. record { active = x3 o ∷ (m3 o).active; serve = (m3 o).serve });
        there = h2;
      }))))

  to_roles : (n : ℕ) {ts t1 t2 rest : List Token} {xs ys : List Named} → (m : sg.NamesAre i.words ts xs t1) → KeepsNames Q n m → (d : sg.ServedAre i.words t1 ys t2) → KeepsServed Q (n - length xs) d → sg.MarkIs CloseParen t2 rest → There i ts → ByData i Q (roles_of n) (role_lists i n) ts (record { active = xs; serve = ys }) rest
  to_roles n {ts = ts} (sg.a_list {xs = xs} x m) k d u c h =
      to_here (to_name i z Q x h) (λ x1 x2 x3 h0.
      to_here (to_roles_end (n - 1) m k.2 d (subst (λ (k : ℕ). KeepsServed Q k d) (one_less n (length xs)) u) c h0) (λ m1 m2 m3 h1.
      record { value = (x1, m1); is = in_turn (with_room (room_to i Q P3 n ts k.0) x2) m2; same = roles_same n x1 m1 ∙ (λ o. record { active = x3 o ∷ (m3 o).active; serve = (m3 o).serve }); there = h1 }))

  -- ---- services

  pub to_service : {ts rest : List Token} {s : Service} → (d : sg.ServiceIs i.words ts s rest) → KeepsService Q d → There i ts → ByData i Q service (service_of i) ts s rest
  to_service (sg.a_service w n c p o active serve e m) u h =
      to_here (to_word i z Q w h) (λ w1 w2 w3 h0.
      to_here (to_name i z Q n h0) (λ n1 n2 n3 h1.
      to_here (to_mark i z Q c h1) (λ c1 c2 c3 h2.
      to_here (to_name i z Q p h2) (λ p1 p2 p3 h3.
      to_here (to_mark i z Q o h3) (λ o1 o2 o3 h4.
      to_here (to_roles 16 active u.0 serve u.1 e h4) (λ r1 r2 r3 h5.
      to_here (to_mark i z Q m h5) (λ m1 m2 m3 h6.
      separated i Q o2 (λ l q j. record {
        value = (w1, (n1, (c1, (p1, (role_lists i 16 r1, m1)))));
        is = in_turn w2 (in_turn n2 (in_turn c2 (in_turn p2 (in_turn (by_rule l q j r2 refl) m2))));
        same = λ j. record { name = n3 j; protocol = p3 j; active = (r3 j).active; serve = (r3 j).serve };
        there = h6;
      }))))))))
