-- Services: what the data derives, the relations say. Both lists of roles have one limit.
use Rattle.std.proofs.Common.{◌≡◌, ◌-◌, ◌≤◌, zero, suc, length, arith, ℕ, List, [], ◌∷◌, refl, sym, subst}
use Rattle.chor_base.specs.declared.rule.Rule.TheVariants.{P3}
use Rattle.chor_lexer.specs.declared.mark.Mark.TheVariants.{Comma, CloseParen}
use Rattle.chor_lexer.specs.declared.token.Token.{Token}
use Rattle.chor_lexer.specs.Lexeme.{Lexeme}
use Rattle.chor_tree.specs.declared.file.Named.{Named}
use Rattle.grammar.specs.Grammars.{Allowed, Derives, is_one, in_turn, the_first, the_second, with_room, by_rule}
use Rattle.grammar.proofs.Progress.{shorter as shorter_by}
use Rattle.source_grammar.specs.Grammar as sg
use Rattle.source_grammar.specs.Limits.{KeepsNames, KeepsServed, KeepsService}
use Rattle.source_grammar.specs.Symbols.{Room}
use Rattle.source_rows.specs.Sources.{roles_of, served_of, service}
use Rattle.source_rows.specs.Values.{Tables, Derived, rules, Roles, name, service_of, served_list, role_lists}
use Rattle.source_bridge.specs.Bridge.{lexed, There, AreTables, ByRelation}
use Rattle.source_bridge.proofs.Terminals.{from_mark, from_word, from_name, room_from}
use Rattle.source_bridge.proofs.FromExpressions.{at_most, shorter}
use Rattle.source_bridge.proofs.FromStatements.{from_here}

module _ (i : Tables) (z : AreTables i) (Q : Allowed) where
  -- names within a limit, and a parenthesis
  pub record Closed (n : ℕ) (ts : List Token) (xs : List Named) (rest : List Token) : Type 0 where
    pub mid : List Token
    pub names : sg.NamesAre i.words ts xs mid
    pub keeps : KeepsNames Q n names
    pub close : sg.MarkIs CloseParen mid rest

  -- both lists within one limit, and a parenthesis
  pub record ClosedRoles (n : ℕ) (ts : List Token) (v : Roles) (rest : List Token) : Type 0 where
    pub mid : List Token
    pub end : List Token
    pub names : sg.NamesAre i.words ts v.active mid
    pub keeps : KeepsNames Q n names
    pub served : sg.ServedAre i.words mid v.serve end
    pub served_keep : KeepsServed Q (n - length v.active) served
    pub close : sg.MarkIs CloseParen end rest

  -- one name before a list
  record Longer (n : ℕ) (ts : List Token) (xs : List Named) (mid : List Token) : Type 0 where
    names : sg.NamesAre i.words ts xs mid
    keeps : KeepsNames Q n names

  one_longer : (n : ℕ) {t0 t1 t2 mid : List Token} {x : Named} {xs : List Named} → sg.NameIs i.words t0 x t1 → Room Q P3 n t0 → sg.MarkIs Comma t1 t2 → (d : sg.NamesAre i.words t2 xs mid) → KeepsNames Q (n - 1) d → Longer n t0 (x ∷ xs) mid
  one_longer n x r c (sg.a_list y m) k = record { names = sg.a_list x (sg.one_more c y m); keeps = (r, tt, k) }

  one_less : (n k : ℕ) → (n - 1) - k ≡ n - suc k
  one_less n k = omega arith

  one_role : (n : ℕ) {t0 t1 t2 rest : List Token} {x : Named} {v : Roles} → sg.NameIs i.words t0 x t1 → Room Q P3 n t0 → sg.MarkIs Comma t1 t2 → ClosedRoles (n - 1) t2 v rest → ClosedRoles n t0 (record { active = x ∷ v.active; serve = v.serve }) rest
  one_role n {v = v} x r c d =
      let a = one_longer n x r c d.names d.keeps in
      record {
        mid = d.mid;
        end = d.end;
        names = a.names;
        keeps = a.keeps;
        served = d.served;
        served_keep = subst (λ (k : ℕ). KeepsServed Q k d.served) (one_less n (length v.active)) d.served_keep;
        close = d.close;
      }

  -- ---- the second list

  -- with so many tokens at most
  abbrev Served : ℕ → Type 0
  Served k = (n : ℕ) (ls us : List Lexeme) (x : Derived (served_of n)) (ts : List Token) → length ls ≤ k → Derives (rules i) Q (served_of n) ls x us → ls ≡ lexed i ts → There i ts → ByRelation i (Closed n) ts (served_list i n x) us

  served_by : (k : ℕ) → Served k → Served (suc k)
  served_by k more n ls us _ ts w (in_turn {x = l} (with_room r x) (the_first (by_rule m p g d s))) e h =
      from_here i z Q (from_name i z Q x e h) (λ t0 x' e0 h0.
      from_here i z Q (from_mark i z Q (is_one m p g) e0 h0) (λ t1 c' e1 h1.
      from_here i z Q (more (n - 1) _ _ _ _ (shorter p (at_most (rules i) x w)) d e1 h1) (λ t2 d' e2 h2.
      let a = one_longer n x' (room_from i z Q P3 n ts _ e r) c' d'.names d'.keeps in
      record { rest = t2; is = subst (λ (y : List Named). Closed n ts (name i l ∷ y) t2) (sym s) (record { mid = d'.mid; names = a.names; keeps = a.keeps; close = d'.close }); left = e2; there = h2 })))
  served_by k more n ls us _ ts w (in_turn (with_room r x) (the_second c)) e h =
      from_here i z Q (from_name i z Q x e h) (λ t0 x' e0 h0.
      from_here i z Q (from_mark i z Q c e0 h0) (λ t1 c' e1 h1.
      record { rest = t1; is = record { mid = t0; names = sg.a_list x' sg.no_more; keeps = (room_from i z Q P3 n ts _ e r, tt, tt); close = c' }; left = e1; there = h1 }))

  served_at : (k : ℕ) → Served k
  served_at zero = λ n ls us x ts w d e h. absurd (omega (arith, shorter_by (rules i) d refl, w))
  served_at (suc k) = served_by k (served_at k)

  -- ---- both lists

  abbrev Roled : ℕ → Type 0
  Roled k = (n : ℕ) (ls us : List Lexeme) (x : Derived (roles_of n)) (ts : List Token) → length ls ≤ k → Derives (rules i) Q (roles_of n) ls x us → ls ≡ lexed i ts → There i ts → ByRelation i (ClosedRoles n) ts (role_lists i n x) us

  roles_by : (k : ℕ) → Roled k → Roled (suc k)
  roles_by k more n ls us _ ts w (in_turn {x = l} (with_room r x) (the_first (by_rule m p g d s))) e h =
      from_here i z Q (from_name i z Q x e h) (λ t0 x' e0 h0.
      from_here i z Q (from_mark i z Q (is_one m p g) e0 h0) (λ t1 c' e1 h1.
      from_here i z Q (more (n - 1) _ _ _ _ (shorter p (at_most (rules i) x w)) d e1 h1) (λ t2 d' e2 h2.
      record { rest = t2; is = subst (λ (y : Roles). ClosedRoles n ts (record { active = name i l ∷ y.active; serve = y.serve }) t2) (sym s) (one_role n x' (room_from i z Q P3 n ts _ e r) c' d'); left = e2; there = h2 })))
  roles_by k more n ls us _ ts w (in_turn {x = l} (with_room r x) (the_second (the_first (by_rule m p g d s)))) e h =
      from_here i z Q (from_name i z Q x e h) (λ t0 x' e0 h0.
      from_here i z Q (from_mark i z Q (is_one m p g) e0 h0) (λ t1 b' e1 h1.
      from_here i z Q (served_at k (n - 1) _ _ _ _ (shorter p (at_most (rules i) x w)) d e1 h1) (λ t2 d' e2 h2.
      record {
        rest = t2;
        is = subst (λ (y : List Named). ClosedRoles n ts (record { active = name i l ∷ []; serve = y }) t2) (sym s) (record {
          mid = t0;
          end = d'.mid;
          names = sg.a_list x' sg.no_more;
          keeps = (room_from i z Q P3 n ts _ e r, tt, tt);
          served = sg.some_served b' d'.names;
          served_keep = d'.keeps;
          close = d'.close;
        });
        left = e2;
        there = h2;
      })))
  roles_by k more n ls us _ ts w (in_turn (with_room r x) (the_second (the_second c))) e h =
      from_here i z Q (from_name i z Q x e h) (λ t0 x' e0 h0.
      from_here i z Q (from_mark i z Q c e0 h0) (λ t1 c' e1 h1.
      record {
        rest = t1;
        is = record { mid = t0; end = t0; names = sg.a_list x' sg.no_more; keeps = (room_from i z Q P3 n ts _ e r, tt, tt); served = sg.none_served; served_keep = tt; close = c' };
        left = e1;
        there = h1;
      }))

  roles_at : (k : ℕ) → Roled k
  roles_at zero = λ n ls us x ts w d e h. absurd (omega (arith, shorter_by (rules i) d refl, w))
  roles_at (suc k) = roles_by k (roles_at k)

  from_roles : (n : ℕ) {ls us : List Lexeme} {x : Derived (roles_of n)} {ts : List Token} → Derives (rules i) Q (roles_of n) ls x us → ls ≡ lexed i ts → There i ts → ByRelation i (ClosedRoles n) ts (role_lists i n x) us
  from_roles n {ls} d e h = roles_at (length ls) n ls _ _ _ (omega arith) d e h

  -- ---- services

  pub from_service : {ls us : List Lexeme} {x : Derived service} {ts : List Token} → Derives (rules i) Q service ls x us → ls ≡ lexed i ts → There i ts → ByRelation i (λ a y b. (d : sg.ServiceIs i.words a y b) × KeepsService Q d) ts (service_of i x) us
  from_service (in_turn w (in_turn n (in_turn c (in_turn p (in_turn (by_rule {v = v} l q j d s) m))))) e h =
      from_here i z Q (from_word i z Q w e h) (λ t0 w' e0 h0.
      from_here i z Q (from_name i z Q n e0 h0) (λ t1 n' e1 h1.
      from_here i z Q (from_mark i z Q c e1 h1) (λ t2 c' e2 h2.
      from_here i z Q (from_name i z Q p e2 h2) (λ t3 p' e3 h3.
      from_here i z Q (from_mark i z Q (is_one l q j) e3 h3) (λ t4 o' e4 h4.
      from_here i z Q (from_roles 16 d e4 h4) (λ t5 r' e5 h5.
      from_here i z Q (from_mark i z Q m e5 h5) (λ t6 m' e6 h6.
      let r = subst (λ (y : Roles). ClosedRoles 16 t4 y t5) (sym s) r' in
      record { rest = t6; is = (sg.a_service w' n' c' p' o' r.names r.served r.close m', (r.keeps, r.served_keep)); left = e6; there = h6 })))))))
