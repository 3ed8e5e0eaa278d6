-- What the names of a file without fault give where bodies begin.
use Rattle.std.proofs.Common.{◌≡◌, ℕ, ◌<◌, List, [], ◌∷◌, ◌++◌, map, length, refl, sym, ap, ◌∙◌, subst, Bool, true, false, ◌==◌, ◌||◌, ◌&&◌, arith, inl, inr}
use Rattle.std.proofs.lemmas.Bool.Decides.{nat_tests}
use Rattle.std.specs.Prelude.{Contains, not, nat_lt}
use Rattle.std.specs.List.{flat_map, list_all}
use Rattle.std.proofs.lemmas.Bool.{eqb-true, and_parts}
use Rattle.chor_base.specs.declared.names.NameId.{NameId}
use Rattle.chor_base.specs.declared.rule.Rule.TheVariants.{N2}
use Rattle.chor_base.proofs.Members.{nowhere, head_or_tail}
use Rattle.chor_tree.specs.declared.file.File.{File}
use Rattle.chor_tree.specs.declared.file.Named.{Named as Written}
use Rattle.chor_tree.specs.declared.file.Proc.{Proc}
use Rattle.chor_tree.specs.declared.file.SessionParam.{SessionParam}
use Rattle.chor_tree.specs.Names.{is_among, names_in, fault_at, repeated, protocol_faults, channel_faults, session_faults, procedure_faults, declaration_faults, scope_of_main, scope_of_procedure, in_a_declaration, in_main, in_a_procedure}
use Rattle.delegation.specs.Owners.{Lacks, listed}
use Rattle.delegation.specs.Checks.{all_differ}
use Rattle.delegation.proofs.Parts.{lacks_append, own_listed, apart}
use Rattle.typing_rules.specs.Environment.{Environment, at_main, at_procedure}
use Rattle.type_check.specs.Resolved.{HoldInScope, IsResolved, HasNamesResolved}
use Rattle.type_check.proofs.Names.{no_items, both_empty, no_fault_at, false_or, eq_flip}

each_empty : {A B : Type 0} (g : A → List B) (xs : List A) → flat_map g xs ≡ [] → (x : A) → Contains xs x → g x ≡ []
each_empty g [] h x m = absurd (nowhere x m)
each_empty g (y ∷ ys) h x m =
    let w = both_empty (g y) (flat_map g ys) h in
    elim (head_or_tail y ys x m) [ inl e ↦ ap g (sym e) ∙ w.0 | inr n ↦ each_empty g ys w.1 x n ]

all_items : {A : Type 0} (p : A → Bool) (xs : List A) → list_all p xs ≡ true → (x : A) → Contains xs x → p x ≡ true
all_items p [] h x m = absurd (nowhere x m)
all_items p (y ∷ ys) h x m =
    let w = and_parts (p y) (list_all p ys) h in
    elim (head_or_tail y ys x m) [ inl e ↦ ap p (sym e) ∙ w.0 | inr n ↦ all_items p ys w.1 x n ]

less : (m n : ℕ) → nat_lt m n ≡ true → m < n
less m n h = grind (arith, nat_tests)

-- ---- names that differ

-- no name of a list is among those that are known
none_known : (known : List NameId) (xs : List Written) → repeated known xs ≡ [] → (x : NameId) → is_among (names_in xs) x ≡ true → is_among known x ≡ false
none_known known [] h x i = absurd cc
none_known known (y ∷ ys) h x i =
    let w = both_empty (fault_at (is_among known y.name) N2 y) (repeated (y.name ∷ known) ys) h in
    go (y.name.0 == x.0) refl i (no_fault_at (is_among known y.name) N2 y w.0) (none_known (y.name ∷ known) ys w.1 x)
  where
    same : (k : NameId) → (y.name.0 == x.0) ≡ true → (k.0 == y.name.0) ≡ (k.0 == x.0)
    same k e = ap (λ n. k.0 == n) (eqb-true y.name.0 x.0 e)

    there : (ks : List NameId) → (y.name.0 == x.0) ≡ true → is_among ks y.name ≡ is_among ks x
    there [] e = refl
    there (k ∷ ks) e = ap (λ b. b || is_among ks y.name) (same k e) ∙ ap (λ b. (k.0 == x.0) || b) (there ks e)

    go : (b : Bool) → (y.name.0 == x.0) ≡ b → (b || is_among (names_in ys) x) ≡ true → is_among known y.name ≡ false
        → (is_among (names_in ys) x ≡ true → ((y.name.0 == x.0) || is_among known x) ≡ false) → is_among known x ≡ false
    go true e i none ih = sym (there known e) ∙ none
    go false e i none ih = (false_or _ _ (ih i)).1

pub names_differ : (known : List NameId) (xs : List Written) → repeated known xs ≡ [] → all_differ (names_in xs) ≡ true
names_differ known [] h = refl
names_differ known (x ∷ xs) h =
    let w = both_empty (fault_at (is_among known x.name) N2 x) (repeated (x.name ∷ known) xs) h in
    go (is_among (names_in xs) x.name) refl (none_known (x.name ∷ known) xs w.1 x.name) (names_differ (x.name ∷ known) xs w.1)
  where
    itself : (n : ℕ) → (n == n) ≡ true
    itself n = grind (arith, nat_tests)

    clash : (b : Bool) → b ≡ true → b ≡ false → ⊥
    clash b i j = cc

    go : (b : Bool) → is_among (names_in xs) x.name ≡ b → (is_among (names_in xs) x.name ≡ true → ((x.name.0 == x.name.0) || is_among known x.name) ≡ false) → all_differ (names_in xs) ≡ true → (not b && all_differ (names_in xs)) ≡ true
    go false e none rest = rest
    go true e none rest = absurd (clash (x.name.0 == x.name.0) (itself x.name.0) (false_or _ _ (none e)).0)

later_differ : (xs ys : List NameId) → all_differ (xs ++ ys) ≡ true → all_differ ys ≡ true
later_differ [] ys h = h
later_differ (x ∷ xs) ys h = later_differ xs ys (and_parts _ _ h).1

names_append : (xs ys : List Written) → names_in (xs ++ ys) ≡ names_in xs ++ names_in ys
names_append [] ys = refl
names_append (x ∷ xs) ys = ap (λ l. x.name ∷ l) (names_append xs ys)

names_map : {A : Type 0} (nm : A → Written) (xs : List A) → names_in (map nm xs) ≡ map (λ x. (nm x).name) xs
names_map nm [] = refl
names_map nm (x ∷ xs) = ap (λ l. (nm x).name ∷ l) (names_map nm xs)

-- ---- where bodies begin

-- the holders that session parameters list are of these sessions
listed_in_scope : (ks : List SessionParam) (s : NameId) → is_among (map (λ k. k.name.name) ks) s ≡ false → Lacks s (flat_map (λ k. listed k.name.name k.holders) ks)
listed_in_scope [] s off = refl
listed_in_scope (k ∷ ks) s off =
    let w = false_or (k.name.name.0 == s.0) (is_among (map (λ k. k.name.name) ks) s) off in
    lacks_append s (listed k.name.name k.holders) (flat_map (λ k. listed k.name.name k.holders) ks)
    (apart k.name.name s (listed k.name.name k.holders) (eq_flip k.name.name.0 s.0 w.0) (own_listed k.name.name k.holders)) (listed_in_scope ks s w.1)

-- the body of a procedure is in the table
pub body_there : (f : File) (p : Proc) → Contains f.procs p → p.body.0 < length f.tree.nodes
body_there f p m = less p.body.0 (length f.tree.nodes) (there f.procs (and_parts _ _ f.kept.begin).1 m)
  where
    there : (ps : List Proc) → list_all (λ b. nat_lt b.0 (length f.tree.nodes)) (map (λ p. p.body) ps) ≡ true → Contains ps p → nat_lt p.body.0 (length f.tree.nodes) ≡ true
    there [] h n = absurd (nowhere p n)
    there (q ∷ qs) h n =
        let w = and_parts _ _ h in
        elim (head_or_tail q qs p n) [ inl e ↦ subst (λ z. nat_lt z.body.0 (length f.tree.nodes) ≡ true) e w.0 | inr k ↦ there qs w.1 k ]

module _ (f : File) (r : HasNamesResolved f) where
  pub main_resolved : (e : Environment) → e ≡ at_main → IsResolved f e f.body
  main_resolved e is = record {
    hosts = r.hosts;
    scope = scope_of_main f;
    held = subst (λ (z : Environment). HoldInScope (scope_of_main f) z.owners) (sym is) (λ k off. refl);
    names = λ x h. r.names x (in_main h);
    is_there = less f.body.0 (length f.tree.nodes) (and_parts _ _ f.kept.begin).0;
  }

  procedure_fine : (p : Proc) → Contains f.procs p → procedure_faults f p ≡ []
  procedure_fine p m =
      let none = no_items (declaration_faults f) (λ x d. r.names x (in_a_declaration d)) in
      let A = repeated [] (map (λ p. p.name) f.protocols) in
      let B = flat_map (protocol_faults f) f.protocols in
      let C = repeated [] (map (λ s. s.name) f.services) in
      let D = flat_map (channel_faults f) f.services in
      let E = repeated [] (map (λ p. p.name) f.procs) in
      let P = flat_map (procedure_faults f) f.procs in
      let d0 = both_empty (A ++ B ++ C ++ D ++ E ++ P) (repeated [] f.processes) none in
      each_empty (procedure_faults f) f.procs (both_empty (A ++ B ++ C ++ D ++ E) P d0.0).1 p m

  -- the sessions of a procedure differ
  pub sessions_differ : (p : Proc) → Contains f.procs p → all_differ (map (λ k. k.name.name) p.sessions) ≡ true
  sessions_differ p m =
      let params = map (λ q. q.name) p.params in
      let sessions = map (λ k. k.name) p.sessions in
      let own = both_empty (repeated [] (params ++ sessions)) (flat_map (λ q. repeated [] (map (λ v. v.0) q.vars)) p.params) (both_empty (repeated [] (params ++ sessions) ++ flat_map (λ q. repeated [] (map (λ v. v.0) q.vars)) p.params) (flat_map (session_faults f (map (λ q. q.name.name) p.params)) p.sessions) (procedure_fine p m)).0 in
      let all = names_differ [] (params ++ sessions) own.0 in
      let last = later_differ (names_in params) (names_in sessions) (subst (λ l. all_differ l ≡ true) (names_append params sessions) all) in
      subst (λ l. all_differ l ≡ true) (names_map (λ k. k.name) p.sessions) last

  pub procedure_resolved : (p : Proc) (e : Environment) → Contains f.procs p → e ≡ at_procedure p → IsResolved f e p.body
  procedure_resolved p e m is = record {
    hosts = r.hosts;
    scope = scope_of_procedure p;
    held = subst (λ (z : Environment). HoldInScope (scope_of_procedure p) z.owners) (sym is) (λ k off. listed_in_scope p.sessions k off);
    names = λ x h. r.names x (in_a_procedure m h);
    is_there = body_there f p m;
  }
