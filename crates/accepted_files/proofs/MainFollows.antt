-- The code of each process of main follows, with any fuel.
use Rattle.std.proofs.Common.{◌≡◌, ℕ, zero, suc, ◌==◌, ◌+◌, ◌<◌, Bool, true, false, if◌then◌else◌, List, [], ◌∷◌, Some, None, refl, sym, ap, ◌∙◌, subst, arith}
use Rattle.std.specs.Prelude.{slice_get}
use Rattle.std.proofs.lemmas.Bool.Decides.{nat_tests}
use Rattle.std.proofs.lemmas.Bool.{eqb-true}
use Rattle.chor_base.specs.declared.names.NameId.{NameId}
use Rattle.chor_tree.specs.declared.file.File.{File}
use Rattle.chor_tree.specs.declared.file.Named.{Named as Written}
use Rattle.chor_semantics.specs.Choreography.{Live, Named, ref_eq}
use Rattle.chor_semantics.specs.Sources.{numbered, first_configuration, procedures_of}
use Rattle.endpoint_code.specs.declared.endpoints.Process.{Process}
use Rattle.endpoint_code.specs.declared.endpoints.Endpoints.{Endpoints}
use Rattle.endpoint_code.specs.Trees.{code_at}
use Rattle.endpoint_code.proofs.AboveOrder.{above_self}
use Rattle.projection.specs.Projects.{Projects, body_at}
use Rattle.well_formed.specs.Follows.{SessionMap, IsEqualUpToPruning}
use Rattle.accepted_files.proofs.AlongTrees.{self_test}
use Rattle.accepted_files.proofs.Passing.{code_distinct}
use Rattle.accepted_files.proofs.ThroughCalls.{follows}
use Rattle.accepted_files.proofs.FromProjects.{has_units, process_at}
use Rattle.accepted_files.proofs.Plays.{TellsApart, ProceduresPlay, AreOthersNamed, AreNamedOnce, MainPlays}

flip : (m n : ℕ) → (m == n) ≡ false → (n == m) ≡ false
flip m n e = grind (arith, nat_tests)

-- a later process has another number
later_number : (n k : ℕ) (ps : List Written) (y : ℕ) → n < k → ref_eq (Live n) (numbered k ps y) ≡ false
later_number n k [] y l = refl
later_number n k (p ∷ ps) y l = go (p.name.0 == y) (later_number n (suc k) ps y (more l))
  where
    more : n < k → n < suc k
    more l = omega (arith, l)

    apart : (n k : ℕ) → n < k → (n == k) ≡ false
    apart n k l = grind (arith, nat_tests)

    go : (b : Bool) → ref_eq (Live n) (numbered (suc k) ps y) ≡ false → ref_eq (Live n) (if b then Live k else numbered (suc k) ps y) ≡ false
    go true w = apart n k l
    go false w = w

other_name : (w : Written) (ps : List Written) (p : ℕ) (v : Written) → AreOthersNamed w ps → slice_get ps p ≡ Some v → (w.name.0 == v.name.0) ≡ false
other_name w [] p v o i = absurd cc
other_name w (y ∷ ys) zero v o i = let z : y ≡ v = cc in subst (λ (x : Written). (w.name.0 == x.name.0) ≡ false) z o.0
other_name w (y ∷ ys) (suc p) v o i = other_name w ys p v o.1 i

numbered_apart : (k : ℕ) (ps : List Written) (p : ℕ) (w : Written) → AreNamedOnce ps → slice_get ps p ≡ Some w → TellsApart w.name (Live (k + p)) (numbered k ps)
numbered_apart k [] p w o i y = absurd cc
numbered_apart k (v ∷ vs) zero w o i y = go (v.name.0 == y) refl
  where
    same : v ≡ w
    same = cc

    plus : k + 0 ≡ k
    plus = omega arith

    pos : k < suc k
    pos = omega arith

    go : (b : Bool) → (v.name.0 == y) ≡ b → ref_eq (Live (k + 0)) (if v.name.0 == y then Live k else numbered (suc k) vs y) ≡ (w.name.0 == y)
    go true u = ap (λ b. ref_eq (Live (k + 0)) (if b then Live k else numbered (suc k) vs y)) u ∙ ap (λ z. z == k) plus ∙ self_test k ∙ sym u ∙ ap (λ (x : Written). x.name.0 == y) same
    go false u = ap (λ b. ref_eq (Live (k + 0)) (if b then Live k else numbered (suc k) vs y)) u ∙ ap (λ z. ref_eq (Live z) (numbered (suc k) vs y)) plus ∙ later_number k (suc k) vs y pos ∙ sym u ∙ ap (λ (x : Written). x.name.0 == y) same
numbered_apart k (v ∷ vs) (suc p) w o i y = go (v.name.0 == y) refl (numbered_apart (suc k) vs p w o.1 i y)
  where
    plus : k + suc p ≡ suc k + p
    plus = omega arith

    apart : (k p : ℕ) → ((k + suc p) == k) ≡ false
    apart k p = grind (arith, nat_tests)

    different : (v.name.0 == y) ≡ true → (w.name.0 == y) ≡ false
    different u = ap (λ z. w.name.0 == z) (sym (eqb-true v.name.0 y u)) ∙ flip v.name.0 w.name.0 (other_name v vs p w o.0 i)

    go : (b : Bool) → (v.name.0 == y) ≡ b → ref_eq (Live (suc k + p)) (numbered (suc k) vs y) ≡ (w.name.0 == y) → ref_eq (Live (k + suc p)) (if v.name.0 == y then Live k else numbered (suc k) vs y) ≡ (w.name.0 == y)
    go true u more = ap (λ b. ref_eq (Live (k + suc p)) (if b then Live k else numbered (suc k) vs y)) u ∙ apart k p ∙ sym (different u)
    go false u more = ap (λ b. ref_eq (Live (k + suc p)) (if b then Live k else numbered (suc k) vs y)) u ∙ ap (λ z. ref_eq (Live z) (numbered (suc k) vs y)) plus ∙ more

pub main_follows : (f : File) (e : Endpoints) → Projects f e → ProceduresPlay f.tree.nodes f.procs → MainPlays f → AreNamedOnce f.processes → (p : ℕ) (q : Process) (m : SessionMap) → slice_get e.processes p ≡ Some q → IsEqualUpToPruning e (procedures_of f) (Live p) (first_configuration f).tree q.body m
main_follows f e pr plays main once p q m i n =
    let z = process_at f e pr p q i in
    follows e f.procs f.tree.nodes (has_units f e pr) plays n 0 z.written.name (Live p) (λ x h. refl) tt (body_at f f.body) (numbered 0 f.processes) (λ y. Named y 0) (λ y. None) m (code_at e.code.nodes q.body) q.body z.body
    (record { inside = z.inside; above = above_self (code_at e.code.nodes q.body); distinct = code_distinct f.procs z.written.name _ _ z.body })
    (main p z.written z.there)
    (subst (λ v. TellsApart z.written.name (Live v) (numbered 0 f.processes)) (plus p) (numbered_apart 0 f.processes p z.written once z.there))
    (λ y t h. absurd (none t h))
  where
    none : (t : NameId) → None ≡ Some t → ⊥
    none t h = absurd cc

    plus : (p : ℕ) → 0 + p ≡ p
    plus p = omega arith
