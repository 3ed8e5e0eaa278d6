-- A procedure that has the asked name and parameter is the one that is found, wherever it stands.
use Rattle.std.proofs.Common.{◌≡◌, ℕ, zero, suc, ◌&&◌, ◌==◌, Bool, true, false, if◌then◌else◌, List, [], ◌∷◌, Some, refl, sym, subst, ◌∙◌}
use Rattle.std.specs.Prelude.{slice_get}
use Rattle.std.proofs.lemmas.Bool.{and_from, and_parts, or_parts, eqb-true, eq-eqb}
use Rattle.chor_base.specs.declared.names.NameId.{NameId}
use Rattle.endpoint_code.specs.declared.endpoints.Procedure.{Procedure}
use Rattle.endpoint_code.specs.Faults.{AreApart, unit_among}
use Rattle.endpoint_code.specs.Faults.AreApart.{one_unit}
use Rattle.endpoint_code.specs.Network.{procedure_of}

-- no procedure of these has a name and a parameter that none of them has
others : (xs : List Procedure) (i : ℕ) (q : Procedure) (f p : NameId) → unit_among f p xs ≡ false → slice_get xs i ≡ Some q → ((f.0 == q.name.0) && (p.0 == q.param.0)) ≡ false
others [] i q f p o h = absurd cc
others (x ∷ xs) zero q f p o h = let same : x ≡ q = cc in subst (λ (z : Procedure). ((f.0 == z.name.0) && (p.0 == z.param.0)) ≡ false) same (or_parts _ _ o).0
others (x ∷ xs) (suc i) q f p o h = others xs i q f p (or_parts _ _ o).1 h

clash : (a b c d e g : ℕ) → (a == b) && (c == d) ≡ true → (e == b) ≡ true → (g == d) ≡ true → (a == e) && (c == g) ≡ true
clash a b c d e g h i j =
    let parts = and_parts (a == b) (c == d) h in
    and_from _ _ (eq-eqb a e (eqb-true a b parts.0 ∙ sym (eqb-true e b i))) (eq-eqb c g (eqb-true c d parts.1 ∙ sym (eqb-true g d j)))

pub found_apart : (qs : List Procedure) (i : ℕ) (q : Procedure) (f p : NameId) → AreApart qs → slice_get qs i ≡ Some q → (q.name.0 == f.0) ≡ true → (q.param.0 == p.0) ≡ true → Some q ≡ procedure_of qs f p
found_apart [] i q f p a h n m = absurd cc
found_apart (x ∷ xs) zero q f p a h n m =
    let same : x ≡ q = cc in
    subst (λ (z : Procedure). Some z ≡ (if (x.name.0 == f.0) && (x.param.0 == p.0) then Some x else procedure_of xs f p)) same
    (go ((x.name.0 == f.0) && (x.param.0 == p.0)) (subst (λ (z : Procedure). ((z.name.0 == f.0) && (z.param.0 == p.0)) ≡ true) (sym same) (and_from _ _ n m)))
  where
    go : (b : Bool) → b ≡ true → Some x ≡ (if b then Some x else procedure_of xs f p)
    go true e = refl
    go false e = absurd cc
found_apart (x ∷ xs) (suc i) q f p (one_unit o a) h n m = go ((x.name.0 == f.0) && (x.param.0 == p.0)) refl (found_apart xs i q f p a h n m)
  where
    go : (b : Bool) → ((x.name.0 == f.0) && (x.param.0 == p.0)) ≡ b → Some q ≡ procedure_of xs f p → Some q ≡ (if b then Some x else procedure_of xs f p)
    go true e ih = let t = clash x.name.0 f.0 x.param.0 p.0 q.name.0 q.param.0 e n m in let o' = others xs i q x.name x.param o h in absurd cc
    go false e ih = ih
