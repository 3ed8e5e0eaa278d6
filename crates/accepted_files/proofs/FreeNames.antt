-- What a body's free names stand for.
use Rattle.std.proofs.Common.{◌≡◌, ℕ, suc, ◌==◌, ◌&&◌, Bool, true, false, if◌then◌else◌, List, [], ◌∷◌, refl, sym, ap, ◌∙◌, arith}
use Rattle.std.proofs.lemmas.Bool.Decides.{nat_tests}
use Rattle.std.proofs.lemmas.Bool.{eqb-true}
use Rattle.chor_base.specs.declared.names.NameId.{NameId}
use Rattle.chor_semantics.specs.Choreography.{Ref, Live, Named, ref_eq}
use Rattle.chor_semantics.specs.Steps.{bound_all}
use Rattle.accepted_files.proofs.Plays.{TellsApart}
use Rattle.accepted_files.proofs.Passed.{IsPassedAs}
use Rattle.well_formed.proofs.Absent.{IsNoDeeper}
use Rattle.accepted_files.specs.PlayedRoles.{has_name}

pub shallow_apart : (P : Ref) (d y : ℕ) → IsNoDeeper d P → ref_eq P (Named y (suc d)) ≡ false
shallow_apart (Live n) d y h = refl
shallow_apart (Named x c) d y h = go (x == y) (c == suc d) refl
  where
    go : (a b : Bool) → (c == suc d) ≡ b → (a && b) ≡ false
    go false b e = refl
    go true false e = refl
    go true true e = let z : c ≡ suc d = eqb-true c (suc d) e in absurd (omega arith)

-- with names of its own depth, a body tells its parameter apart from all its names
pub own_apart : (P : Ref) (p : NameId) (d : ℕ) (xs : List NameId) (rs : List Ref) → IsNoDeeper d P → has_name p xs ≡ true → IsPassedAs P p xs rs → TellsApart p P (bound_all (suc d) xs rs)
own_apart P p d xs rs sh h w y = go xs rs w (p.0 == y) refl (λ e. h)
  where
    shifted : (x : NameId) (xs : List NameId) → (p.0 == y) ≡ true → (x.0 == y) ≡ false → has_name p (x ∷ xs) ≡ true → has_name p xs ≡ true
    shifted x xs e f h = at (p.0 == x.0) refl
      where
        at : (b : Bool) → (p.0 == x.0) ≡ b → has_name p xs ≡ true
        at false g = sym (ap (λ c. if c then true else has_name p xs) g) ∙ h
        at true g =
            let a : p.0 ≡ y = eqb-true p.0 y e in
            let b : p.0 ≡ x.0 = eqb-true p.0 x.0 g in
            let c : (x.0 == y) ≡ true = grind (arith, nat_tests) in absurd cc

    go : (xs : List NameId) (rs : List Ref) → IsPassedAs P p xs rs → (b : Bool) → (p.0 == y) ≡ b → ((p.0 == y) ≡ true → has_name p xs ≡ true) → ref_eq P (bound_all (suc d) xs rs y) ≡ (p.0 == y)
    go [] rs w true e f = let z : false ≡ true = f e in absurd cc
    go [] rs w false e f = shallow_apart P d y sh ∙ sym e
    go (x ∷ xs) [] w true e f = absurd (none (x ∷ xs) w (f e))
      where
        none : (xs : List NameId) → IsPassedAs P p xs [] → has_name p xs ≡ true → ⊥
        none [] w h = cc
        none (x ∷ xs) w h = none xs w.1 (sym (ap (λ c. if c then true else has_name p xs) w.0) ∙ h)
    go (x ∷ xs) [] w false e f = shallow_apart P d y sh ∙ sym e
    go (x ∷ xs) (r ∷ rs) w b e f = at (λ f'. go xs rs w.1 b e f') (x.0 == y) refl
      where
        at : (((p.0 == y) ≡ true → has_name p xs ≡ true) → ref_eq P (bound_all (suc d) xs rs y) ≡ (p.0 == y)) → (c : Bool) → (x.0 == y) ≡ c → ref_eq P (if x.0 == y then r else bound_all (suc d) xs rs y) ≡ (p.0 == y)
        at more true g = ap (λ c. ref_eq P (if c then r else bound_all (suc d) xs rs y)) g ∙ w.0 ∙ ap (λ z. p.0 == z) (eqb-true x.0 y g)
        at more false g = ap (λ c. ref_eq P (if c then r else bound_all (suc d) xs rs y)) g ∙ more (λ i. shifted x xs i g (f i))
