-- Numbers of processes, and first loads.
use Rattle.std.proofs.Common.{◌≡◌, ◌≤◌, ◌<◌, arith, ℕ, zero, suc, List, [], ◌∷◌, refl, ap, Some, None, drop, take, length}
use Rattle.std.specs.Prelude.{slice_get}
use Rattle.chor_base.specs.declared.value.Load.{Load}

pub no_first : (ls : List Load) → slice_get ls 0 ≡ None → ls ≡ []
no_first [] h = refl
no_first (l ∷ ls) h = absurd cc

pub first_rest : (ls : List Load) (l : Load) → slice_get ls 0 ≡ Some l → ls ≡ l ∷ drop 1 ls
first_rest [] l h = absurd cc
first_rest (x ∷ ls) l h = let same : x ≡ l = cc in ap (λ (y : Load). y ∷ ls) same

pub not_below : {p k : ℕ} → k ≤ p → p < k → ⊥
not_below le lt = omega arith

pub whole_list : {X : Type 0} (i : ℕ) (xs : List X) → length xs ≤ i → take i xs ≡ xs
whole_list zero [] le = refl
whole_list zero (x ∷ xs) le = absurd (omega arith)
whole_list (suc i) [] le = refl
whole_list {X} (suc i) (x ∷ xs) le = ap (λ (l : List X). x ∷ l) (whole_list i xs (omega arith))
