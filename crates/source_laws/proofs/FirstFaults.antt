-- Where no fault is the first one, there is none.
use Rattle.std.proofs.Common.{◌≡◌, ◌<◌, ℕ, zero, suc, Bool, true, false, List, [], ◌∷◌, Some, None, refl, subst, take, arith, inl, inr}
use Rattle.std.specs.Prelude.{All, nat_lt, slice_get}
use Rattle.std.proofs.lemmas.Bool.{ltb-true}
use Rattle.std.proofs.lemmas.Bool.Decides.{nat_tests}
use Rattle.std.proofs.lemmas.List.Elements.{All-nil, All-cons}
use Rattle.chor_base.specs.declared.rule.Refusal.{Refusal}
use Rattle.chor_base.specs.declared.rule.Denied.TheVariants.{Refused}
use Rattle.chor_base.specs.declared.fault.Fault.{Fault}
use Rattle.chor_base.specs.Faults.{rank, comes_before, IsDenial}
use Rattle.global_types.specs.Moves.{IsIn}
use Rattle.projection.specs.MergeFaults.{IsFirstOf, here, later}

-- ---- faults with places

module _ (P : Fault → Type 0) (unrefused : (r : Refusal) → IsDenial P (Refused r) → ⊥) where
  -- no fault comes first
  none_first : (x : Fault) → ((y : Fault) → comes_before y x ≡ true → P y → ⊥) → P x → ⊥
  none_first x before p = unrefused (record { rule = x.rule; place = x.place; who = None }) ((p, λ y q. go y q (comes_before y x) refl), refl)
    where
      go : (y : Fault) → P y → (b : Bool) → comes_before y x ≡ b → b ≡ false
      go y q true e = absurd (before y e q)
      go y q false e = refl

  -- none at this place by a rule with a digit below n
  abbrev IsClearAt : Fault → ℕ → Type 0
  IsClearAt x n = (y : Fault) → y.place.line ≡ x.place.line → y.place.col ≡ x.place.col → rank y.rule < n → P y → ⊥

  -- none of a rule with a digit below n at a place before which there is none
  by_rank : (n : ℕ) (x : Fault) → ((y : Fault) → y.place.line < x.place.line → P y → ⊥)
      → ((y : Fault) → y.place.line ≡ x.place.line → y.place.col < x.place.col → P y → ⊥) → rank x.rule < n → P x → ⊥
  by_rank zero x above left lt = absurd (omega arith)
  by_rank (suc n) x above left lt =
      let rest : IsClearAt x n =
      λ y line col digit. by_rank n y (λ z h. above z (omega arith)) (λ z e h. left z (omega arith) (omega arith)) digit in
      none_first x (λ y e. on_line rest y e (nat_lt y.place.line x.place.line) refl)
    where
      on_col : IsClearAt x n → (y : Fault) → comes_before y x ≡ true → nat_lt y.place.line x.place.line ≡ false → (b : Bool) → nat_lt y.place.col x.place.col ≡ b → P y → ⊥
      on_col rest y e l true is = left y (grind (arith, nat_tests)) (ltb-true y.place.col x.place.col is)
      on_col rest y e l false is = rest y (grind (arith, nat_tests)) (grind (arith, nat_tests)) (grind (arith, nat_tests))

      on_line : IsClearAt x n → (y : Fault) → comes_before y x ≡ true → (b : Bool) → nat_lt y.place.line x.place.line ≡ b → P y → ⊥
      on_line rest y e true is = above y (ltb-true y.place.line x.place.line is)
      on_line rest y e false is = on_col rest y e is (nat_lt y.place.col x.place.col) refl

  -- none before column n of a line before which there is none
  by_col : (n : ℕ) (x : Fault) → ((y : Fault) → y.place.line < x.place.line → P y → ⊥) → x.place.col < n → P x → ⊥
  by_col zero x above lt = absurd (omega arith)
  by_col (suc n) x above lt = by_rank (suc (rank x.rule)) x above (λ y e h. by_col n y (λ z k. above z (omega arith)) (omega arith)) (omega arith)

  -- none before line n
  by_line : (n : ℕ) (x : Fault) → x.place.line < n → P x → ⊥
  by_line zero x lt = absurd (omega arith)
  by_line (suc n) x lt = by_col (suc x.place.col) x (λ y h. by_line n y (omega arith)) (omega arith)

  pub no_fault : (x : Fault) → P x → ⊥
  no_fault x = by_line (suc x.place.line) x (omega arith)

-- ---- items of lists

-- where none of a list is the first with a property, none has it
pub none_of_all : {X : Type 0} (P : X → Type 0) (xs : List X) → ((x : X) → IsFirstOf P x xs → ⊥) → All (λ x. P x → ⊥) xs
none_of_all P [] without = All-nil (λ x. P x → ⊥)
none_of_all P (x ∷ xs) without =
    let none : P x → ⊥ = λ p. without x (here p) in
    All-cons (λ y. P y → ⊥) x xs none (none_of_all P xs (λ y h. without y (later none h)))

-- where each item is fine or bad, it can't be that neither all are fine nor one is the first that is bad
pub fine_or_first : {X : Type 0} (Fine Bad : X → Type 0) (xs : List X)
    → ((x : X) → IsIn x xs → (Fine x → ⊥) → (Bad x → ⊥) → ⊥)
    → (((x : X) → IsIn x xs → Fine x) → ⊥)
    → ((i : ℕ) (x : X) → slice_get xs i ≡ Some x → ((y : X) → IsIn y (take i xs) → Fine y) → Bad x → ⊥)
    → ⊥
fine_or_first Fine Bad [] each faulty unrefused = faulty (λ x m. absurd m)
fine_or_first {X} Fine Bad (z ∷ zs) each faulty unrefused =
    each z (inl refl)
    (λ f. fine_or_first Fine Bad zs (λ x m. each x (inr m)) (λ all. faulty (with_head f zs all)) (λ i x at before b. unrefused (suc i) x at (with_head f (take i zs) before) b))
    (λ b. unrefused 0 z refl (λ y m. absurd m) b)
  where
    with_head : Fine z → (xs : List X) → ((x : X) → IsIn x xs → Fine x) → (x : X) → IsIn x (z ∷ xs) → Fine x
    with_head f xs all x (inl e) = subst Fine e f
    with_head f xs all x (inr m) = all x m
