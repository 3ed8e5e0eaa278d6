-- What the items before a place come to.
use Rattle.std.proofs.Common.{◌≡◌, ℕ, suc, ◌+◌, ◌<◌, ◌≤◌, ◌⊎◌, inl, inr, List, [], ◌∷◌, ◌++◌, length, get_or, take, drop, set, sym, ap, ◌∙◌, subst, arith, add-one, length-append}
use Rattle.std.specs.List.{sum_by}
use Rattle.std.proofs.lemmas.Bool.{cases_lt}
use Rattle.std.proofs.Math.ListN.{length-set}
use Rattle.std.proofs.lemmas.List.{take_all, take-append-le, take-append-drop, get_or-take, length-take-le, take-set-le}
use Rattle.std.proofs.lemmas.List.Sums.{sum_by_push, sum_by-take-le, sum_by_more, sum_by-set}
use Rattle.std.proofs.Math.Seq.{take-set-lt}
use Rattle.counted_bits.specs.Counts.{before}

module _ {X : Type 0} (amount : X → ℕ) where
  pub before_more : (items : List X) (i : ℕ) (d : X) → i < length items → before amount (suc i) items ≡ before amount i items + amount (get_or items i d)
  before_more items i d h = ap (λ n. before amount n items) (sym (add-one i)) ∙ sum_by_more amount items i d h

  pub before_whole : (items : List X) (i : ℕ) → before amount i items ≤ sum_by amount items
  before_whole items i = sum_by-take-le amount items i

  pub before_past : (items : List X) (i : ℕ) → length items ≤ i → before amount i items ≡ sum_by amount items
  before_past items i h = ap (sum_by amount) (take_all i items h)

  pub before_push : (items : List X) (x : X) (i : ℕ) → amount x ≡ 0 → before amount i (items ++ x ∷ []) ≡ before amount i items
  before_push items x i h = go (cases_lt (length items) i)
    where
      go : (length items < i) ⊎ (i ≤ length items) → before amount i (items ++ x ∷ []) ≡ before amount i items
      go (inl l) = before_past (items ++ x ∷ []) i (omega (arith, length-append items (x ∷ []))) ∙ (sum_by_push amount items x ∙ (omega (arith, h))) ∙ sym (before_past items i (omega arith))
      go (inr l) = ap (sum_by amount) (take-append-le i items (x ∷ []) l)

  before_front : (items more : List X) (i : ℕ) → i ≤ length items → before amount i (items ++ more) ≡ before amount i items
  before_front items more i h = ap (sum_by amount) (take-append-le i items more h)

  pub before_least : (items : List X) (i j : ℕ) → i ≤ j → before amount i items ≤ before amount j items
  before_least items i j h = go (cases_lt j (length items))
    where
      go : (j < length items) ⊎ (length items ≤ j) → before amount i items ≤ before amount j items
      go (inl l) =
          let short : i ≤ length (take j items) = omega (arith, length-take-le j items) in
          let e : before amount i (take j items ++ drop j items) ≡ before amount i (take j items) = before_front (take j items) (drop j items) i short in
          let f : before amount i items ≡ before amount i (take j items) = ap (before amount i) (sym (take-append-drop j items)) ∙ e in
          omega (arith, before_whole (take j items) i)
      go (inr l) = omega (arith, before_past items j l, before_whole items i)

  pub set_after : (items : List X) (i j : ℕ) (y : X) → j ≤ i → before amount j (set items i y) ≡ before amount j items
  set_after items i j y h = ap (sum_by amount) (take-set-le j items i y h)

  pub set_before : (items : List X) (i j : ℕ) (y d : X) → i < length items → i < j → before amount j (set items i y) + amount (get_or items i d) ≡ before amount j items + amount y
  set_before items i j y d h l = go (cases_lt j (length items))
    where
      go : (j < length items) ⊎ (length items ≤ j) → before amount j (set items i y) + amount (get_or items i d) ≡ before amount j items + amount y
      go (inl m) =
          let short : i < length (take j items) = omega (arith, length-take-le j items) in
          ap (λ n. n + amount (get_or items i d)) (ap (sum_by amount) (take-set-lt j items i y l))
          ∙ ap (λ x. sum_by amount (set (take j items) i y) + amount x) (sym (get_or-take j items i d l))
          ∙ sum_by-set amount (take j items) i y d short
      go (inr m) =
          ap (λ n. n + amount (get_or items i d)) (before_past (set items i y) j (subst (λ n. n ≤ j) (sym (length-set items i y)) m))
          ∙ sum_by-set amount items i y d h
          ∙ ap (λ n. n + amount y) (sym (before_past items j m))
