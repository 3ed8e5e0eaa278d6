-- Levels of counts: what a change below is above.
use Rattle.std.proofs.Common.{◌≡◌, ℕ, suc, ◌+◌, ◌*◌, ◌/◌, ◌<◌, ◌≤◌, ◌⊎◌, inl, inr, List, [], ◌∷◌, ◌++◌, length, get_or, set, refl, sym, ap, ◌∙◌, subst, arith, length-append}
use Rattle.std.specs.List.{sum_by}
use Rattle.std.proofs.Math.ListN.{length-set}
use Rattle.std.proofs.lemmas.Bool.{cases_lt}
use Rattle.counted_bits.specs.Counts.{before, itself, AreSums, IsReached, IsGrown}
use Rattle.counted_bits.proofs.Amounts.{before_more, before_whole, before_past, before_push, before_least, set_after, set_before}

pub sums_none : {X : Type 0} (amount : X → ℕ) → AreSums amount [] []
sums_none amount = record { cover = omega arith; sums = λ j. before_past itself [] j (omega arith) ∙ sym (before_past amount [] (16 * j) (omega arith)) }

module _ {X : Type 0} (amount : X → ℕ) (items : List X) (counts : List ℕ) (are : AreSums amount items counts) where
  -- all counts come to what all items do
  pub same_whole : sum_by itself counts ≡ sum_by amount items
  same_whole = sym (before_past itself counts (length counts) (omega arith)) ∙ are.sums (length counts) ∙ before_past amount items (16 * length counts) are.cover

  pub has_count : (i : ℕ) → i < length items → i / 16 < length counts
  has_count i h = omega (arith, are.cover)

  -- a count is at least what each of its items is
  pub count_least : (i : ℕ) (d : X) → i < length items → amount (get_or items i d) ≤ get_or counts (i / 16) 0
  count_least i d h =
      let j : ℕ = i / 16 in
      let more : before itself (suc j) counts ≡ before itself j counts + get_or counts j 0 = before_more itself counts j 0 (has_count i h) in
      let low : before amount (16 * j) items ≤ before amount i items = before_least amount items (16 * j) i (omega arith) in
      let high : before amount (suc i) items ≤ before amount (16 * suc j) items = before_least amount items (suc i) (16 * suc j) (omega arith) in
      omega (arith, before_more amount items i d h, are.sums j, are.sums (suc j))

  pub count_most : (j : ℕ) → j < length counts → get_or counts j 0 ≤ sum_by amount items
  count_most j h = omega (arith, before_more itself counts j 0 h, before_whole itself counts (suc j), same_whole)

  pub sums_set : (i : ℕ) (y d : X) (count : ℕ) → i < length items → count + amount (get_or items i d) ≡ get_or counts (i / 16) 0 + amount y
      → AreSums amount (set items i y) (set counts (i / 16) count)
  sums_set i y d count h e = record { cover = omega (arith, are.cover, length-set items i y, length-set counts (i / 16) count); sums = λ j. go j (cases_lt (i / 16) j) }
    where
      go : (j : ℕ) → (i / 16 < j) ⊎ (j ≤ i / 16) → before itself j (set counts (i / 16) count) ≡ before amount (16 * j) (set items i y)
      go j (inl l) = omega (arith, set_before itself counts (i / 16) j count 0 (has_count i h) l, set_before amount items i (16 * j) y d h (omega arith), are.sums j)
      go j (inr l) = set_after itself counts (i / 16) j count l ∙ are.sums j ∙ sym (set_after amount items i (16 * j) y (omega arith))

  pub sums_more : (x : X) → amount x ≡ 0 → length items < 16 * length counts → AreSums amount (items ++ x ∷ []) counts
  sums_more x e h = record { cover = omega (arith, length-append items (x ∷ [])); sums = λ j. are.sums j ∙ sym (before_push amount items x (16 * j) e) }

  pub sums_grown : (new : List ℕ) → IsGrown counts new → AreSums amount items new
  sums_grown new (inl e) = subst (AreSums amount items) (sym e) are
  sums_grown new (inr e) = subst (AreSums amount items) (sym e) (record { cover = omega (arith, are.cover, length-append counts (0 ∷ [])); sums = λ j. before_push itself counts 0 j refl ∙ are.sums j })

  -- where an amount is reached below, given where it is above
  pub begins_below : (number j rest : ℕ) → IsReached itself counts number j rest → before amount (16 * j) items + rest ≡ number
  begins_below number j rest r = ap (λ n. n + rest) (sym (are.sums j)) ∙ r.starts

-- items of which one may be new, under counts with room for it
pub items_grown : (items counts new : List ℕ) → AreSums itself items counts → length items < 16 * length counts → IsGrown items new → AreSums itself new counts
items_grown items counts new are h (inl e) = subst (λ l. AreSums itself l counts) (sym e) are
items_grown items counts new are h (inr e) = subst (λ l. AreSums itself l counts) (sym e) (sums_more itself items counts are 0 refl h)
