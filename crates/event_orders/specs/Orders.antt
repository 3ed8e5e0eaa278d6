-- Permutations of the events of a run. Events have numbers, counted from 0.
use Rattle.std.specs.Prelude.{ℕ, zero, suc, ◌≡◌, List, [], ◌∷◌, ◌++◌, Option, Some, None, slice_get}
use Rattle.chor_base.specs.declared.event.Event.{Event}

-- a permutation of the numbers below n: the greatest is anywhere in a permutation of the others
abbrev pub IsPermutationBelow : ℕ → List ℕ → Type 0
IsPermutationBelow zero order = order ≡ []
IsPermutationBelow (suc n) order =
    (front : List ℕ) × (back : List ℕ) × (order ≡ front ++ n ∷ back) × IsPermutationBelow n (front ++ back)

-- i comes before j in an order
abbrev pub IsBefore : List ℕ → ℕ → ℕ → Type 0
IsBefore order i j = (front : List ℕ) × (between : List ℕ) × (back : List ℕ) × (order ≡ front ++ i ∷ (between ++ j ∷ back))

-- an event more in front, if it is there
abbrev pub with_event : Option Event → List Event → List Event
with_event None xs = xs
with_event (Some x) xs = x ∷ xs

-- the events with these numbers, in this order
abbrev pub permuted : List Event → List ℕ → List Event
permuted h [] = []
permuted h (i ∷ order) = with_event (slice_get h i) (permuted h order)
