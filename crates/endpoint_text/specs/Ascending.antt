-- Lists in ascending order of a word that each item has, as dictionaries are.
use Rattle.std.specs.Prelude.{ℕ, Bool, List, [], ◌∷◌, if◌then◌else◌}
use Rattle.std.specs.Ordering.{is_lt, nat_cmp}
use Rattle.std.specs.Cmp.Lexicographic.{slice_cmp}

-- v comes before w: at the first byte in which they differ it has the lesser one, or it is a front of w
abbrev pub is_before : List ℕ → List ℕ → Bool
is_before v w = is_lt (slice_cmp nat_cmp v w)

-- the items with x, which goes after all those at the front whose words come before its own
abbrev pub inserted : {A : Type 0} → (A → List ℕ) → A → List A → List A
inserted word x [] = x ∷ []
inserted word x (y ∷ ys) = if is_before (word y) (word x) then y ∷ inserted word x ys else x ∷ y ∷ ys

-- The items in ascending order of their words. Those of one word keep their order
abbrev pub ascending : {A : Type 0} → (A → List ℕ) → List A → List A
ascending word [] = []
ascending word (x ∷ xs) = inserted word x (ascending word xs)
