-- Words in ascending order.
use Rattle.std.specs.Prelude.{ℕ, false, ◌≡◌, List, [], ◌∷◌}
use Rattle.std.specs.Ordering.{is_lt, nat_cmp}
use Rattle.std.specs.Cmp.Lexicographic.{slice_cmp}
use Rattle.global_types.specs.Moves.{IsIn}

-- no word stands before a lesser one, as bytes are compared
abbrev pub Ascend : List (List ℕ) → Type 0
Ascend [] = Unit {0}
Ascend (w ∷ ws) = ((v : List ℕ) → IsIn v ws → is_lt (slice_cmp nat_cmp v w) ≡ false) × Ascend ws
