-- Marks on the events of a run.
use Rattle.std.specs.Prelude.{ℕ, suc, ◌≡◌, ◌<◌, ◌||◌, Bool, false, List, [], ◌∷◌, length, slice_index_or, if◌then◌else◌}
use Rattle.event_orders.specs.EventKinds.{is_in}

-- the events at these places are marked too
abbrev pub MarksMore : List Bool → List ℕ → List Bool → Type 0
MarksMore old places new = (i : ℕ) → i < length old → slice_index_or new i false ≡ (slice_index_or old i false || is_in i places)

-- the places that are marked, the first of which is n
abbrev pub marked_from : ℕ → List Bool → List ℕ
marked_from n [] = []
marked_from n (b ∷ bs) = if b then n ∷ marked_from (suc n) bs else marked_from (suc n) bs
