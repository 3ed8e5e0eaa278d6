-- Tables of the places at which keys stand first in a list.
use Rattle.std.specs.Prelude.{ℕ, ◌≡◌, List, [], ◌∷◌, Option, Some, None, if◌then◌else◌}
use Rattle.std.specs.Map.{lookup}
use Rattle.chor_base.specs.FirstPlaces.{one_later}
use Rattle.endpoint_names.specs.declared.key.Key.{Key}
use Rattle.endpoint_names.specs.declared.places.Places.{Places}
use Rattle.endpoint_names.specs.Keys.{same_key}

abbrev pub place_of : Places → Key → Option ℕ
place_of p k = lookup (same_key k) p.entries.entries

-- the place at which a key stands first
abbrev pub place_in : List Key → Key → Option ℕ
place_in [] k = None
place_in (x ∷ xs) k = if same_key k x then Some 0 else one_later (place_in xs k)

-- each key of the list with the place at which it stands first, and no other key
abbrev pub IsIndex : List Key → Places → Type 0
IsIndex ks p = (k : Key) → place_of p k ≡ place_in ks k
