-- Tables of the places at which names stand first in a list.
use Rattle.std.specs.Prelude.{ℕ, ◌≡◌, ◌==◌, List, [], ◌∷◌, map, Option, Some, None, if◌then◌else◌}
use Rattle.std.specs.FinMap as fin
use Rattle.chor_base.specs.declared.names.NameId.{NameId}
use Rattle.chor_base.specs.NameMap.{FromNames}
use Rattle.chor_base.specs.FirstPlaces.{one_later}
use Rattle.chor_tree.specs.declared.file.Named.{Named}

-- the names of items
abbrev pub names_of : {X : Type 0} → (X → Named) → List X → List NameId
names_of f xs = map (λ x. (f x).name) xs

-- the place at which a name stands first
abbrev pub place_in : List NameId → NameId → Option ℕ
place_in [] x = None
place_in (y ∷ ys) x = if y.0 == x.0 then Some 0 else one_later (place_in ys x)

-- each name of the list with the place at which it stands first, and no other name
abbrev pub IsIndex : List NameId → FromNames ℕ → Type 0
IsIndex xs places = (x : NameId) → fin.get places x.0 ≡ place_in xs x
