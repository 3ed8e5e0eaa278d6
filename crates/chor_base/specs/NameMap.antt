-- What contracts see of a map from names.
use Rattle.std.specs.Prelude.{ℕ, Bool, true, ◌==◌, List, map, Option, None, Some}
use Rattle.std.specs.Ordering.{nat_cmp}
use Rattle.std.specs.FinMap as fin
use Rattle.chor_base.specs.declared.names.NameId.{NameId}
use Rattle.chor_base.specs.declared.value.Value.{Value}

-- a finite map from the numbers of names
abbrev pub FromNames : Type 0 → Type 0
FromNames V = fin.FinMap nat_cmp V

-- the values of the variables of one process that are set
abbrev pub Variables : Type 0
Variables = FromNames Value

-- the map, and how many names more fit without taking memory
pub record NameMapView (V : Type 0) : Type 0 where
  pub map : FromNames V
  pub spare : ℕ

abbrev pub map_of : {V : Type 0} → List (NameId × V) → FromNames V
map_of es = fin.from_entries (map (λ e. (e.0.0, e.1)) es)

-- the map in which the first name, if one has come, stands for this
abbrev pub with_first : {V : Type 0} → Option (NameId × V) → FromNames V → FromNames V
with_first None m = m
with_first (Some e) m = fin.insert m e.0.0 e.1

-- the name is the first one, or none has come
abbrev pub takes_first : {V : Type 0} → Option (NameId × V) → NameId → Bool
takes_first None x = true
takes_first (Some e) x = e.0.0 == x.0
