-- The sorts of variables as a map of maps.
use Rattle.std.specs.Prelude.{◌==◌, List, Option, Some, None, if◌then◌else◌}
use Rattle.std.specs.Map.{lookup}
use Rattle.std.specs.FinMap as fin
use Rattle.chor_base.specs.declared.names.NameId.{NameId}
use Rattle.chor_base.specs.declared.value.Sort.{Sort}
use Rattle.chor_base.specs.Sorts.{Sorts}
use Rattle.chor_base.specs.NameMap.{FromNames, NameMapView}
use Rattle.typing_steps.specs.declared.sorts.SortMap.{SortMap}

-- the sorts of the variables of one process
abbrev pub sorts_of_map : FromNames Sort → Sorts
sorts_of_map m x = fin.get m x.0

abbrev pub sorts_of_entry : Option (NameMapView Sort) → Sorts
sorts_of_entry None x = None
sorts_of_entry (Some m) x = fin.get m.map x.0

abbrev pub sorts_among : List (NameId × NameMapView Sort) → NameId → Sorts
sorts_among es p = sorts_of_entry (lookup (λ k. p.0 == k.0) es)

-- the sorts of the variables of each process
abbrev pub sorts_in : SortMap → NameId → Sorts
sorts_in m = sorts_among m.processes.entries

-- the process has these sorts instead
abbrev pub with_sorts : (NameId → Sorts) → NameId → Sorts → NameId → Sorts
with_sorts m p s = λ q. if q.0 == p.0 then s else m q
