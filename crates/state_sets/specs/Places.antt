-- Which number a name has in a table.
use Rattle.std.specs.Prelude.{ℕ, ◌≡◌, List, Option}
use Rattle.std.specs.FinMap as fin
use Rattle.chor_base.specs.declared.names.NameId.{NameId}
use Rattle.chor_base.specs.NameMap.{FromNames}
use Rattle.chor_tree.specs.declared.protocol.State.{State}
use Rattle.global_types.specs.Moves.{state_named}

-- the number of a name, if it has one
abbrev pub place_in : FromNames ℕ → NameId → Option ℕ
place_in places n = fin.get places n.0

-- each name has the number of the first state that has it
abbrev pub ArePlaces : List State → FromNames ℕ → Type 0
ArePlaces ss places = (n : NameId) → place_in places n ≡ state_named ss n
