-- Where something stands first in a list, and tables of it.
use Rattle.std.specs.Prelude.{ℕ, suc, Option, Some, None, is_some, if◌then◌else◌}
use Rattle.std.specs.FinMap as fin
use Rattle.chor_base.specs.declared.names.NameId.{NameId}
use Rattle.chor_base.specs.NameMap.{FromNames}

-- a place in a list's rest, counted in the list
abbrev pub one_later : Option ℕ → Option ℕ
one_later None = None
one_later (Some k) = Some (suc k)

-- the first of two places that is there
abbrev pub or_else : Option ℕ → Option ℕ → Option ℕ
or_else None o = o
or_else (Some k) o = Some k

-- the table with a name's place, where the name has none yet
abbrev pub with_place : FromNames ℕ → NameId → ℕ → FromNames ℕ
with_place places x i = if is_some (fin.get places x.0) then places else fin.insert places x.0 i
