-- Units by their names, and where a name stands in a list (this project's own).
use Rattle.std.specs.Prelude.{ℕ, ◌≡◌, ◌==◌, ◌&&◌, Bool, List, Option, Some, None, Contains, slice_get, if◌then◌else◌}
use Rattle.std.specs.Map.{lookup}
use Rattle.std.specs.Option.{option_eq}
use Rattle.endpoint_code.specs.declared.endpoints.Channel.{Channel}
use Rattle.endpoint_code.specs.declared.endpoints.Procedure.{Procedure}
use Rattle.endpoint_code.specs.declared.endpoints.ServiceCode.{ServiceCode}
use Rattle.endpoint_code.specs.declared.endpoints.Process.{Process}
use Rattle.chor_base.specs.declared.names.NameId.{NameId}
use Rattle.endpoint_link.specs.declared.renumbering.Renumbering.{Renumbering}
use Rattle.endpoint_link.specs.declared.unit_name.UnitName.{UnitName}
use Rattle.endpoint_link.specs.declared.index.Standing.{Standing}
use Rattle.endpoint_link.specs.declared.index.Standing.TheVariants.{Once, Again}
use Rattle.endpoint_link.specs.declared.index.Standings.{Standings}
use Rattle.endpoint_link.specs.Renumbered.{renumbered_name}

-- ---- names of units

-- the name of a channel
abbrev pub name_of_channel : Channel → UnitName
name_of_channel c = record { name = c.name; second = None }

-- of a procedure, with its process
abbrev pub name_of_procedure : Procedure → UnitName
name_of_procedure p = record { name = p.name; second = Some p.param }

-- of a service, with its role
abbrev pub name_of_service : ServiceCode → UnitName
name_of_service s = record { name = s.channel; second = Some s.role }

-- of a process
abbrev pub name_of_process : Process → UnitName
name_of_process p = record { name = p.name; second = None }

-- a second name, renumbered
abbrev pub renumbered_second : Renumbering → Option NameId → Option NameId
renumbered_second s None = None
renumbered_second s (Some x) = Some (renumbered_name s x)

-- a name of a unit, renumbered
abbrev pub renumbered_unit : Renumbering → UnitName → UnitName
renumbered_unit s u = record { name = renumbered_name s u.name; second = renumbered_second s u.second }

-- two names of units are the same
abbrev pub same_unit : UnitName → UnitName → Bool
same_unit x y = (x.name.0 == y.name.0) && option_eq (λ a b. a.0 == b.0) x.second y.second

-- ---- where a name stands

-- what is found for a name
abbrev pub standing_of : Standings → UnitName → Option Standing
standing_of s k = lookup (same_unit k) s.entries.entries

-- where a name stands that stands at place i too
abbrev pub standing_after : ℕ → Option Standing → Standing
standing_after i None = Once i
standing_after i (Some s) = Again

-- what is found for the name k once x stands at place i too
abbrev pub standing_with : ℕ → Standings → UnitName → UnitName → Option Standing
standing_with i s x k = if same_unit x k then Some (standing_after i (standing_of s x)) else standing_of s k

-- Where nothing is found for a name, no place of the list has it; where one place is found, that one has it, and no other.
-- Of a name that may stand again nothing is said
abbrev pub IsIndex : List UnitName → Standings → Type 0
IsIndex names s =
    ((k : UnitName) (i : ℕ) → standing_of s k ≡ None → slice_get names i ≡ Some k → ⊥)
    × ((k : UnitName) (i : ℕ) → standing_of s k ≡ Some (Once i) → slice_get names i ≡ Some k)
    × ((k : UnitName) (i j : ℕ) → standing_of s k ≡ Some (Once i) → slice_get names j ≡ Some k → j ≡ i)

-- the part has only units of the list, and all of those whose place in the list of names has this name
pub record IsPartNamed {A : Type 0} (names : List UnitName) (name : UnitName) (units part : List A) : Type 0 where
  pub inside : (u : A) → Contains part u → Contains units u
  pub all : (i : ℕ) (u : A) → slice_get names i ≡ Some name → slice_get units i ≡ Some u → Contains part u
