-- What a role does in one event, and the state of its type to which that leads.
use Rattle.std.specs.Prelude.{ℕ, ◌≡◌, List, Option, Some, None}
use Rattle.chor_base.specs.declared.names.NameId.{NameId}
use Rattle.local_types.specs.declared.local_type.LocalState.{LocalState}
use Rattle.local_types.specs.Reading.{acts_of}
use Rattle.global_types.specs.Moves.{IsIn}
use Rattle.global_types.specs.Paths.{Action}
use Rattle.typed_sources.specs.Told.{Told, of_sort, of_endpoint, of_label, Act, puts, gets, act_of}
use Rattle.conform.specs.declared.deed.Carried.{Carried}
use Rattle.conform.specs.declared.deed.Carried.TheVariants.{Sort, Endpoint, Label}
use Rattle.conform.specs.declared.deed.Deed.{Deed}
use Rattle.conform.specs.declared.deed.Deed.TheVariants.{Puts, Gets}

-- what is told of what a message carries
abbrev pub told : Carried → Told
told (Sort s) = of_sort s
told (Endpoint p r) = of_endpoint p r
told (Label l) = of_label l

-- what is told of a role's deed
abbrev pub act : Deed → Act
act (Puts to c) = puts to (told c)
act (Gets from c) = gets from (told c)

-- by what is told of an action a state leads to state n
abbrev pub LeadsBy : LocalState → Act → ℕ → Type 0
LeadsBy t act n = (a : Action) × IsIn (a, n) (acts_of t) × (act_of a ≡ act)

-- where it leads, if it may be done there
abbrev pub IsNext : LocalState → Act → Option ℕ → Type 0
IsNext t act None = (n : ℕ) → ¬ LeadsBy t act n
IsNext t act (Some n) = LeadsBy t act n

-- the state after the first of this label, if there is one
abbrev pub HasLabel : List (NameId × ℕ) → NameId → Option ℕ → Type 0
HasLabel ls l None = (n : ℕ) → ¬ IsIn (l, n) ls
HasLabel ls l (Some n) = IsIn (l, n) ls
