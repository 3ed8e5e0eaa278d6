-- The parameters in the sets of a channel.
use Rattle.std.specs.Prelude.{ℕ, ◌==◌, ◌&&◌, Bool, true, Option, Some, None}
use Rattle.std.specs.Map.{lookup}
use Rattle.linearity.specs.Marks.{is_marked}
use Rattle.linearity.specs.declared.marks.Marks.{Marks}
use Rattle.well_formed.specs.Linear.{ParameterSets}
use Rattle.linear_check.specs.declared.sets.Sets.{Sets}

-- a parameter of which nothing is known is in all sets
abbrev pub marked_in : Option Marks → ℕ → Bool
marked_in None c = true
marked_in (Some m) c = is_marked m c

-- the parameters in the sets of the channel of a number
abbrev pub holds : Sets → ℕ → ParameterSets
holds s c = λ f i. marked_in (lookup (λ k. (f.0 == k.procedure.0) && (i == k.place)) s.marks.entries) c
