-- How the greatest sets are found: parameters are taken away until nothing changes.
use Rattle.std.specs.Prelude.{ℕ, zero, suc, ◌==◌, ◌&&◌, Bool, true, List, [], ◌∷◌, if◌then◌else◌}
use Rattle.chor_base.specs.declared.names.NameId.{NameId}
use Rattle.chor_semantics.specs.Choreography.{Ref, Choreography, Then, Either, Calls, Ends}
use Rattle.chor_semantics.specs.Sources.{Procedure}
use Rattle.well_formed.specs.Linear.{Members, ParameterSets, members_after}
use Rattle.linearity.specs.Linear.{MeetsCalls, AreWithin}

-- whether the process that is passed in a parameter's place is a member
abbrev pub is_passed : Members → List Ref → ℕ → Bool
is_passed members [] i = true
is_passed members (p ∷ ps) zero = members p
is_passed members (p ∷ ps) (suc i) = is_passed members ps i

abbrev pub taken_at : NameId → Members → List Ref → ParameterSets → ParameterSets
taken_at f members ps sets = λ g i. if g.0 == f.0 then sets g i && is_passed members ps i else sets g i

-- the sets without the parameters for which a call of this choreography passes no member
abbrev pub taken : NameId → ParameterSets → Members → Choreography → ParameterSets
taken a sets members (Then n rest) = taken a sets (members_after a members n) rest
taken a sets members (Either p e first second) = taken a (taken a sets members first) members second
taken a sets members (Calls f d ps ss) = taken_at f members ps sets
taken a sets members Ends = sets

-- all sets that meet the condition on calls are within these
abbrev pub AreUpper : List Procedure → Choreography → NameId → ParameterSets → Type 0
AreUpper procs main a sets = (others : ParameterSets) → MeetsCalls procs main a others → AreWithin others sets
