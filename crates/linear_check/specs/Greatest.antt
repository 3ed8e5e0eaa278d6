-- The greatest sets of several channels, and the unordered starts under these.
use Rattle.std.specs.Prelude.{ℕ, ◌≡◌, ◌<◌, List, length, map, Contains}
use Rattle.chor_base.specs.declared.names.NameId.{NameId}
use Rattle.chor_base.specs.declared.fault.Fault.{Fault}
use Rattle.chor_tree.specs.declared.file.File.{File}
use Rattle.chor_tree.specs.declared.file.Proc.{Proc}
use Rattle.chor_tree.specs.Source.{body_of}
use Rattle.chor_semantics.specs.Choreography.{Named}
use Rattle.chor_semantics.specs.Sources.{procedures_of}
use Rattle.well_formed.specs.Linear.{Members, ParameterSets, given}
use Rattle.linearity.specs.Linear.{IsGreatest}
use Rattle.linearity.specs.Taken.{AreUpper}
use Rattle.linearity.specs.OrderFaults.{main_of, IsUnorderedIn}
use Rattle.linear_check.specs.declared.heard.Heard.{Heard}
use Rattle.linear_check.specs.declared.sets.Sets.{Sets}
use Rattle.linear_check.specs.Heard.{hears}
use Rattle.linear_check.specs.Sets.{holds}
use Rattle.linear_check.specs.Tracks.{channel_at, IsUnorderedOfAny}
use Rattle.linear_check.specs.Takes.{TakesAway}

-- the parameters in a procedure's set, for each channel of a number
abbrev pub members_in : Sets → Proc → ℕ → Members
members_in sets p = λ c. given (holds sets c p.name.name) 0 (map (λ x. Named x.0 0) (map (λ q. q.name.name) p.params))

-- where a procedure begins the parameters in its sets have heard
abbrev pub HearsInSet : Sets → Proc → Heard → Type 0
HearsInSet sets p h = (c : ℕ) → c < 128 → (x : ℕ) → members_in sets p c (Named x 0) ≡ hears h c x

-- the sets after a walk of a procedure's body
abbrev pub TakesIn : File → List NameId → Proc → Sets → Sets → Type 0
TakesIn f channels p old new = TakesAway channels (members_in old p) (body_of f p.body) old new

-- the sets of each channel have in them all that meet the condition on calls
abbrev pub AreAllUpper : File → List NameId → Sets → Type 0
AreAllUpper f channels sets = (c : ℕ) → c < length channels → AreUpper (procedures_of f) (main_of f) (channel_at channels c) (holds sets c)

-- they are the greatest that do
abbrev pub AreAllGreatest : File → List NameId → Sets → Type 0
AreAllGreatest f channels sets = (c : ℕ) → c < length channels → IsGreatest (procedures_of f) (main_of f) (channel_at channels c) (holds sets c)

-- x is a start of one of the channels that isn't ordered under its sets
abbrev pub IsUnorderedUnder : File → List NameId → Sets → Fault → Type 0
IsUnorderedUnder f channels sets x = (c : ℕ) × (c < length channels) × IsUnorderedIn f (channel_at channels c) (holds sets c) x

-- the same in the bodies of these procedures
abbrev pub IsUnorderedInProcedures : File → List NameId → Sets → List Proc → Fault → Type 0
IsUnorderedInProcedures f channels sets ps x = (p : Proc) × Contains ps p × IsUnorderedOfAny channels (members_in sets p) (body_of f p.body) x

-- x is a start of one of the channels that isn't ordered under its greatest sets
abbrev pub IsOrderFaultOf : File → List NameId → Fault → Type 0
IsOrderFaultOf f channels x = (a : NameId) × Contains channels a × (sets : ParameterSets) × IsGreatest (procedures_of f) (main_of f) a sets × IsUnorderedIn f a sets x

-- each of the channels has greatest sets
abbrev pub HaveGreatest : File → List NameId → Type 0
HaveGreatest f channels = (a : NameId) → Contains channels a → (sets : ParameterSets) × IsGreatest (procedures_of f) (main_of f) a sets
