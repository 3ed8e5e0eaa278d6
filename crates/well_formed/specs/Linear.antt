-- Linearity of a channel: whoever starts it again depends on its start before, so that the starts come in order.
use Rattle.std.specs.Prelude.{ℕ, suc, ◌≡◌, ◌==◌, ◌||◌, ◌&&◌, Bool, true, false, List, [], ◌∷◌, map, Some, if◌then◌else◌}
use Rattle.chor_base.specs.declared.names.NameId.{NameId}
use Rattle.chor_semantics.specs.Choreography.{Ref, Named, ref_eq, among, Node, Starts, Communicates, InTransit, Alone, Choreography, Then, Either, Calls, Ends}
use Rattle.chor_semantics.specs.Sources.{Procedure}
use Rattle.chor_semantics.specs.Steps.{procedure_named}
use Rattle.well_formed.specs.WellFormed.{firsts, service_refs}

-- a set of processes: those that have heard of the last start of a channel
abbrev pub Members : Type 0
Members = Ref → Bool

-- for each procedure the places of the parameters that are in the set where its body begins
abbrev pub ParameterSets : Type 0
ParameterSets = NameId → ℕ → Bool

-- at first every process is in it
abbrev pub everyone : Members
everyone = λ r. true

-- one of them is in the set
abbrev pub any_in : Members → List Ref → Bool
any_in members [] = false
any_in members (r ∷ rs) = members r || any_in members rs

-- all of them are
abbrev pub all_in : Members → List Ref → Bool
all_in members [] = true
all_in members (r ∷ rs) = members r && all_in members rs

-- after a start of this channel the members are the start's processes; at a start of another channel they come in if
-- one of its active processes is a member
abbrev pub after_start : Bool → Members → List Ref → List Ref → Members
after_start true members active serve = λ r. among r active || among r serve
after_start false members active serve = λ r. members r || (any_in members active && (among r active || among r serve))

-- the set after a node: by a communication the receiver comes in if the sender is a member
abbrev pub members_after : NameId → Members → Node → Members
members_after a members (Starts c d k active serve) = after_start (c.0 == a.0) members (firsts active) (service_refs d serve)
members_after a members (Communicates s p x q y w) = λ r. members r || (members p && ref_eq r q)
members_after a members (InTransit s x y m q) = members
members_after a members (Alone p o) = members

-- the active processes of a start of this channel are all members
abbrev pub joins_from : NameId → Members → Node → Bool
joins_from a members (Starts c d k active serve) = if c.0 == a.0 then all_in members (firsts active) else true
joins_from a members (Communicates s p x q y w) = true
joins_from a members (InTransit s x y m q) = true
joins_from a members (Alone p o) = true

-- the passed processes of the parameters in a set, from the i-th on
abbrev pub given : (ℕ → Bool) → ℕ → List Ref → Members
given f i [] = λ r. false
given f i (p ∷ ps) = λ r. (f i && ref_eq r p) || given f (suc i) ps r

-- all of these are members
abbrev pub all_given : Members → (ℕ → Bool) → ℕ → List Ref → Bool
all_given members f i [] = true
all_given members f i (p ∷ ps) = (if f i then members p else true) && all_given members f (suc i) ps

-- on each path each start of channel a is by members, and a call passes members for the parameters in its set
abbrev pub IsLinear : NameId → ParameterSets → Members → Choreography → Type 0
IsLinear a sets members (Then n rest) = (joins_from a members n ≡ true) × IsLinear a sets (members_after a members n) rest
IsLinear a sets members (Either p e c d) = IsLinear a sets members c × IsLinear a sets members d
IsLinear a sets members (Calls f d ps ss) = all_given members (sets f) 0 ps ≡ true
IsLinear a sets members Ends = Unit {0}

-- so it is in each procedure, from its set on
abbrev pub AllLinear : NameId → ParameterSets → List Procedure → Type 0
AllLinear a sets procs = (f : NameId) (p : Procedure) → procedure_named procs f ≡ Some p → IsLinear a sets (given (sets f) 0 (map (λ x. Named x.0 0) p.params)) p.body
