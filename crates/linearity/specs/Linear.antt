-- Linear files: two starts of one channel can't have their active processes mixed (this project's own check; no agreement
-- with the published one is claimed).
use Rattle.std.specs.Prelude.{ℕ, ◌≡◌, true, List, map, All}
use Rattle.chor_base.specs.declared.names.NameId.{NameId}
use Rattle.chor_semantics.specs.Choreography.{Named, Choreography, Then, Either, Calls, Ends}
use Rattle.chor_semantics.specs.Sources.{Procedure}
use Rattle.well_formed.specs.Linear.{Members, ParameterSets, everyone, members_after, joins_from, given, all_given}

-- each start of channel a is by members alone
abbrev pub AreOrdered : NameId → Members → Choreography → Type 0
AreOrdered a members (Then n rest) = (joins_from a members n ≡ true) × AreOrdered a (members_after a members n) rest
AreOrdered a members (Either p e first second) = AreOrdered a members first × AreOrdered a members second
AreOrdered a members (Calls f d ps ss) = Unit {0}
AreOrdered a members Ends = Unit {0}

-- each call passes members for the parameters in the procedure's set
abbrev pub ArePassed : NameId → ParameterSets → Members → Choreography → Type 0
ArePassed a sets members (Then n rest) = ArePassed a sets (members_after a members n) rest
ArePassed a sets members (Either p e first second) = ArePassed a sets members first × ArePassed a sets members second
ArePassed a sets members (Calls f d ps ss) = all_given members (sets f) 0 ps ≡ true
ArePassed a sets members Ends = Unit {0}

-- ---- files

-- where a procedure's body begins: the parameters in its set
abbrev pub set_of : ParameterSets → Procedure → Members
set_of sets h = given (sets h.name) 0 (map (λ x. Named x.0 0) h.params)

-- the sets meet the condition on calls, in all procedures and in main
pub record MeetsCalls (procs : List Procedure) (main : Choreography) (a : NameId) (sets : ParameterSets) : Type 0 where
  pub in_procs : All (λ h. ArePassed a sets (set_of sets h) h.body) procs
  pub in_main : ArePassed a sets everyone main

-- they meet that on starts
pub record MeetsStarts (procs : List Procedure) (main : Choreography) (a : NameId) (sets : ParameterSets) : Type 0 where
  pub in_procs : All (λ h. AreOrdered a (set_of sets h) h.body) procs
  pub in_main : AreOrdered a everyone main

-- Linear for a channel: there are sets that meet both
pub record IsLinearFor (procs : List Procedure) (main : Choreography) (a : NameId) : Type 0 where
  pub sets : ParameterSets
  pub passed : MeetsCalls procs main a sets
  pub ordered : MeetsStarts procs main a sets

-- ---- the greatest sets

-- each set is within that of the other assignment
abbrev pub AreWithin : ParameterSets → ParameterSets → Type 0
AreWithin sets more = (f : NameId) (i : ℕ) → sets f i ≡ true → more f i ≡ true

-- The greatest sets that meet the condition on calls
pub record IsGreatest (procs : List Procedure) (main : Choreography) (a : NameId) (sets : ParameterSets) : Type 0 where
  pub passed : MeetsCalls procs main a sets
  pub greatest : (others : ParameterSets) → MeetsCalls procs main a others → AreWithin others sets
