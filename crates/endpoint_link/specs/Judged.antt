-- The first given unit that can't be put in place of a unit of the base, and the rule that it violates (this project's own).
use Rattle.std.specs.Prelude.{ℕ, ◌≡◌, List, Option, Some, None, All, take, slice_get}
use Rattle.endpoint_code.specs.declared.endpoints.Endpoints.{Endpoints}
use Rattle.endpoint_link.specs.Linked.{ReplacesChannel, SuitsChannel, ReplacesProcedure, SuitsProcedure, ReplacesService, SuitsService, ReplacesProcess, SuitsProcess, HasCounterpart, SuitsCounterpart, ChannelsSuit, ProceduresSuit, ServicesSuit}
use Rattle.endpoint_link.specs.declared.fault.LinkRule.{LinkRule}
use Rattle.endpoint_link.specs.declared.fault.LinkRule.TheVariants.{K1, K2}
use Rattle.endpoint_link.specs.declared.fault.Unit.{Unit as AnyUnit}
use Rattle.endpoint_link.specs.declared.fault.Unit.TheVariants.{Channel, Procedure, Service, Process}
use Rattle.endpoint_link.specs.declared.fault.LinkFault.{LinkFault}
use Rattle.endpoint_link.specs.declared.fault.LinkFault.TheVariants.{Refused, Memory}
use Rattle.endpoint_link.specs.declared.verdict.Comparison.{Comparison}
use Rattle.endpoint_link.specs.declared.verdict.Comparison.TheVariants.{Other, Suited, Unsuited}

-- K2 where no unit of the base has its name, K1 where one has and it doesn't suit the place
abbrev pub ViolatesLinkRule : {A : Type 0} → (A → A → Type 0) → (A → A → Type 0) → List A → A → LinkRule → Type 0
ViolatesLinkRule Replaces Suits units x K2 = HasCounterpart Replaces units x → ⊥
ViolatesLinkRule Replaces Suits units x K1 = HasCounterpart Replaces units x × (SuitsCounterpart Replaces Suits units x → ⊥)

-- the verdict on a unit: it suits its place, or violates this rule
abbrev pub IsVerdict : {A : Type 0} → (A → A → Type 0) → (A → A → Type 0) → List A → A → Option LinkRule → Type 0
IsVerdict Replaces Suits units x None = SuitsCounterpart Replaces Suits units x
IsVerdict Replaces Suits units x (Some rule) = ViolatesLinkRule Replaces Suits units x rule

-- how a given unit compares with one unit of the base
abbrev pub IsComparison : {A : Type 0} → (A → A → Type 0) → (A → A → Type 0) → A → A → Comparison → Type 0
IsComparison Replaces Suits x u Other = Replaces x u → ⊥
IsComparison Replaces Suits x u Suited = Replaces x u × Suits x u
IsComparison Replaces Suits x u Unsuited = Replaces x u × (Suits x u → ⊥)

-- the verdict after one more unit of the base, which the given one suits
abbrev pub suited_after : Option LinkRule → Option LinkRule
suited_after (Some K1) = Some K1
suited_after (Some K2) = None
suited_after None = None

-- the verdict after one more comparison
abbrev pub verdict_after : Option LinkRule → Comparison → Option LinkRule
verdict_after v Other = v
verdict_after v Unsuited = Some K1
verdict_after v Suited = suited_after v

-- ---- the first unit that fails

-- the given unit at this place violates the rule, and those before it suit their places
pub record IsFirstUnsuited {A : Type 0} (Replaces Suits : A → A → Type 0) (units given : List A) (i : ℕ) (rule : LinkRule) : Type 0 where
  pub unit : A
  pub here : slice_get given i ≡ Some unit
  pub before : All (SuitsCounterpart Replaces Suits units) (take i given)
  pub violates : ViolatesLinkRule Replaces Suits units unit rule

-- all given units suit their places, or this one is the first that doesn't
abbrev pub FindsFirstUnsuited : {A : Type 0} → (A → A → Type 0) → (A → A → Type 0) → List A → List A → Option (LinkRule × ℕ) → Type 0
FindsFirstUnsuited Replaces Suits units given None = All (SuitsCounterpart Replaces Suits units) given
FindsFirstUnsuited Replaces Suits units given (Some (rule, i)) = IsFirstUnsuited Replaces Suits units given i rule

-- so it is among the channels of g, put in place of those of e
abbrev pub FindsFirstChannel : Endpoints → Endpoints → Option (LinkRule × ℕ) → Type 0
FindsFirstChannel e g = FindsFirstUnsuited (ReplacesChannel e g) (SuitsChannel e g) e.channels g.channels

-- among the procedures
abbrev pub FindsFirstProcedure : Endpoints → Endpoints → Option (LinkRule × ℕ) → Type 0
FindsFirstProcedure e g = FindsFirstUnsuited (ReplacesProcedure e g) (SuitsProcedure e g) e.procedures g.procedures

-- among the services
abbrev pub FindsFirstService : Endpoints → Endpoints → Option (LinkRule × ℕ) → Type 0
FindsFirstService e g = FindsFirstUnsuited (ReplacesService e g) (SuitsService e g) e.services g.services

-- among the processes
abbrev pub FindsFirstProcess : Endpoints → Endpoints → Option (LinkRule × ℕ) → Type 0
FindsFirstProcess e g = FindsFirstUnsuited (ReplacesProcess e g) (SuitsProcess e g) e.processes g.processes

-- In the order channels, procedures, services, processes, this is the first unit of g that fails, by this rule
abbrev pub IsFirstLinkFault : Endpoints → Endpoints → LinkRule → AnyUnit → Type 0
IsFirstLinkFault e g rule (Channel i) = IsFirstUnsuited (ReplacesChannel e g) (SuitsChannel e g) e.channels g.channels i rule
IsFirstLinkFault e g rule (Procedure i) = ChannelsSuit e g × IsFirstUnsuited (ReplacesProcedure e g) (SuitsProcedure e g) e.procedures g.procedures i rule
IsFirstLinkFault e g rule (Service i) = ChannelsSuit e g × ProceduresSuit e g × IsFirstUnsuited (ReplacesService e g) (SuitsService e g) e.services g.services i rule
IsFirstLinkFault e g rule (Process i) = ChannelsSuit e g × ProceduresSuit e g × ServicesSuit e g × IsFirstUnsuited (ReplacesProcess e g) (SuitsProcess e g) e.processes g.processes i rule

-- Why g can't be linked with e; running out of memory says nothing
abbrev pub IsLinkFault : Endpoints → Endpoints → LinkFault → Type 0
IsLinkFault e g (Refused rule unit) = IsFirstLinkFault e g rule unit
IsLinkFault e g Memory = Unit {0}
