-- Linked endpoint programs: given programs g, put in place of units of a base e (this project's own). Names and texts are
-- compared as bytes.
use Rattle.std.specs.Prelude.{ℕ, ◌≡◌, ◌++◌, List, Contains, All}
use Rattle.std.specs.List.{AllZip}
use Rattle.endpoint_code.specs.declared.code.CodeId.{CodeId}
use Rattle.endpoint_code.specs.declared.endpoints.Channel.{Channel}
use Rattle.endpoint_code.specs.declared.endpoints.Procedure.{Procedure}
use Rattle.endpoint_code.specs.declared.endpoints.ServiceCode.{ServiceCode}
use Rattle.endpoint_code.specs.declared.endpoints.Process.{Process}
use Rattle.endpoint_code.specs.declared.endpoints.Endpoints.{Endpoints}
use Rattle.endpoint_code.specs.Faults.{AsksKnown, is_listed}
use Rattle.endpoint_code.specs.Trees.{code_at}
use Rattle.same_programs.specs.Words.{SameName, SameText}
use Rattle.same_programs.specs.Programs.{SameCodeAt}
use Rattle.endpoint_link.specs.AboveAs.{IsAboveAs}

-- the code at q of g is above the code at p of e
abbrev pub IsAboveByWords : Endpoints → Endpoints → CodeId → CodeId → Type 0
IsAboveByWords e g q p = IsAboveAs (SameName g e) (SameText g e) (code_at g.code.nodes q) (code_at e.code.nodes p)

-- ---- which unit of e a unit x of g is put in place of: the one of its name

-- a channel of the same name
abbrev pub ReplacesChannel : Endpoints → Endpoints → Channel → Channel → Type 0
ReplacesChannel e g x c = SameName g e x.name c.name

-- a procedure of the same name for the same process
abbrev pub ReplacesProcedure : Endpoints → Endpoints → Procedure → Procedure → Type 0
ReplacesProcedure e g x p = SameName g e x.name p.name × SameName g e x.param p.param

-- a service of the same role of the same channel
abbrev pub ReplacesService : Endpoints → Endpoints → ServiceCode → ServiceCode → Type 0
ReplacesService e g x s = SameName g e x.channel s.channel × SameName g e x.role s.role

-- a process of the same name
abbrev pub ReplacesProcess : Endpoints → Endpoints → Process → Process → Type 0
ReplacesProcess e g x p = SameName g e x.name p.name

-- ---- what is asked of it in that place

-- it has the same roles in the same lists
abbrev pub SuitsChannel : Endpoints → Endpoints → Channel → Channel → Type 0
SuitsChannel e g x c = AllZip (SameName g e) x.active c.active × AllZip (SameName g e) x.serve c.serve

-- it has the same session names, and its code is above
abbrev pub SuitsProcedure : Endpoints → Endpoints → Procedure → Procedure → Type 0
SuitsProcedure e g x p = AllZip (SameName g e) x.sessions p.sessions × IsAboveByWords e g x.body p.body

-- its code is above
abbrev pub SuitsService : Endpoints → Endpoints → ServiceCode → ServiceCode → Type 0
SuitsService e g x s = IsAboveByWords e g x.body s.body

-- its code is above
abbrev pub SuitsProcess : Endpoints → Endpoints → Process → Process → Type 0
SuitsProcess e g x p = IsAboveByWords e g x.body p.body

-- one of these units of the base has the name of x
abbrev pub HasCounterpart : {A : Type 0} → (A → A → Type 0) → List A → A → Type 0
HasCounterpart Replaces units x = (u : _) × Contains units u × Replaces x u

-- one has the name of x, and x suits the place of each that has
pub record SuitsCounterpart {A : Type 0} (Replaces Suits : A → A → Type 0) (units : List A) (x : A) : Type 0 where
  pub there : HasCounterpart Replaces units x
  pub suits : (u : A) → Contains units u → Replaces x u → Suits x u

-- each channel of g suits the place of one of e
abbrev pub ChannelsSuit : Endpoints → Endpoints → Type 0
ChannelsSuit e g = All (SuitsCounterpart (ReplacesChannel e g) (SuitsChannel e g) e.channels) g.channels

-- each procedure does
abbrev pub ProceduresSuit : Endpoints → Endpoints → Type 0
ProceduresSuit e g = All (SuitsCounterpart (ReplacesProcedure e g) (SuitsProcedure e g) e.procedures) g.procedures

-- each service does
abbrev pub ServicesSuit : Endpoints → Endpoints → Type 0
ServicesSuit e g = All (SuitsCounterpart (ReplacesService e g) (SuitsService e g) e.services) g.services

-- each process does
abbrev pub ProcessesSuit : Endpoints → Endpoints → Type 0
ProcessesSuit e g = All (SuitsCounterpart (ReplacesProcess e g) (SuitsProcess e g) e.processes) g.processes

-- each unit of g does
pub record AllSuit (e g : Endpoints) : Type 0 where
  pub channels : ChannelsSuit e g
  pub procedures : ProceduresSuit e g
  pub services : ServicesSuit e g
  pub processes : ProcessesSuit e g

-- ---- the linked programs r

-- the code at q of r is that of a unit of g with the name of the unit u of e, or, where g has none, that of u
pub data IsLinkedCode {A : Type 0} (Replaces : A → A → Type 0) (body : A → CodeId) (e g r : Endpoints) (given : List A) (u : A) (q : CodeId) : Type 0 where
  taken : (x : A) → Contains given x → Replaces x u → SameCodeAt g r (body x) q → IsLinkedCode Replaces body e g r given u q
  kept : ((x : A) → Contains given x → Replaces x u → ⊥) → code_at r.code.nodes q ≡ code_at e.code.nodes (body u) → IsLinkedCode Replaces body e g r given u q

-- q is the linked procedure for p of e
pub record IsProcedureLinked (e g r : Endpoints) (p q : Procedure) : Type 0 where
  pub name : q.name ≡ p.name
  pub param : q.param ≡ p.param
  pub sessions : q.sessions ≡ p.sessions
  pub body : IsLinkedCode (ReplacesProcedure e g) (λ x. x.body) e g r g.procedures p q.body

-- t is the linked service for s
pub record IsServiceLinked (e g r : Endpoints) (s t : ServiceCode) : Type 0 where
  pub channel : t.channel ≡ s.channel
  pub role : t.role ≡ s.role
  pub body : IsLinkedCode (ReplacesService e g) (λ x. x.body) e g r g.services s t.body

-- q is the linked process for p
pub record IsProcessLinked (e g r : Endpoints) (p q : Process) : Type 0 where
  pub name : q.name ≡ p.name
  pub body : IsLinkedCode (ReplacesProcess e g) (λ x. x.body) e g r g.processes p q.body

-- Each unit of g suits the place of one of e, and r has the units of e in their order, with the code of g where g has the
-- unit. The tables of r begin with those of e, so that what is in both has one number
pub record IsLinked (e g r : Endpoints) : Type 0 where
  pub suit : AllSuit e g
  pub names : (more : List (List ℕ)) × (r.names ≡ e.names ++ more)
  pub texts : (more : List (List ℕ)) × (r.texts ≡ e.texts ++ more)
  pub channels : r.channels ≡ e.channels
  pub procedures : AllZip (IsProcedureLinked e g r) e.procedures r.procedures
  pub services : AllZip (IsServiceLinked e g r) e.services r.services
  pub processes : AllZip (IsProcessLinked e g r) e.processes r.processes

-- The host functions that r asks have names among these words wherever those that e and g ask have
abbrev pub AsksNoMore : Endpoints → Endpoints → Endpoints → Type 0
AsksNoMore e g r = (words : List (List ℕ)) → AsksKnown (is_listed words e) e → AsksKnown (is_listed words g) g → AsksKnown (is_listed words r) r
