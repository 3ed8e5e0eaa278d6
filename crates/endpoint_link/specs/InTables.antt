-- Units of the base and of the given programs, compared by their numbers in one set of tables (this project's own).
use Rattle.std.specs.Prelude.{◌≡◌, ◌<◌, List, length, map, Contains, All}
use Rattle.endpoint_code.specs.declared.code.CodeId.{CodeId}
use Rattle.endpoint_code.specs.declared.endpoints.Channel.{Channel}
use Rattle.endpoint_code.specs.declared.endpoints.Procedure.{Procedure}
use Rattle.endpoint_code.specs.declared.endpoints.ServiceCode.{ServiceCode}
use Rattle.endpoint_code.specs.declared.endpoints.Process.{Process}
use Rattle.endpoint_code.specs.declared.endpoints.Endpoints.{Endpoints}
use Rattle.endpoint_code.specs.Above.{IsAbove}
use Rattle.endpoint_code.specs.Trees.{code_at}
use Rattle.endpoint_link.specs.Renumbered.{renumbered_name, renumbered_code}
use Rattle.endpoint_link.specs.declared.joined.Joined.{Joined}
use Rattle.endpoint_link.specs.declared.verdict.Comparison.{Comparison}
use Rattle.endpoint_link.specs.declared.verdict.Comparison.TheVariants.{Other, Suited, Unsuited}

-- the code at this number of the base is in the joined table
abbrev pub IsInside : Joined → CodeId → Type 0
IsInside j p = p.0 < length j.code.nodes

-- the code at this number of the given programs is, renumbered
abbrev pub IsGivenInside : Joined → CodeId → Type 0
IsGivenInside j q = IsInside j (renumbered_code j.numbers q)

-- the code at q of the given programs is above the code at p of the base
abbrev pub IsAboveInTables : Joined → CodeId → CodeId → Type 0
IsAboveInTables j q p = IsAbove (code_at j.code.nodes (renumbered_code j.numbers q)) (code_at j.code.nodes p)

-- a comparison of the two codes: suited where the given one is above
abbrev pub IsCodeComparison : Joined → CodeId → CodeId → Comparison → Type 0
IsCodeComparison j q p Other = ⊥
IsCodeComparison j q p Suited = IsAboveInTables j q p
IsCodeComparison j q p Unsuited = IsAboveInTables j q p → ⊥

-- ---- a given unit x and a unit of the base of its kind: it has its name, and it suits its place

abbrev pub ReplacesChannelIn : Joined → Channel → Channel → Type 0
ReplacesChannelIn j x c = renumbered_name j.numbers x.name ≡ c.name

abbrev pub SuitsChannelIn : Joined → Channel → Channel → Type 0
SuitsChannelIn j x c = (map (renumbered_name j.numbers) x.active ≡ c.active) × (map (renumbered_name j.numbers) x.serve ≡ c.serve)

abbrev pub ReplacesProcedureIn : Joined → Procedure → Procedure → Type 0
ReplacesProcedureIn j x p = (renumbered_name j.numbers x.name ≡ p.name) × (renumbered_name j.numbers x.param ≡ p.param)

abbrev pub SuitsProcedureIn : Joined → Procedure → Procedure → Type 0
SuitsProcedureIn j x p = (map (renumbered_name j.numbers) x.sessions ≡ p.sessions) × IsAboveInTables j x.body p.body

abbrev pub ReplacesServiceIn : Joined → ServiceCode → ServiceCode → Type 0
ReplacesServiceIn j x s = (renumbered_name j.numbers x.channel ≡ s.channel) × (renumbered_name j.numbers x.role ≡ s.role)

abbrev pub SuitsServiceIn : Joined → ServiceCode → ServiceCode → Type 0
SuitsServiceIn j x s = IsAboveInTables j x.body s.body

abbrev pub ReplacesProcessIn : Joined → Process → Process → Type 0
ReplacesProcessIn j x p = renumbered_name j.numbers x.name ≡ p.name

abbrev pub SuitsProcessIn : Joined → Process → Process → Type 0
SuitsProcessIn j x p = IsAboveInTables j x.body p.body

-- ---- linked units

-- q is the code of a given unit with the name, or else the unit's own code
pub data IsLinkedCodeIn {A : Type 0} (j : Joined) (Replaces : A → Type 0) (body : A → CodeId) (given : List A) (own q : CodeId) : Type 0 where
  taken : (x : A) → Contains given x → Replaces x → q ≡ renumbered_code j.numbers (body x) → IsLinkedCodeIn j Replaces body given own q
  kept : All (λ x. Replaces x → ⊥) given → q ≡ own → IsLinkedCodeIn j Replaces body given own q

-- q is the linked procedure for p of the base
pub record IsProcedureLinkedIn (j : Joined) (given : List Procedure) (p q : Procedure) : Type 0 where
  pub name : q.name ≡ p.name
  pub param : q.param ≡ p.param
  pub sessions : q.sessions ≡ p.sessions
  pub body : IsLinkedCodeIn j (λ x. ReplacesProcedureIn j x p) (λ x. x.body) given p.body q.body

-- t is the linked service for s
pub record IsServiceLinkedIn (j : Joined) (given : List ServiceCode) (s t : ServiceCode) : Type 0 where
  pub channel : t.channel ≡ s.channel
  pub role : t.role ≡ s.role
  pub body : IsLinkedCodeIn j (λ x. ReplacesServiceIn j x s) (λ x. x.body) given s.body t.body

-- q is the linked process for p
pub record IsProcessLinkedIn (j : Joined) (given : List Process) (p q : Process) : Type 0 where
  pub name : q.name ≡ p.name
  pub body : IsLinkedCodeIn j (λ x. ReplacesProcessIn j x p) (λ x. x.body) given p.body q.body

-- these programs have the joined tables
pub record HasTablesOf (j : Joined) (r : Endpoints) : Type 0 where
  pub names : r.names ≡ j.names
  pub texts : r.texts ≡ j.texts
  pub code : r.code ≡ j.code
