-- Branches and starts whose codes can't be merged (rules M1 and M2), and the first of them.
use Rattle.std.specs.Prelude.{◌≡◌, ◌==◌, not, List, [], ◌∷◌, ◌++◌, map, Some}
use Rattle.std.specs.List.{AllZip, All, filter, flat_map}
use Rattle.chor_base.specs.declared.names.NameId.{NameId}
use Rattle.chor_base.specs.declared.rule.Rule.{Rule}
use Rattle.chor_base.specs.declared.rule.Rule.TheVariants.{M1, M2}
use Rattle.chor_base.specs.declared.rule.Place.{Place}
use Rattle.chor_base.specs.declared.rule.Denied.{Denied}
use Rattle.chor_base.specs.declared.rule.Denied.TheVariants.{Refused, Memory}
use Rattle.chor_base.specs.Writing.{name_in}
use Rattle.chor_tree.specs.declared.file.File.{File}
use Rattle.chor_tree.specs.declared.file.Named.{Named as Written}
use Rattle.chor_tree.specs.declared.file.Service.{Service}
use Rattle.chor_tree.specs.Source.{Statement, Starts, Block, Then, Either, Calls, Ends, Procedure, source_of}
use Rattle.endpoint_code.specs.Trees.{CodeTree}
use Rattle.endpoint_code.specs.LeastAbove.{HasNoneAbove}
use Rattle.chor_semantics.specs.Blocks.{choreography_of}
use Rattle.projection.specs.Codes.{IsCodeOf}
use Rattle.projection.specs.Projects.{starts_of, started_services, IsStartCode}

-- the first item of a list that has a property
pub data IsFirstOf {X : Type 0} (P : X → Type 0) (x : X) : List X → Type 0 where
  here : {xs : List X} → P x → IsFirstOf P x (x ∷ xs)
  later : {y : X} {xs : List X} → (P y → ⊥) → IsFirstOf P x xs → IsFirstOf P x (y ∷ xs)

-- ---- M1

-- a conditional with its two branches, and a process that is in scope there and doesn't decide
pub record Site : Type 0 where
  pub place : Place
  pub first : Block
  pub second : Block
  pub process : NameId

-- the processes that a statement makes
abbrev pub made_by : Statement → List NameId
made_by (Starts c k active serve) = map (λ p. p.process.name) serve
made_by _ = []

-- a conditional with each process that is in scope there and doesn't decide
abbrev pub sites_at : List NameId → Place → Written → Block → Block → List Site
sites_at scope place decider first second =
    map (λ r. record { place = place; first = first; second = second; process = r }) (filter (λ r. not (r.0 == decider.name.0)) scope)

-- the conditionals of a block by the braces that close them, so inner ones first; at one the processes in the order in
-- which they are declared
abbrev pub sites_in : List NameId → Block → List Site
sites_in scope (Then place s next) = sites_in (scope ++ made_by s) next
sites_in scope (Either place decider e first second) = sites_in scope first ++ sites_in scope second ++ sites_at scope place decider first second
sites_in scope (Calls place f ps ss) = []
sites_in scope (Ends place) = []

-- the procedures in source order, then main
abbrev pub sites_of : File → List Site
sites_of f =
    flat_map (λ (h : Procedure). sites_in (map (λ p. p.name.name) h.params) h.body) (source_of f).items.procedures
    ++ sites_in (map (λ p. p.name) f.processes) (source_of f).body

-- the process has a code for each branch, and none is above both
pub record HasClash (f : File) (s : Site) : Type 0 where
  pub first : CodeTree
  pub second : CodeTree
  pub first_code : IsCodeOf f.procs s.process (choreography_of s.first) first
  pub second_code : IsCodeOf f.procs s.process (choreography_of s.second) second
  pub none : HasNoneAbove (first ∷ second ∷ [])

-- ---- M2

-- each channel that a start names, with each of its service roles, as declared
abbrev pub services_of : File → List (Written × Written)
services_of f = flat_map (λ (s : Service). map (λ r. (s.name, r)) s.serve) (started_services f)

-- the role has a code after each start of its channel, and none is above all
pub record HasServiceClash (f : File) (x : Written × Written) : Type 0 where
  pub codes : List CodeTree
  pub each : AllZip (IsStartCode f.procs x.0.name x.1.name) (starts_of f x.0.name) codes
  pub none : HasNoneAbove codes

-- ---- the first fault

-- at the `if`, with the process that can't tell the branches apart
pub record IsBranchFault (f : File) (place : Place) (who : NameId) : Type 0 where
  pub site : Site
  pub first : IsFirstOf (HasClash f) site (sites_of f)
  pub place_is : site.place ≡ place
  pub who_is : site.process ≡ who

-- no branches clash; at the channel's name in its service, with the role
pub record IsServiceFault (f : File) (place : Place) (who : NameId) : Type 0 where
  pub branches : All (λ s. HasClash f s → ⊥) (sites_of f)
  pub service : Written × Written
  pub first : IsFirstOf (HasServiceClash f) service (services_of f)
  pub place_is : service.0.place ≡ place
  pub who_is : service.1.name ≡ who

-- The first fault of merging: its rule, its place, and whose code it is
pub data IsFirstMergeFault (f : File) (rule : Rule) (place : Place) (who : NameId) : Type 0 where
  branches : rule ≡ M1 → IsBranchFault f place who → IsFirstMergeFault f rule place who
  starts : rule ≡ M2 → IsServiceFault f place who → IsFirstMergeFault f rule place who

-- a refusal tells the first fault by the written name; want of memory says nothing
abbrev pub IsMergeDenial : File → Denied → Type 0
IsMergeDenial f (Refused r) = (who : NameId) × IsFirstMergeFault f r.rule r.place who × (r.who ≡ Some (name_in f.names who))
IsMergeDenial f Memory = Unit {0}
