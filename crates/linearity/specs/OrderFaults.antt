-- Starts that aren't ordered after an earlier one of their channel (rule U2), with their places.
use Rattle.std.specs.Prelude.{◌≡◌, ◌<◌, false, length, Contains}
use Rattle.chor_base.specs.declared.names.NameId.{NameId}
use Rattle.chor_base.specs.declared.fault.Fault.{Fault}
use Rattle.chor_base.specs.declared.rule.Rule.TheVariants.{U2}
use Rattle.chor_base.specs.declared.rule.Place.{Place}
use Rattle.chor_base.specs.Expr.{Term}
use Rattle.chor_base.specs.Faults.{fault}
use Rattle.chor_tree.specs.declared.file.File.{File}
use Rattle.chor_tree.specs.declared.file.Named.{Named}
use Rattle.chor_tree.specs.declared.file.Proc.{Proc}
use Rattle.chor_tree.specs.declared.file.Service.{Service}
use Rattle.chor_tree.specs.Source.{Statement, Block, Then, Either, body_of}
use Rattle.chor_semantics.specs.Choreography.{Choreography}
use Rattle.chor_semantics.specs.Sources.{procedure_from, procedures_of, tree_in, trees_of}
use Rattle.chor_semantics.specs.Blocks.{node_of}
use Rattle.well_formed.specs.Linear.{Members, ParameterSets, everyone, members_after, joins_from}
use Rattle.linearity.specs.Linear.{set_of, IsGreatest, IsLinearFor}

-- x is a start of channel a in a block whose active processes aren't all members
pub data IsUnorderedStart (a : NameId) (x : Fault) : Members → Block → Type 0 where
  here : {members : Members} {place : Place} {s : Statement} {next : Block} → joins_from a members (node_of s) ≡ false → fault U2 place ≡ x
      → IsUnorderedStart a x members (Then place s next)
  after : {members : Members} {place : Place} {s : Statement} {next : Block} → IsUnorderedStart a x (members_after a members (node_of s)) next
      → IsUnorderedStart a x members (Then place s next)
  first : {members : Members} {place : Place} {p : Named} {e : Term} {c d : Block} → IsUnorderedStart a x members c → IsUnorderedStart a x members (Either place p e c d)
  second : {members : Members} {place : Place} {p : Named} {e : Term} {c d : Block} → IsUnorderedStart a x members d → IsUnorderedStart a x members (Either place p e c d)

-- the same in main or in a procedure, under these sets
pub data IsUnorderedIn (f : File) (a : NameId) (sets : ParameterSets) (x : Fault) : Type 0 where
  in_main : IsUnorderedStart a x everyone (body_of f f.body) → IsUnorderedIn f a sets x
  in_a_procedure : {h : Proc} → Contains f.procs h → IsUnorderedStart a x (set_of sets (procedure_from f.tree.nodes h)) (body_of f h.body)
      → IsUnorderedIn f a sets x

-- the choreography of main
abbrev pub main_of : File → Choreography
main_of f = tree_in (trees_of f.tree.nodes) f.body

-- A start of a channel with two or more active roles that isn't ordered under the channel's greatest sets
pub record IsOrderFault (f : File) (x : Fault) : Type 0 where
  pub service : Service
  pub declared : Contains f.services service
  pub several : 1 < length service.active
  pub sets : ParameterSets
  pub greatest : IsGreatest (procedures_of f) (main_of f) service.name.name sets
  pub unordered : IsUnorderedIn f service.name.name sets x

-- The file is linear: for each channel with two or more active roles
abbrev pub IsLinearFile : File → Type 0
IsLinearFile f = (s : Service) → Contains f.services s → 1 < length s.active → IsLinearFor (procedures_of f) (main_of f) s.name.name
