-- The code of a procedure's parameter.
use Rattle.std.specs.Prelude.{◌≡◌, ◌<◌, true, List, length, Some}
use Rattle.chor_base.specs.declared.names.NameId.{NameId}
use Rattle.chor_tree.specs.declared.file.Proc.{Proc}
use Rattle.chor_tree.specs.declared.tree.Node.{Node as TreeNode}
use Rattle.chor_semantics.specs.Sources.{tree_in, trees_of}
use Rattle.endpoint_code.specs.declared.endpoints.Procedure.{Procedure as ProcedureCode}
use Rattle.endpoint_code.specs.declared.endpoints.Endpoints.{Endpoints}
use Rattle.endpoint_code.specs.Network.{procedure_of}
use Rattle.endpoint_code.specs.Trees.{code_at}
use Rattle.projection.specs.Codes.{IsCodeOf, proc_named, sessions_for}
use Rattle.accepted_files.specs.PlayedRoles.{has_name, params_of}

pub record UnitOf (e : Endpoints) (fs : List Proc) (nodes : List TreeNode) (h p : NameId) (x : Proc) : Type 0 where
  pub unit : ProcedureCode
  pub found : procedure_of e.procedures h p ≡ Some unit
  pub sessions : unit.sessions ≡ sessions_for p x.sessions
  pub body : IsCodeOf fs p (tree_in (trees_of nodes) x.body) (code_at e.code.nodes unit.body)
  pub inside : unit.body.0 < length e.code.nodes

-- each parameter of each procedure has one
abbrev pub HasUnits : Endpoints → List Proc → List TreeNode → Type 0
HasUnits e fs nodes = (h p : NameId) (x : Proc) → proc_named fs h ≡ Some x → has_name p (params_of x) ≡ true → UnitOf e fs nodes h p x
