-- The nodes that are in a body of endpoint programs.
use Rattle.std.specs.Prelude.{◌≡◌, Some, Contains}
use Rattle.endpoint_code.specs.declared.code.CodeId.{CodeId}
use Rattle.endpoint_code.specs.declared.code.CodeNode.{CodeNode}
use Rattle.endpoint_code.specs.declared.endpoints.Procedure.{Procedure}
use Rattle.endpoint_code.specs.declared.endpoints.ServiceCode.{ServiceCode}
use Rattle.endpoint_code.specs.declared.endpoints.Process.{Process}
use Rattle.endpoint_code.specs.declared.endpoints.Endpoints.{Endpoints}
use Rattle.endpoint_code.specs.Code.{children_of}
use Rattle.endpoint_code.specs.Network.{node_at}

-- the node with which a unit's body begins, or one that follows such a node
pub data IsInBody (e : Endpoints) : CodeId → Type 0 where
  of_procedure : {id : CodeId} {q : Procedure} → Contains e.procedures q → q.body ≡ id → IsInBody e id
  of_service : {id : CodeId} {s : ServiceCode} → Contains e.services s → s.body ≡ id → IsInBody e id
  of_process : {id : CodeId} {p : Process} → Contains e.processes p → p.body ≡ id → IsInBody e id
  after_node : {id next : CodeId} {n : CodeNode} → IsInBody e id → node_at e id ≡ Some n → Contains (children_of n) next → IsInBody e next
