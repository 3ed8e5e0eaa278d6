-- Each body of an endpoint program stands in its table.
use Rattle.std.specs.Prelude.{◌<◌, List, length, All}
use Rattle.endpoint_code.specs.declared.code.CodeNode.{CodeNode}
use Rattle.endpoint_code.specs.declared.endpoints.Procedure.{Procedure}
use Rattle.endpoint_code.specs.declared.endpoints.ServiceCode.{ServiceCode}
use Rattle.endpoint_code.specs.declared.endpoints.Process.{Process}

pub record AreInside (nodes : List CodeNode) (procedures : List Procedure) (services : List ServiceCode) (processes : List Process) : Type 0 where
  pub in_procedures : All (λ p. p.body.0 < length nodes) procedures
  pub in_services : All (λ s. s.body.0 < length nodes) services
  pub in_processes : All (λ p. p.body.0 < length nodes) processes
