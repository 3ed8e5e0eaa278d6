use Rattle.std.proofs.Common.{arith}
use Rattle.chor_base.proofs.Faults.{first_append}
use Rattle.endpoint_names.proofs.declared.Declared.first_in_service.Goals as goal

pub returns : goal.returns
returns c = grind (arith, first_append)
