use Rattle.std.proofs.Common.{arith}
use Rattle.std.proofs.lemmas.Grind.{common_steps}
use Rattle.chor_base.proofs.Faults.{turn_at}
use Rattle.endpoint_names.specs.Faults.{service_faults}
use Rattle.endpoint_names.specs.Functions.{setting_of}
use Rattle.endpoint_names.proofs.declared.Declared.first_in_services.Goals as goal

pub loop-service-preserved : goal.loop-service-preserved
loop-service-preserved c =
    turn_at (service_faults (setting_of c.args.self.now.written.now c.args.self.now.functions)) _ _ _ _ c.args.self.now.written.now.services c.loop-service.service-index _ _ c.as_slice-services.ensures c.loop-service-test.true c.in_ok-found.ensures c.earlier-first.ensures c.loop-service.invariant

pub returns : goal.returns
returns c = grind (arith, common_steps)
