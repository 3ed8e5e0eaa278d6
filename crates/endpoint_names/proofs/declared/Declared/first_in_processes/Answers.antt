use Rattle.std.proofs.Common.{arith}
use Rattle.std.proofs.lemmas.Grind.{common_steps}
use Rattle.chor_base.proofs.Faults.{turn_at}
use Rattle.endpoint_names.specs.Faults.{process_faults}
use Rattle.endpoint_names.specs.Functions.{setting_of}
use Rattle.endpoint_names.proofs.declared.Declared.first_in_processes.Goals as goal

pub loop-process-preserved : goal.loop-process-preserved
loop-process-preserved c =
    turn_at (process_faults (setting_of c.args.self.now.written.now c.args.self.now.functions)) _ _ _ _ c.args.self.now.written.now.processes c.loop-process.process-index _ _ c.as_slice-processes.ensures c.loop-process-test.true c.in_ok-found.ensures c.earlier-first.ensures c.loop-process.invariant

pub returns : goal.returns
returns c = grind (arith, common_steps)
