use Rattle.std.proofs.Common.{arith}
use Rattle.std.proofs.lemmas.Grind.{common_steps}
use Rattle.chor_base.proofs.Faults.{turn_from}
use Rattle.endpoint_names.specs.Faults.{procedure_faults}
use Rattle.endpoint_names.specs.Functions.{setting_of}
use Rattle.endpoint_names.proofs.declared.Declared.first_in_procedures.Goals as goal

pub loop-procedure-preserved : goal.loop-procedure-preserved
loop-procedure-preserved c =
    turn_from (procedure_faults (setting_of c.args.self.now.written.now c.args.self.now.functions)) _ _ _ _ c.args.self.now.written.now.procedures c.loop-procedure.procedure-index c.procedure-item.result _ c.as_slice-procedures.ensures c.loop-procedure-test.true c.procedure-item.is c.in_ok-found.ensures c.earlier-first.ensures c.loop-procedure.invariant

pub returns : goal.returns
returns c = grind (arith, common_steps)
