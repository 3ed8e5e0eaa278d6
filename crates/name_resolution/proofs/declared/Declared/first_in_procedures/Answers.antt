use Rattle.chor_tree.specs.Names.{procedure_faults}
use Rattle.chor_base.proofs.Faults.{turn_from}
use Rattle.name_resolution.proofs.declared.Declared.first_in_procedures.Goals as goal

pub loop-procedure-preserved : goal.loop-procedure-preserved
loop-procedure-preserved c = turn_from (procedure_faults c.args.self.now.file.now) _ _ _ _ (c.args.self.now.file.now.procs) c.loop-procedure.procedure-index c.procedure-item.result _ c.as_slice-procedure-items.ensures c.loop-procedure-test.true c.procedure-item.is (c.in_ok-found.ensures) c.earlier-first.ensures c.loop-procedure.invariant
