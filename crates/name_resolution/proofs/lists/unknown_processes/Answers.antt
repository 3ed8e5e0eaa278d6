use Rattle.chor_tree.specs.Names.{unknown_process}
use Rattle.chor_base.proofs.Faults.{turn_at}
use Rattle.name_resolution.proofs.lists.unknown_processes.Goals as goal

pub loop-process-preserved : goal.loop-process-preserved
loop-process-preserved c = turn_at (unknown_process c.args.bound.now) _ _ _ _ (c.args.processes.now) c.loop-process.process-index _ _ c.as_slice-process-items.ensures c.loop-process-test.true c.unknown_process.ensures c.earlier-first.ensures c.loop-process.invariant
