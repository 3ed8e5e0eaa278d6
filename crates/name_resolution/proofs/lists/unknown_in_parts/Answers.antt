use Rattle.chor_tree.specs.Names.{unknown_process}
use Rattle.chor_base.proofs.Faults.{turn_at}
use Rattle.name_resolution.proofs.lists.unknown_in_parts.Goals as goal

pub loop-part-preserved : goal.loop-part-preserved
loop-part-preserved c = turn_at (λ q. unknown_process c.args.bound.now q.process) _ _ _ _ (c.args.parts.now) c.loop-part.part-index _ _ c.as_slice-part-items.ensures c.loop-part-test.true c.unknown_process.ensures c.earlier-first.ensures c.loop-part.invariant
