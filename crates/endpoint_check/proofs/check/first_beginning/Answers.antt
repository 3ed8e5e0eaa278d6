use Rattle.chor_base.proofs.Faults.{turn_from}
use Rattle.endpoint_names.specs.Bodies.{body_at}
use Rattle.endpoint_names.specs.Class.{opening_faults}
use Rattle.endpoint_check.proofs.check.first_beginning.Goals as goal

pub loop-procedure-preserved : goal.loop-procedure-preserved
loop-procedure-preserved c =
    turn_from (λ p. opening_faults (body_at c.args.written.now.lines.items p.body)) _ _ _ _ c.args.written.now.procedures c.loop-procedure.procedure-index c.procedure-item.result _ c.as_slice-procedure-items.ensures c.loop-procedure-test.true c.procedure-item.is c.beginning.ensures c.earlier-first.ensures c.loop-procedure.invariant
