use Rattle.chor_base.proofs.Faults.{turn_from}
use Rattle.typing_rules.specs.TypeFaults.{holder_fault}
use Rattle.type_check.proofs.heads.first_in_head.Goals as goal

pub loop-session-preserved : goal.loop-session-preserved
loop-session-preserved c =
    turn_from holder_fault _ _ _ _ c.args.procedure.now.sessions c.loop-session.session-index c.session-item.result _ c.as_slice-session-items.ensures c.loop-session-test.true c.session-item.is c.in_ok-found.ensures c.earlier-first.ensures c.loop-session.invariant
