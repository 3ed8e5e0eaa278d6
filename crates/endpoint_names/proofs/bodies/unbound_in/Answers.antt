use Rattle.chor_base.proofs.Faults.{turn_at}
use Rattle.endpoint_names.specs.Faults.{unbound}
use Rattle.endpoint_names.proofs.bodies.unbound_in.Goals as goal

pub loop-session-preserved : goal.loop-session-preserved
loop-session-preserved c = turn_at (unbound c.args.bound.now) _ _ _ _ c.args.sessions.now c.loop-session.session-index _ _ c.as_slice-session-items.ensures c.loop-session-test.true c.unbound.ensures c.earlier-first.ensures c.loop-session.invariant
