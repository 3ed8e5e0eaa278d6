use Rattle.chor_tree.specs.Names.{unknown_session}
use Rattle.chor_base.proofs.Faults.{turn_at}
use Rattle.name_resolution.proofs.lists.unknown_sessions.Goals as goal

pub loop-session-preserved : goal.loop-session-preserved
loop-session-preserved c = turn_at (unknown_session c.args.bound.now) _ _ _ _ (c.args.sessions.now) c.loop-session.session-index _ _ c.as_slice-session-items.ensures c.loop-session-test.true c.unknown_session.ensures c.earlier-first.ensures c.loop-session.invariant
