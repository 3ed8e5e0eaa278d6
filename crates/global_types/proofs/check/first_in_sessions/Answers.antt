use Rattle.chor_tree.specs.Names.{protocol_named}
use Rattle.global_types.specs.Faults.{unknown_state_in}
use Rattle.chor_base.proofs.Faults.{turn_item}
use Rattle.global_types.proofs.check.first_in_sessions.Goals as goal

pub loop-session-preserved : goal.loop-session-preserved
loop-session-preserved c = turn_item (λ k. unknown_state_in (protocol_named c.args.protocols.now k.protocol.name) k.state) _ _ _ c.args.sessions.now c.loop-session.session-index c.session-item.result _ c.loop-session-test.true c.session-item.is c.unknown_state_in.ensures c.earlier-first.ensures c.loop-session.invariant
