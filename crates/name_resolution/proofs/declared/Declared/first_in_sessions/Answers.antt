use Rattle.std.proofs.Common.{map}
use Rattle.chor_tree.specs.Names.{session_faults}
use Rattle.chor_base.proofs.Faults.{turn_from}
use Rattle.name_resolution.proofs.declared.Declared.first_in_sessions.Goals as goal

pub loop-session-preserved : goal.loop-session-preserved
loop-session-preserved c = turn_from (session_faults c.args.self.now.file.now (map (λ q. q.name.name) c.args.procedure.now.params)) _ _ _ _ (c.args.procedure.now.sessions) c.loop-session.session-index c.session-item.result _ c.as_slice-session-items.ensures c.loop-session-test.true c.session-item.is (c.in_ok-found.ensures) c.earlier-first.ensures c.loop-session.invariant
