use Rattle.std.proofs.Common.{sym, subst}
use Rattle.delegation.specs.Owners.{Lacks}
use Rattle.typing_steps.proofs.SessionOwners.{lacks_before}
use Rattle.typing_steps.proofs.known.declared_owners.Goals as goal

pub take_in-requires : goal.take_in-requires
take_in-requires c =
    subst (λ l. Lacks c.session-item.result.name.name l) (sym c.loop-session.invariant) (lacks_before c.args.sessions.now c.loop-session.session-index c.session-item.result c.requires c.loop-session-test.true c.session-item.is)
