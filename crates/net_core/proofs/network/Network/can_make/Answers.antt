use Rattle.std.proofs.Common.{◌<◌, ℕ, sym, subst}
use borrow.Author.Tests.{ltb-true}
use Rattle.chor_host.specs.Functions.{hosts_in}
use Rattle.chor_host.specs.Tables.{functions_of}
use Rattle.net_core.proofs.Makers.{may_within}
use Rattle.net_core.proofs.Counts.{not_below}
use Rattle.net_core.proofs.network.Network.can_make.Goals as goal

pub may_make-requires-clause-there : goal.may_make-requires-clause-there
may_make-requires-clause-there g c = subst (λ (k : ℕ). c.args.pid < k) c.count.ensures.count c.if-pid-count.true

pub may_make-requires-clause-hosts : goal.may_make-requires-clause-hosts
may_make-requires-clause-hosts g c = c.requires

pub returns-then-pid-count : goal.returns-then-pid-count
returns-then-pid-count g c = c.may_make.ensures

pub returns-else-pid-count : goal.returns-else-pid-count
returns-else-pid-count g c =
    let v = c.args.self.now in
    (λ h. absurd (not_below c.if-pid-count.false (ltb-true c.args.pid c.count.result h)), λ may. absurd (not_below c.if-pid-count.false (subst (λ (k : ℕ). c.args.pid < k) (sym c.count.ensures.count) (may_within v.endpoints (hosts_in v.endpoints.names (functions_of c.args.hosts.now)) v.capacity v.state c.args.pid c.args.event.now may))))
