use Rattle.std.proofs.Common.{subst}
use Rattle.net_core.specs.Heads.{Shows}
use Rattle.net_core.specs.Views.{NetworkView}
use Rattle.net_core.proofs.Fields.{within}
use Rattle.net_core.proofs.Scopes.{shows, bound_at}
use Rattle.net_core.proofs.network.Network.head.Goals as goal

pub head-requires-clause-bound : goal.head-requires-clause-bound
head-requires-clause-bound c =
    let i = c.self.inside in
    bound_at i.endpoints.now i.machines.items c.args.pid c.index-machine.result.now c.self.invariant (within i.machines.items i.ledger.queues c.self.view_is c.args.pid c.requires) c.index-machine.ensures

pub returns : goal.returns
returns c =
    let i = c.self.inside in
    subst (λ (v : NetworkView). Shows v.endpoints v.state c.args.pid c.head.result) c.self.view_is
    (shows i.endpoints.now i.machines.items i.ledger.queues i.ledger.sid c.args.pid c.index-machine.result.now c.head.result c.self.invariant
    (within i.machines.items i.ledger.queues c.self.view_is c.args.pid c.requires) c.index-machine.ensures c.head.ensures)
