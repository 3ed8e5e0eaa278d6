use Rattle.std.proofs.Common.{subst}
use Rattle.net_core.specs.Heads.{EachStands}
use Rattle.net_core.specs.Views.{NetworkView}
use Rattle.net_core.proofs.Scopes.{each_stands}
use Rattle.net_core.proofs.network.Network.count.Goals as goal

pub returns-clause-stand : goal.returns-clause-stand
returns-clause-stand c =
    let i = c.self.inside in
    subst (λ (v : NetworkView). EachStands v.endpoints v.state) c.self.view_is (each_stands i.endpoints.now i.machines.items i.ledger.queues i.ledger.sid c.self.invariant)
