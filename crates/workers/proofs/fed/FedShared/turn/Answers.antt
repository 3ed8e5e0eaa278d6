use Rattle.workers.proofs.Printed.{prefix_grown}
use Rattle.workers.proofs.fed.FedShared.turn.Goals as goal

pub push-requires : goal.push-requires
push-requires g c =
    let more = c.turn-next.ensures.history in
    rw c.entries.ensures (prefix_grown _ (g.T.Told.history c.args.self.now.run) _ more.0 c.args.self.now.pushed more.1)
