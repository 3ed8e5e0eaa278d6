use Rattle.state_sets.proofs.Direct.{alone_row}
use Rattle.state_sets.proofs.graph.own_row.Goals as goal

pub returns : goal.returns
returns c = rw c.put.ensures (alone_row c.args.count c.args.state c.in_ok-row.row.items c.requires c.in_ok-row.ensures)
