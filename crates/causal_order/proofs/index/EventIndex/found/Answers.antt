use Rattle.causal_order.proofs.Indexing.{found_same}
use Rattle.causal_order.proofs.index.EventIndex.found.Goals as goal

pub returns-in-Some : goal.returns-in-Some
returns-in-Some c =
    let other = c.in-Some.field-0-1.now in
    (other, c.in-Some.field-0-2.now, c.in-Some.ensures.entry, found_same c.args.self.now.lists.entries c.args.direction other c.in-Some.ensures.key)
