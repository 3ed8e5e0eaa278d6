use Rattle.std.proofs.Common.{◌∙◌, sym}
use Rattle.causal_order.proofs.Indexing.{alike}
use Rattle.causal_order.proofs.index.EventIndex.list_of.Goals as goal

pub returns-in-Some : goal.returns-in-Some
returns-in-Some c =
    let other = c.in-Some.other.now in
    (other, c.in-Some.field-0-1.now, sym c.in-Some.ensures.entry, sym (alike c.args.direction other) ∙ sym c.eq.ensures ∙ c.if-eq.true)
