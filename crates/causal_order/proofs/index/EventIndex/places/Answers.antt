use Rattle.std.proofs.Common.{◌∙◌}
use Rattle.causal_order.proofs.Indexing.{list_read}
use Rattle.causal_order.proofs.index.EventIndex.places.Goals as goal

pub returns : goal.returns
returns c =
    let entry = c.in-Some-get_index in
    c.as_slice.ensures ∙ list_read c.args.self.now.lists.entries c.args.direction entry.field-0-0.now c.in-Some.list entry.places.now c.in-Some.ensures entry.ensures.entry entry.ensures.value
