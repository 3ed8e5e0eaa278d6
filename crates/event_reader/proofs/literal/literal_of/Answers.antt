use Rattle.std.proofs.Common.{sym, ap, ◌∙◌}
use Rattle.chor_base.specs.Writing.{escaped}
use Rattle.event_reader.proofs.Quoted.{not_there}
use Rattle.event_reader.proofs.literal.literal_of.Goals as goal

pub returns : goal.returns
returns c = not_there c.args.texts.now c.args.field.now c.in-Some.body.now c.as_slice.result.now c.in-Some.ensures (c.in_ok-text.ensures.ok ∙ ap escaped (sym c.as_slice.ensures.value)) c.in-None.ensures.absent
