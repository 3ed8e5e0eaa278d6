use Rattle.std.proofs.Common.{length, sym, ap, ◌∙◌}
use Rattle.counted_bits.specs.Places.{places}
use Rattle.counted_bits.proofs.Places.{length-places}
use Rattle.counted_bits.proofs.bits.CountedBits.count.Goals as goal

pub returns : goal.returns
returns c = c.self.invariant.counted.all ∙ sym (length-places 0 c.self.inside.bits.items) ∙ ap (λ l. length (places 0 l)) c.self.view_is
