use Rattle.std.proofs.Common.{length, sym, ap, ◌∙◌, ◌+◌, ◌*◌, arith}
use Rattle.std.specs.Prelude.{slice_get}
use Rattle.std.proofs.lemmas.Option.{slice_get_past}
use Rattle.counted_bits.specs.Counts.{one, before}
use Rattle.counted_bits.specs.Places.{places}
use Rattle.counted_bits.proofs.Found.{found}
use Rattle.counted_bits.proofs.Places.{length-places}
use Rattle.counted_bits.proofs.bits.CountedBits.nth.Goals as goal

pub returns-then-number-self-clause-place : goal.returns-then-number-self-clause-place
returns-then-number-self-clause-place c =
    sym (slice_get_past (places 0 c.args.self.now) c.args.number (omega (arith, length-places 0 c.self.inside.bits.items, ap (λ l. length (places 0 l)) c.self.view_is, c.self.invariant.counted.all)))

pub returns-clause-place : goal.returns-clause-place
returns-clause-place c =
    let same = c.deref.ensures.value ∙ c.self.view_is in
    let block = c.find_block-block.result in
    let starts = ap (λ l. before one (16 * block.place) l + block.rest) same ∙ c.find_block-block.ensures.starts in
    found c.deref.result.now c.args.number block.place block.rest c.find_bit-bit.result.place c.find_bit-bit.result.rest starts c.find_bit-bit.ensures
    ∙ ap (λ l. slice_get (places 0 l) c.args.number) same
