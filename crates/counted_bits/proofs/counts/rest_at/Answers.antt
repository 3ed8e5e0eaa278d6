use Rattle.std.proofs.Common.{sym, arith}
use Rattle.std.proofs.lemmas.Bool.{ltb-true}
use Rattle.counted_bits.specs.Counts.{itself}
use Rattle.counted_bits.proofs.Amounts.{before_more}
use Rattle.counted_bits.proofs.counts.rest_at.Goals as goal

pub returns : goal.returns
returns c =
    let count = c.in_ok-count.field-0.now in
    let found = c.in_ok-count.ensures.lookup in
    record {
      starts = omega (arith, c.requires, c.if-amount-start.false);
      ends = omega (arith, before_more itself c.args.counts.now c.args.place count (ltb-true _ _ (sym found.0)), found.1, c.requires, c.if-amount-start.false, c.if-amount-start-2.false);
    }
