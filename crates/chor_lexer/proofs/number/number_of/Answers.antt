use Rattle.std.proofs.Common.{◌∙◌, sym, arith}
use Rattle.chor_lexer.proofs.Pieces.{next_value, next_read, great_value}
use Rattle.chor_lexer.proofs.number.number_of.Goals as goal

pub returns-then-next-clause-too_great : goal.returns-then-next-clause-too_great
returns-then-next-clause-too_great c = great_value c.args.digits.now c.loop-digit.digit-index _ (next_value c.args.digits.now c.loop-digit.digit-index c.loop-digit.value (omega arith) c.requires c.loop-digit.invariant.so_far) (omega arith)

pub loop-digit-preserved : goal.loop-digit-preserved
loop-digit-preserved c = record {
  so_far = next_read _ _ _ _ c.from.ensures c.from-in-loop-digit.ensures ∙ sym (next_value c.args.digits.now c.loop-digit.digit-index c.loop-digit.value (omega arith) c.requires c.loop-digit.invariant.so_far);
  fits = omega arith;
}
