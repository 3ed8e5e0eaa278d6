use Rattle.std.proofs.Common.{arith}
use Rattle.event_reader.proofs.Numerals.{too_great}
use Rattle.event_reader.proofs.numbers.small_of.Goals as goal

pub returns-then-number-from : goal.returns-then-number-from
returns-then-number-from c = λ m less e. too_great c.args.digits.now c.in_ok-number.number m c.in_ok-number.ensures.0 c.in_ok-number.ensures.1 (omega arith) less e
