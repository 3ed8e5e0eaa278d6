use Rattle.std.proofs.Common.{arith}
use Rattle.event_reader.proofs.Numerals.{digit_read, no_digit}
use Rattle.event_reader.proofs.numbers.digit_of.Goals.{then-digit-lt48-via-then-digit-lt48, then-digit-lt48-via-else-digit-lt48+then-digit-gt57}
use Rattle.event_reader.proofs.numbers.digit_of.Goals as goal

pub returns-then-digit-lt48 : goal.returns-then-digit-lt48
returns-then-digit-lt48 c = elim c.then-digit-lt48.branch [
  | then-digit-lt48-via-then-digit-lt48 w ↦ no_digit c.args.digit (λ h. let low = w.if-digit-lt48.true in omega (arith, h.0, low))
  | then-digit-lt48-via-else-digit-lt48+then-digit-gt57 w ↦ no_digit c.args.digit (λ h. let high = w.if-digit-gt57.true in omega (arith, h.1, high))
]

pub returns : goal.returns
returns c = rw c.from.ensures (digit_read c.args.digit c.if-digit-lt48.false c.if-digit-gt57.false)
