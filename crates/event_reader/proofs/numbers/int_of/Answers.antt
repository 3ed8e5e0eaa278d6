use Rattle.event_reader.proofs.Answers.{no_reading}
use Rattle.event_reader.proofs.Numerals.{no_below, below, above}
use Rattle.event_reader.proofs.numbers.int_of.Goals as goal

pub returns-in_err-number_of-in-Some : goal.returns-in_err-number_of-in-Some
returns-in_err-number_of-in-Some c = no_reading _ _ _ _ c.from_residual.ensures (no_below c.args.field.now c.in-Some.digits.now c.in-Some.ensures c.in_err-number_of-in-Some.ensures)

pub returns-in_ok-number_of-in-Some : goal.returns-in_ok-number_of-in-Some
returns-in_ok-number_of-in-Some c = below c.args.field.now c.in-Some.digits.now _ _ c.in-Some.ensures c.in_ok-number_of-in-Some.ensures.0 c.in_ok-number_of-in-Some.ensures.1 c.negative.ensures

pub returns-in_ok-number_of-in-None : goal.returns-in_ok-number_of-in-None
returns-in_ok-number_of-in-None c = above c.args.field.now _ _ c.in-None.ensures c.in_ok-number_of-in-None.ensures.0 c.in_ok-number_of-in-None.ensures.1 c.positive.ensures
