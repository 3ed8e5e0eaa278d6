use Rattle.std.proofs.Common.{◌≡◌, length, arith}
use Rattle.std.proofs.lemmas.Bool.Decides.{nat_tests}
use Rattle.event_reader.proofs.Numerals.{before_last, no_last, one_left, not_one_left}
use Rattle.event_reader.proofs.numbers.is_written.Goals as goal

pub returns-in_default : goal.returns-in_default
returns-in_default c = (
  λ t. absurd cc,
  λ e. absurd (no_last c.args.digits.now c.loop-left.rest.now c.args.number c.loop-left.left c.loop-left.invariant c.loop-left-test.true c.in_default.ensures e),
)

pub loop-left-preserved : goal.loop-left-preserved
loop-left-preserved c = before_last c.args.digits.now c.loop-left.rest.now c.in-Some.front.now c.args.number c.loop-left.left c.loop-left.invariant c.loop-left-test.true c.in-Some.ensures

pub returns-then-rest-eq1 : goal.returns-then-rest-eq1
returns-then-rest-eq1 c = one_left c.args.digits.now c.loop-left.rest.now c.args.number c.loop-left.left c.loop-left.invariant (omega (arith, c.loop-left-test.false)) c.if-rest-eq1.true

pub returns-else-rest-eq1 : goal.returns-else-rest-eq1
returns-else-rest-eq1 c = (
  λ t. absurd (let same : length c.loop-left.rest.now ≡ 1 = grind (arith, nat_tests) in c.if-rest-eq1.false same),
  λ e. absurd (c.if-rest-eq1.false (not_one_left c.args.digits.now c.loop-left.rest.now c.args.number c.loop-left.left c.loop-left.invariant (omega (arith, c.loop-left-test.false)) e)),
)
