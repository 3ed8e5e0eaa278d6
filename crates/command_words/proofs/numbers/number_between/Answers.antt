use Rattle.std.proofs.Common.{arith}
use Rattle.command_words.proofs.Names.{too_small, too_large}
use Rattle.command_words.proofs.numbers.number_between.Goals.{then-number-least-via-then-number-least, then-number-least-via-else-number-least+then-number-most}
use Rattle.command_words.proofs.numbers.number_between.Goals as goal

pub returns-then-number-least : goal.returns-then-number-least
returns-then-number-least c = elim c.then-number-least.branch [
  | then-number-least-via-then-number-least w ↦
      let less = w.if-number-least.true in
      let bound = c.ranges.most.fits in
      too_small c.args.word.now c.in_ok-number.number c.args.least c.args.most c.in_ok-number.ensures.1 c.in_ok-number.ensures.0 (omega (arith, bound)) (omega (arith, less))
  | then-number-least-via-else-number-least+then-number-most w ↦
      let more = w.if-number-most.true in
      let bound = c.ranges.most.fits in
      too_large c.args.word.now c.in_ok-number.number c.args.least c.args.most c.in_ok-number.ensures.1 c.in_ok-number.ensures.0 (omega (arith, bound)) (omega (arith, more))
]
