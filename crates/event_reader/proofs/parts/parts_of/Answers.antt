use Rattle.std.proofs.Common.{length, ap, arith, false-eqb}
use Rattle.transcript.specs.Books.{words}
use Rattle.event_reader.proofs.PartTexts.{part_more, no_part}
use Rattle.event_reader.proofs.parts.parts_of.Goals as goal

pub returns-in_default : goal.returns-in_default
returns-in_default c = no_part (words c.args.book.now) c.args.bytes.now c.loop-rest.rest.now c.loop-rest.parts c.loop-rest.invariant (λ empty. let some = false-eqb _ 0 c.loop-rest-test.ensures in absurd (omega (arith, some, ap length empty))) c.in_default.ensures.all

pub loop-rest-preserved : goal.loop-rest-preserved
loop-rest-preserved c = part_more (words c.args.book.now) c.args.bytes.now c.loop-rest.rest.now c.in-Some.more.now c.loop-rest.parts c.push.new.self c.in-Some.part c.requires c.loop-rest.invariant c.in-Some.ensures.found.0 c.in-Some.ensures.found.1 c.in-Some.ensures.found.2 c.in_ok-push.ensures.ok
