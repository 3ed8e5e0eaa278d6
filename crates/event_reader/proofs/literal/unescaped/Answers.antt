use Rattle.std.proofs.Common.{length, ap, arith, false-eqb}
use Rattle.event_reader.proofs.Quoted.{no_byte, byte_more}
use Rattle.event_reader.proofs.literal.unescaped.Goals as goal

pub returns-in_default-clause-bad : goal.returns-in_default-clause-bad
returns-in_default-clause-bad c = λ q t e. no_byte c.args.body.now c.loop-rest.rest.now c.loop-rest.text.items c.loop-rest.invariant (λ empty. let some = false-eqb _ 0 c.loop-rest-test.ensures in absurd (omega (arith, some, ap length empty))) c.in_default.ensures t e

pub loop-rest-preserved : goal.loop-rest-preserved
loop-rest-preserved c = byte_more c.args.body.now c.loop-rest.rest.now c.in-Some.more.now c.loop-rest.text.items c.put.new.text.items c.in-Some.byte c.loop-rest.invariant c.in-Some.ensures c.in_ok-put.ensures
