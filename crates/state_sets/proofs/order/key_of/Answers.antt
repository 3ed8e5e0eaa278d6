use Rattle.std.proofs.Common.{arith}
use Rattle.state_sets.proofs.Keys.{top_fits, key_more, key_end}
use Rattle.state_sets.proofs.order.key_of.Goals as goal

pub overflow_mul-key : goal.overflow_mul-key
overflow_mul-key c = let t = top_fits c.loop-place.place c.loop-place-test.true in let b = c.loop-place.invariant.below in omega (arith, t, b)

pub overflow_add-key : goal.overflow_add-key
overflow_add-key c = let t = top_fits c.loop-place.place c.loop-place-test.true in let b = c.loop-place.invariant.below in let s = c.byte_at-byte.ensures.small in omega (arith, t, b, s)

pub loop-place-preserved : goal.loop-place-preserved
loop-place-preserved c = key_more c.args.word.now c.loop-place.place c.loop-place.key c.byte_at-byte.result c.loop-place-test.true c.byte_at-byte.ensures.byte c.byte_at-byte.ensures.small c.loop-place.invariant.made c.loop-place.invariant.below

pub returns : goal.returns
returns c = key_end c.args.word.now c.loop-place.place c.loop-place.key c.loop-place-test.false (λ i. let f = c.type_inv.word i in omega (arith, f)) c.loop-place.invariant.made
