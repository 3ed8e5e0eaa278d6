use Rattle.std.proofs.Common.{◌<◌, ◌==◌, ◌∙◌, length, arith}
use Rattle.linear_check.specs.Sets.{holds}
use Rattle.linear_check.specs.Weights.{weight_below}
use Rattle.linear_check.proofs.PassedOn.{call_turn, call_end, neither}
use Rattle.linear_check.proofs.Weights.{falls_twice, no_heavier_twice, below_no_more, below_falls}
use Rattle.linear_check.proofs.heard.Heard.take_in_call.Goals as goal

pub loop-place-preserved : goal.loop-place-preserved
loop-place-preserved c = record {
  taken = λ n g i lt.
      call_turn c.args.self.now n c.args.processes.now c.loop-place.place i (holds c.args.sets.now n g i) (c.args.procedure.0 == g.0) c.at-process.result.now (holds c.loop-place.sets n g i) (holds c.take.new.self n g i) _
      c.at-process.ensures (c.get.ensures n) (c.loop-place.invariant.taken n g i lt) (c.in_ok-taken.ensures.taken n g i lt);
  same = λ e. let both = neither c.loop-place.changed c.in_ok-taken.taken e in c.in_ok-taken.ensures.same both.1 ∙ c.loop-place.invariant.same both.0;
  lighter = no_heavier_twice c.args.sets.now c.loop-place.sets c.take.new.self c.loop-place.invariant.lighter c.in_ok-taken.ensures.lighter;
  falls =
      let f = c.args.procedure in
      let n = length c.args.processes.now in
      let inside : c.loop-place.place < n = (let l = c.loop-place-test.true in let e = c.count-place-end.ensures in omega arith) in
      falls_twice c.loop-place.changed c.in_ok-taken.taken (weight_below c.args.sets.now f n) (weight_below c.loop-place.sets f n) (weight_below c.take.new.self f n) c.loop-place.invariant.falls
      (λ e. below_falls c.loop-place.sets c.take.new.self c.in_ok-taken.ensures.lighter f n c.loop-place.place inside (c.in_ok-taken.ensures.falls e))
      (below_no_more c.args.sets.now c.loop-place.sets c.loop-place.invariant.lighter f n) (below_no_more c.loop-place.sets c.take.new.self c.in_ok-taken.ensures.lighter f n);
}

pub returns-clause-taken : goal.returns-clause-taken
returns-clause-taken c = λ n g i lt.
    call_end c.args.self.now n c.args.processes.now c.loop-place.place i (holds c.args.sets.now n g i) (c.args.procedure.0 == g.0) (holds c.loop-place.sets n g i) (let l = c.loop-place-test.false in let e = c.count-place-end.ensures in omega arith) (c.loop-place.invariant.taken n g i lt)
