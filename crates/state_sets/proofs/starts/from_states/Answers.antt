use Rattle.std.proofs.Common.{◌++◌, ap, ◌∙◌}
use Rattle.state_sets.proofs.Sets.{tested_out}
use Rattle.state_sets.proofs.Allowed.{listed_in, listed_out, listed_all}
use Rattle.state_sets.proofs.starts.from_states.Goals as goal
use Rattle.state_sets.proofs.starts.from_states.Goals.{then-has+in_ok-extend_from_slice, else-has}

pub loop-state-preserved : goal.loop-state-preserved
loop-state-preserved c = elim c.if-has.branch [
  | then-has+in_ok-extend_from_slice w ↦ rw w.numbers-is (listed_in c.args.still.now c.args.starts.now c.loop-state.state c.index-starts-state.result c.loop-state.numbers.items w.extend_from_slice.new.self.items c.loop-state-test.true c.index-starts-state.is
      (w.in_ok-extend_from_slice.ensures.items ∙ ap (λ l. c.loop-state.numbers.items ++ l) w.as_slice.ensures.value) c.loop-state.invariant)
  | else-has w ↦ rw w.numbers-is (listed_out c.args.still.now c.args.starts.now c.loop-state.state c.loop-state.numbers.items (tested_out c.args.still.now c.loop-state.state c.has.result c.has.ensures w.if-has.false) c.loop-state.invariant)
]

pub returns : goal.returns
returns c = listed_all c.args.still.now c.args.starts.now c.loop-state.state c.loop-state.numbers.items c.loop-state-test.false c.loop-state.invariant
