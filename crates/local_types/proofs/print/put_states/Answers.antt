use Rattle.local_types.proofs.Appends.{state_more}
use Rattle.local_types.proofs.print.put_states.Goals as goal

pub loop-number-preserved : goal.loop-number-preserved
loop-number-preserved c =
    state_more c.args.names.now c.args.states.now c.loop-number.number _ c.index-states-number.result c.loop-number.text.items c.put_number.new.out.items c.put_state.new.text.items _ c.loop-number-test.true c.index-states-number.is
    c.in_ok-put_number.ensures.ok c.in_ok-put_state.ensures c.loop-number.invariant
