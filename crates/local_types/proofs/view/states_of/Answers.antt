use Rattle.std.proofs.Common.{List, sym, subst}
use Rattle.state_sets.specs.declared.table.Arm.{Arm}
use Rattle.state_sets.specs.Kin.{AreKin}
use Rattle.local_types.specs.States.{IsStateOf}
use Rattle.state_sets.proofs.Lists.{item_among}
use Rattle.local_types.proofs.Readings.{states_more}
use Rattle.local_types.proofs.view.states_of.Goals as goal

pub state_of-requires : goal.state_of-requires
state_of-requires c = subst (λ (l : List Arm). AreKin l) (sym c.as_slice.ensures.value) (c.requires c.row-item.result (item_among c.args.rows.now c.loop-row.row-index c.row-item.result c.loop-row-test.true c.row-item.is))

pub loop-row-preserved : goal.loop-row-preserved
loop-row-preserved c = states_more c.args.rows.now c.loop-row.states c.push.new.self c.loop-row.row-index c.row-item.result c.in_ok-state_of.field-0 c.loop-row-test.true c.row-item.is c.loop-row.invariant.size c.loop-row.invariant.state
    (subst (λ (l : List Arm). IsStateOf l c.in_ok-state_of.field-0) c.as_slice.ensures.value c.in_ok-state_of.ensures) c.in_ok-push.ensures.ok
