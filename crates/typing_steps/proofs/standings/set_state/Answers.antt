use Rattle.std.proofs.Common.{◌<◌, length, arith}
use Rattle.typing_rules.specs.Environment.{moved_one}
use Rattle.delegation.proofs.Parts.{changed_turn}
use Rattle.typing_steps.proofs.standings.set_state.Goals as goal

pub loop-standing-preserved : goal.loop-standing-preserved
loop-standing-preserved c =
    let lt : c.loop-standing.standing-index < length c.args.standings.now.items = omega arith in
    changed_turn (moved_one c.args.session c.args.state) c.args.standings.now.items c.loop-standing.standing-items c.loop-standing.standing-index _ c.moved.result lt c.loop-standing.invariant c.moved.ensures
