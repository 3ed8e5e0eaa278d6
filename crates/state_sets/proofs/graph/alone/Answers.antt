use Rattle.std.proofs.Common.{◌≡◌}
use Rattle.state_sets.proofs.Sets.{rows_more}
use Rattle.state_sets.proofs.graph.alone.Goals as goal

pub loop-state-preserved : goal.loop-state-preserved
loop-state-preserved c = rows_more c.args.count (λ i j. i ≡ j) c.loop-state.rows.items c.push.new.self.items c.loop-state.state c.in_ok-own_row.field-0 c.loop-state.invariant.size c.in_ok-push.ensures.items c.in_ok-own_row.ensures c.loop-state.invariant.row
