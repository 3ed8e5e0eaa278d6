use Rattle.state_sets.specs.Moves.{action_of}
use Rattle.state_sets.proofs.Groups.{edges_in, edges_out, not_both}
use Rattle.state_sets.proofs.graph.edges_of.Goals as goal
use Rattle.state_sets.proofs.graph.edges_of.Goals.{then-does+in_ok-push, else-does}

pub loop-item-preserved : goal.loop-item-preserved
loop-item-preserved c = elim c.if-does.branch [
  | then-does+in_ok-push w ↦ rw w.edges-is (edges_in c.args.moves.now c.loop-item.item-index _ (action_of c.args.act.now) c.loop-item.edges.items w.push.new.self.items c.loop-item-test.true c.loop-item.invariant (c.does.ensures.0 w.if-does.true) w.in_ok-push.ensures.ok)
  | else-does w ↦ rw w.edges-is (edges_out c.args.moves.now c.loop-item.item-index _ (action_of c.args.act.now) c.loop-item.edges.items c.loop-item-test.true c.loop-item.invariant (λ p. not_both c.does.result (c.does.ensures.1 p) w.if-does.false))
]
