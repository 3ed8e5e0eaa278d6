use Rattle.std.proofs.Common.{◌≡◌, subst, arith}
use Rattle.state_sets.specs.Graph.{IsThrough}
use Rattle.state_sets.proofs.Silence.{IsWalked, walk_begins, walk_more, walk_ends}
use Rattle.state_sets.proofs.graph.reach.Goals as goal

pub loop-state-init : goal.loop-state-init
loop-state-init c = walk_begins c.args.moves.now c.args.count c.in_ok-rows.rows.items c.requires c.in_ok-rows.ensures

pub loop-state-preserved : goal.loop-state-preserved
loop-state-preserved c =
    walk_more c.args.moves.now c.args.count c.loop-state.state c.loop-state.rows.items c.go_through.new.rows.items c.loop-state.invariant c.loop-state-test.true
    (subst (λ n. IsThrough n c.loop-state.state c.loop-state.rows.items c.go_through.new.rows.items) c.loop-state.invariant.size c.in_ok-go_through.ensures)

pub returns : goal.returns
returns c =
    let end : c.loop-state.state ≡ c.args.count = (let a = c.loop-state-test.false in let b = c.loop-state.auto.state-end in omega (arith, a, b)) in
    walk_ends c.args.moves.now c.args.count c.loop-state.rows.items c.requires (subst (λ k. IsWalked c.args.moves.now c.args.count k c.loop-state.rows.items) end c.loop-state.invariant)
