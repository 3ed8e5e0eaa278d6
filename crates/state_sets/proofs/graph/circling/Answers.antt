use Rattle.std.proofs.Common.{ℕ}
use Rattle.state_sets.specs.Sets.{Has, row_at}
use Rattle.state_sets.proofs.Groups.{circle_in, circle_out, circle_whole, not_both}
use Rattle.state_sets.proofs.graph.circling.Goals as goal
use Rattle.state_sets.proofs.graph.circling.Goals.{then-leads_back, else-leads_back}

pub loop-item-preserved : goal.loop-item-preserved
loop-item-preserved c =
    let B : ℕ → ℕ → Type 0 = λ q p. Has (row_at c.args.reach.now q) p in
    elim c.if-leads_back.branch [
      | then-leads_back w ↦ rw (w.marks-is, w.put.ensures) (circle_in c.args.count B c.args.moves.now c.loop-item.item-index _ c.loop-item.marks.items c.loop-item-test.true c.requires (c.leads_back.ensures.0 w.if-leads_back.true).0 (c.leads_back.ensures.0 w.if-leads_back.true).1 c.loop-item.invariant)
      | else-leads_back w ↦ rw w.marks-is (circle_out c.args.count B c.args.moves.now c.loop-item.item-index _ c.loop-item.marks.items c.loop-item-test.true (λ p. not_both c.leads_back.result (c.leads_back.ensures.1 p) w.if-leads_back.false) c.loop-item.invariant)
    ]

pub returns : goal.returns
returns c = circle_whole c.args.count (λ q p. Has (row_at c.args.reach.now q) p) c.args.moves.now c.loop-item.item-index c.loop-item.marks.items c.loop-item-test.false c.loop-item.invariant
