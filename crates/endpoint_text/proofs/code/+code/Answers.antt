use Rattle.std.proofs.Common.{arith}
use Rattle.endpoint_text.proofs.ArmLists.{above_here, above_least}
use Rattle.std.proofs.lemmas.Grind.{common_steps}
use Rattle.endpoint_text.proofs.Lines.{if_below, branch_below, branch_text, sorted_below}
use Rattle.endpoint_text.proofs.code.+code.Goals as goal

pub put_arms-put_code-requires : goal.put_arms-put_code-requires
put_arms-put_code-requires t c =
    let h = above_here c.args.arms.now c.loop-arm.arm-index (record { 0 = 0 }, record { 0 = 0 }) (omega arith) in
    (omega (arith, h, c.decreases), c.requires c.loop-arm.arm-index _ (omega arith))

pub put_code-put_code-requires : goal.put_code-put_code-requires
put_code-put_code-requires t c =
    let h = if_below c.args.id.0 c.in_ok-session.field-0.now c.in-If.is c.in_ok-session.ensures.below in
    (omega (arith, h.0, c.decreases), omega (arith, h.0))

pub put_code-put_code-requires-in-If : goal.put_code-put_code-requires-in-If
put_code-put_code-requires-in-If t c =
    let h = if_below c.args.id.0 c.in_ok-session.field-0.now c.in-If.is c.in_ok-session.ensures.below in
    (omega (arith, h.1, c.decreases), omega (arith, h.1))

pub put_code-put_arms-requires : goal.put_code-put_arms-requires
put_code-put_arms-requires t c =
    let inside = sorted_below c.args.id.0 c.args.e.now (branch_below c.args.id.0 c.in_ok-session.field-0.now c.in-Branch.is c.in_ok-session.ensures.below) c.as_slice.ensures c.in_ok-sorted-in-Branch.ensures.sorted c.as_slice-in-Branch.ensures.value in
    let least = above_least c.args.id.0 _ inside in
    (omega (arith, least, c.decreases), (λ k d lt. omega (arith, inside k d lt)))

pub put_code-returns-in_ok-put_arms-in-Branch : goal.put_code-returns-in_ok-put_arms-in-Branch
put_code-returns-in_ok-put_arms-in-Branch t c =
    let text = branch_text c.args.e.now c.in_ok-session.field-0.now c.in-Branch.is c.as_slice.ensures c.in_ok-sorted-in-Branch.ensures.sorted c.as_slice-in-Branch.ensures.value in
    grind (arith, common_steps, text)
