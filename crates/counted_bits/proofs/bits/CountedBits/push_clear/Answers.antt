use Rattle.std.proofs.Common.{◌*◌, ◌∙◌, false, refl, sym, ap, arith, length}
use Rattle.counted_bits.specs.Counts.{one}
use Rattle.counted_bits.proofs.Amounts.{before_push}
use Rattle.counted_bits.proofs.Changes.{counted_alike, tops_grown, groups_grown, blocks_grown, clear_pushed}
use Rattle.counted_bits.proofs.bits.CountedBits.push_clear.Goals as goal

pub invariant_of-self-in_err-make_room-2 : goal.invariant_of-self-in_err-make_room-2
invariant_of-self-in_err-make_room-2 c =
    let with_tops = tops_grown c.self.invariant.counted _ c.in_ok-make_room.ensures.grown in
    record { counted = groups_grown with_tops _ c.in_err-make_room-2.ensures.grown (omega (arith, c.in_ok-make_room.ensures.ok)); starts = c.self.invariant.starts }

pub invariant_of-self-in_err-make_room-3 : goal.invariant_of-self-in_err-make_room-3
invariant_of-self-in_err-make_room-3 c =
    let with_tops = tops_grown c.self.invariant.counted _ c.in_ok-make_room.ensures.grown in
    let with_groups = groups_grown with_tops _ c.in_ok-make_room-2.ensures.grown (omega (arith, c.in_ok-make_room.ensures.ok)) in
    record { counted = blocks_grown with_groups _ c.in_err-make_room-3.ensures.grown (omega (arith, c.in_ok-make_room-2.ensures.ok)); starts = c.self.invariant.starts }

pub invariant_of-self-in_err-push : goal.invariant_of-self-in_err-push
invariant_of-self-in_err-push c =
    let with_tops = tops_grown c.self.invariant.counted _ c.in_ok-make_room.ensures.grown in
    let with_groups = groups_grown with_tops _ c.in_ok-make_room-2.ensures.grown (omega (arith, c.in_ok-make_room.ensures.ok)) in
    let with_blocks = blocks_grown with_groups _ c.in_ok-make_room-3.ensures.grown (omega (arith, c.in_ok-make_room-2.ensures.ok)) in
    record { counted = counted_alike with_blocks c.in_err-push.ensures.items refl refl refl; starts = rw c.in_err-push.ensures.items c.self.invariant.starts }

pub invariant_of-self-2 : goal.invariant_of-self-2
invariant_of-self-2 c =
    let with_tops = tops_grown c.self.invariant.counted _ c.in_ok-make_room.ensures.grown in
    let with_groups = groups_grown with_tops _ c.in_ok-make_room-2.ensures.grown (omega (arith, c.in_ok-make_room.ensures.ok)) in
    let with_blocks = blocks_grown with_groups _ c.in_ok-make_room-3.ensures.grown (omega (arith, c.in_ok-make_room-2.ensures.ok)) in
    let with_bit = clear_pushed with_blocks (omega (arith, ap length c.self.view_is)) (omega (arith, c.in_ok-make_room-3.ensures.ok)) in
    record { counted = counted_alike with_bit c.in_ok-push.ensures.items refl refl refl; starts = rw c.in_ok-push.ensures.items (c.self.invariant.starts ∙ sym (before_push one c.self.inside.bits.items false (16 * c.self.inside.block) refl)) }
