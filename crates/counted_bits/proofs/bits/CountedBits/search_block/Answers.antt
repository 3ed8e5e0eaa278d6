use Rattle.std.proofs.Common.{refl, sym}
use Rattle.counted_bits.proofs.Changes.{counted_alike}
use Rattle.counted_bits.proofs.Found.{in_tops, in_groups, in_blocks, in_block, reached}
use Rattle.counted_bits.proofs.bits.CountedBits.search_block.Goals as goal

pub find-top-requires : goal.find-top-requires
find-top-requires c = in_tops (counted_alike c.self.invariant.counted (sym c.self.view_is) refl refl c.deref.ensures.value) c.args.number c.requires

pub find-group-requires : goal.find-group-requires
find-group-requires c =
    in_groups (counted_alike c.self.invariant.counted (sym c.self.view_is) refl c.deref-2.ensures.value c.deref.ensures.value) c.args.number c.requires
    c.find-top.result.place c.find-top.result.rest c.find-top.ensures

pub find-requires : goal.find-requires
find-requires c =
    in_blocks (counted_alike c.self.invariant.counted (sym c.self.view_is) c.deref-3.ensures.value c.deref-2.ensures.value c.deref.ensures.value) c.args.number c.requires
    c.find-top.result.place c.find-top.result.rest c.find-top.ensures c.find-group.result.place c.find-group.result.rest c.find-group.ensures

pub returns : goal.returns
returns c =
    let are = counted_alike c.self.invariant.counted (sym c.self.view_is) c.deref-3.ensures.value c.deref-2.ensures.value c.deref.ensures.value in
    in_block are c.args.number c.find.result.place c.find.result.rest
    (reached are c.args.number c.requires c.find-top.result.place c.find-top.result.rest c.find-top.ensures c.find-group.result.place c.find-group.result.rest c.find-group.ensures
    c.find.result.place c.find.result.rest c.find.ensures)
