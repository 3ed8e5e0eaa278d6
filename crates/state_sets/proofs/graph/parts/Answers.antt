use Rattle.std.proofs.Common.{ℕ, ◌≡◌, ◌+◌, ◌<◌, ◌/◌, sym, subst, length, arith}
use Rattle.state_sets.specs.Graph.{HasMoreIn, AreParts}
use Rattle.state_sets.proofs.Parts.{parts_begin, parts_in, parts_out, parts_whole, number_below}
use Rattle.state_sets.proofs.graph.parts.Goals as goal
use Rattle.state_sets.proofs.graph.parts.Goals.{in-Some+in_ok-add_to_part-in-Some, in-None}

pub loop-item-init : goal.loop-item-init
loop-item-init c = parts_begin (length c.args.moves.now / 4 + 1) c.args.moves.now c.in_ok-parts.parts.items c.in_ok-parts.ensures

pub loop-item-preserved : goal.loop-item-preserved
loop-item-preserved c = elim c.match-item.branch [
  | in-Some+in_ok-add_to_part-in-Some w ↦ rw w.parts-is (parts_in (length c.args.moves.now / 4 + 1) c.args.moves.now c.loop-item.item-index _ w.in-Some.act c.loop-item.parts.items w.add_to_part.new.parts.items c.loop-item-test.true c.loop-item.invariant w.in-Some.is
      (subst (λ n. HasMoreIn n _ c.loop-item.parts.items w.add_to_part.new.parts.items) w.part_number.ensures w.in_ok-add_to_part-in-Some.ensures))
  | in-None w ↦ rw w.parts-is (parts_out (length c.args.moves.now / 4 + 1) c.args.moves.now c.loop-item.item-index _ c.loop-item.parts.items c.loop-item-test.true c.loop-item.invariant w.in-None.is)
]

pub add_to_part-requires : goal.add_to_part-requires
add_to_part-requires c =
    let count = length c.args.moves.now / 4 + 1 in
    let some : 0 < count = omega arith in
    let b = number_below count c.in-Some.act some in
    let e = c.part_number.ensures in
    let s : length c.loop-item.parts.items ≡ count = c.loop-item.invariant.size in
    omega (arith, b, e, s)

pub returns-clause-some : goal.returns-clause-some
returns-clause-some c = let s : length c.loop-item.parts.items ≡ length c.args.moves.now / 4 + 1 = c.loop-item.invariant.size in omega (arith, s)

pub returns-clause-parts : goal.returns-clause-parts
returns-clause-parts c =
    let moves = c.args.moves.now in
    let whole = parts_whole (length moves / 4 + 1) moves c.loop-item.item-index c.loop-item.parts.items c.loop-item-test.false c.loop-item.invariant in
    subst (λ (k : ℕ). AreParts k moves c.loop-item.parts.items) (sym whole.size) whole
