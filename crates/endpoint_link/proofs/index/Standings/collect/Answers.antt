use Rattle.std.proofs.Common.{◌≤◌, length, arith}
use Rattle.endpoint_link.proofs.Indexes.{index_turn, index_ends}
use Rattle.endpoint_link.proofs.index.Standings.collect.Goals as goal

pub loop-place-preserved : goal.loop-place-preserved
loop-place-preserved c = index_turn c.args.names.now c.loop-place.place c.at.result.now c.loop-place.standings c.add.new.self c.at.ensures c.loop-place.invariant c.in_ok-add.ensures

pub returns : goal.returns
returns c =
    let l : length c.args.names.now ≤ c.loop-place.place = omega (arith, c.loop-place-test.false, c.count-place-end.ensures) in
    index_ends c.args.names.now c.loop-place.place c.loop-place.standings l c.loop-place.invariant
