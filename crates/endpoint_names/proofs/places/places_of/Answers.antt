use Rattle.endpoint_names.proofs.Indexes.{index_turn, repeated_turn}
use Rattle.endpoint_names.proofs.places.places_of.Goals as goal

pub loop-place-preserved : goal.loop-place-preserved
loop-place-preserved g c =
    let f = g.T.HasSign.sign_of in
    let xs = c.args.items.now in
    record {
      index = index_turn f xs c.loop-place.place c.index-items-place.result c.sign-sign.result c.loop-place-test.true c.index-items-place.is c.sign-sign.ensures c.loop-place.places c.add.new.self c.loop-place.invariant.index c.in_ok-is_new.ensures.places;
      fault = repeated_turn f xs c.loop-place.place c.index-items-place.result c.sign-sign.result c.loop-place-test.true c.index-items-place.is c.sign-sign.ensures c.loop-place.places c.loop-place.first c.fault_if.result _ _ c.in_ok-is_new.is_new c.loop-place.invariant.index c.in_ok-is_new.ensures.new c.fault_if.ensures c.earlier-first.ensures c.loop-place.invariant.fault;
    }
