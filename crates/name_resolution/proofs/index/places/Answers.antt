use Rattle.std.proofs.Common.{ap, drop}
use Rattle.std.proofs.lemmas.List.{drop_all}
use Rattle.name_resolution.specs.Places.{names_of}
use Rattle.name_resolution.proofs.Indexes.{begins, index_turn, index_ends}
use Rattle.name_resolution.proofs.index.places.Goals as goal

pub loop-place-init : goal.loop-place-init
loop-place-init g c = begins _ _ c.new-places.ensures

pub loop-place-preserved : goal.loop-place-preserved
loop-place-preserved g c = index_turn g.T.HasName.name_of c.args.items.now c.loop-place.place c.index-items-place.result _ c.named.result _ _ c.loop-place-test.true c.index-items-place.is c.named.ensures c.in_ok-add_first.ensures c.loop-place.invariant

pub returns : goal.returns
returns g c =
    let f = g.T.HasName.name_of in
    let i = c.loop-place.place in
    index_ends (names_of f c.args.items.now) (names_of f (drop i c.args.items.now)) i c.loop-place.places.map (ap (λ l. names_of f l) (drop_all i c.args.items.now c.loop-place-test.false)) c.loop-place.invariant
