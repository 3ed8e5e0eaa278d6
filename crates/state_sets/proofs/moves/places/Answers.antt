use Rattle.std.proofs.Common.{◌≡◌, ◌<◌, ◌∙◌, ap, length, arith}
use Rattle.state_sets.proofs.Places.{places_begin, places_more, places_end}
use Rattle.state_sets.proofs.moves.places.Goals as goal

pub loop-number-init : goal.loop-number-init
loop-number-init c = places_begin c.args.protocol.now.states c.new-places.result.map c.new-places.ensures

pub loop-number-preserved : goal.loop-number-preserved
loop-number-preserved c =
    let ss = c.args.protocol.now.states in
    let seen = c.as_slice-states.result.now in
    let same : seen ≡ ss = c.as_slice-states.ensures ∙ ap (λ p. p.states) c.protocol.view_is in
    let size : c.count-number-end.result ≡ length ss = c.count-number-end.ensures ∙ ap (λ p. length p.states) c.protocol.view_is in
    let lt : c.loop-number.number < length ss = (let t = c.loop-number-test.true in omega (arith, t, size)) in
    places_more ss seen c.loop-number.number _ c.index-states-number.result c.loop-number.places.map c.add_place.new.places.map same lt c.index-states-number.is c.in_ok-add_place.ensures c.loop-number.invariant

pub returns : goal.returns
returns c =
    let ss = c.args.protocol.now.states in
    let size : c.count-number-end.result ≡ length ss = c.count-number-end.ensures ∙ ap (λ p. length p.states) c.protocol.view_is in
    places_end ss c.loop-number.number c.loop-number.places.map (let t = c.loop-number-test.false in omega (arith, t, size)) c.loop-number.invariant
