use Rattle.std.proofs.Common.{◌≡◌, ◌<◌, ◌≤◌, ◌++◌, ◌∙◌, ap, sym, length, arith}
use Rattle.std.proofs.lemmas.List.{append-nil, drop_all}
use Rattle.state_sets.specs.Places.{place_in}
use Rattle.state_sets.specs.Moves.{moves_by}
use Rattle.state_sets.proofs.Places.{placed_more}
use Rattle.state_sets.proofs.moves.placed_moves.Goals as goal

pub loop-number-preserved : goal.loop-number-preserved
loop-number-preserved c =
    let ss = c.args.protocol.now.states in
    let seen = c.as_slice-states.result.now in
    let f = place_in c.args.places.now.map in
    let same : seen ≡ ss = c.as_slice-states.ensures ∙ ap (λ p. p.states) c.protocol.view_is in
    let size : c.count-number-end.result ≡ length ss = c.count-number-end.ensures ∙ ap (λ p. length p.states) c.protocol.view_is in
    let lt : c.loop-number.number < length ss = (let t = c.loop-number-test.true in omega (arith, t, size)) in
    placed_more f c.args.role ss seen c.loop-number.number c.index-states-number.result c.loop-number.moves.items c.add_step.new.moves.items (moves_by f c.args.role 0 ss) same lt c.in_ok-add_step.ensures c.loop-number.invariant

pub returns : goal.returns
returns c =
    let ss = c.args.protocol.now.states in
    let f = place_in c.args.places.now.map in
    let k = c.loop-number.number in
    let moves = c.loop-number.moves.items in
    let size : c.count-number-end.result ≡ length ss = c.count-number-end.ensures ∙ ap (λ p. length p.states) c.protocol.view_is in
    let le : length ss ≤ k = (let t = c.loop-number-test.false in omega (arith, t, size)) in
    sym (append-nil moves) ∙ ap (λ l. moves ++ moves_by f c.args.role k l) (sym (drop_all k ss le)) ∙ c.loop-number.invariant
