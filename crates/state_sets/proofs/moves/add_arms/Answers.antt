use Rattle.std.proofs.Common.{◌++◌, ◌∙◌, ap, sym}
use Rattle.std.proofs.lemmas.List.{append-nil, drop_all}
use Rattle.state_sets.specs.Moves.{arms_by}
use Rattle.state_sets.specs.Places.{place_in}
use Rattle.state_sets.proofs.Places.{arm_more}
use Rattle.state_sets.proofs.moves.add_arms.Goals as goal

pub loop-arm-preserved : goal.loop-arm-preserved
loop-arm-preserved c =
    let p = c.args.parties in
    arm_more (place_in c.args.places.now.map) p.role c.args.from p.sender p.receiver c.args.arms.now c.loop-arm.arm-index _ c.choice_act-act.result c.loop-arm.moves.items c.add_move.new.moves.items _ c.loop-arm-test.true c.choice_act-act.ensures c.in_ok-add_move.ensures c.loop-arm.invariant

pub returns : goal.returns
returns c =
    let p = c.args.parties in
    let moves = c.loop-arm.moves.items in
    let f = place_in c.args.places.now.map in
    sym (append-nil moves) ∙ ap (λ l. moves ++ arms_by f p.role c.args.from p.sender p.receiver l) (sym (drop_all c.loop-arm.arm-index c.args.arms.now c.loop-arm-test.false)) ∙ c.loop-arm.invariant
