use Rattle.linearity.specs.Marks.{is_marked}
use Rattle.linear_check.specs.Heard.{hears}
use Rattle.linear_check.specs.Sets.{holds}
use Rattle.linear_check.proofs.Settled.{set_turn}
use Rattle.linear_check.proofs.greatest.heard_in.Goals as goal

pub loop-place-preserved : goal.loop-place-preserved
loop-place-preserved c = λ n lt x.
    let sets = c.args.sets.now in
    let h = c.args.procedure.now in
    set_turn (holds sets n h.name.name) h.params c.loop-place.place c.at-param.result.now x (hears c.loop-place.heard n x) (hears c.add.new.self n x) (is_marked c.get.result n) _
    c.at-param.ensures (c.get.ensures.holds n lt) (c.in_ok-add.ensures n x) (c.loop-place.invariant n lt x)
