use Rattle.std.proofs.Common.{◌&&◌, ap, ◌∙◌}
use Rattle.linearity.specs.Marks.{is_marked}
use Rattle.linear_check.specs.Heard.{hears}
use Rattle.linear_check.proofs.Gathering.{all_turn, all_end}
use Rattle.linear_check.proofs.heard.Heard.all_of.Goals as goal

pub loop-part-preserved : goal.loop-part-preserved
loop-part-preserved c = λ n few.
    all_turn (λ q. hears c.args.self.now n q.process.name.0) c.args.parts.now c.loop-part.part-index (is_marked c.loop-part.marks n) _ _ (is_marked c.and-marks.result n)
    c.loop-part-test.true (c.and-marks.ensures.both n ∙ ap (λ b. is_marked c.loop-part.marks n && b) (c.get.ensures n)) (c.loop-part.invariant n few)

pub returns : goal.returns
returns c = λ n few. all_end (λ q. hears c.args.self.now n q.process.name.0) c.args.parts.now c.loop-part.part-index (is_marked c.loop-part.marks n) _ c.loop-part-test.false (c.loop-part.invariant n few)
