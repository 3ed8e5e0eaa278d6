use Rattle.std.proofs.Common.{◌==◌}
use Rattle.linearity.specs.Marks.{is_marked}
use Rattle.linear_check.specs.Heard.{hears}
use Rattle.linear_check.proofs.Gathering.{marked_turn, marked_end}
use Rattle.linear_check.proofs.heard.Heard.add_all.Goals as goal

pub loop-part-preserved : goal.loop-part-preserved
loop-part-preserved c = λ n x.
    marked_turn (λ q. q.process.name.0 == x) c.args.parts.now c.loop-part.part-index (hears c.loop-part.self n x) _ (is_marked c.args.marks n) _ (hears c.add.new.self n x)
    c.loop-part-test.true (c.in_ok-add.ensures n x) (c.loop-part.invariant n x)

pub returns : goal.returns
returns c = λ n x. marked_end (λ q. q.process.name.0 == x) c.args.parts.now c.loop-part.part-index (hears c.loop-part.self n x) _ (is_marked c.args.marks n) c.loop-part-test.false (c.loop-part.invariant n x)
