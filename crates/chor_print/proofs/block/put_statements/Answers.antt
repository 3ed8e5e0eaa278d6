use Rattle.std.proofs.Common.{◌≡◌, Some, sym, ◌∙◌, arith}
use Rattle.std.proofs.lemmas.Grind.{common_steps}
use Rattle.chor_tree.specs.Children.{children_of}
use Rattle.chor_print.specs.Lines.{blocks_of}
use Rattle.chor_print.specs.Parts.{next_of}
use Rattle.chor_print.proofs.Lines.{lines_on, below_on, below_more}
use Rattle.chor_print.proofs.block.put_statements.Goals as goal

pub loop-next-preserved : goal.loop-next-preserved
loop-next-preserved c =
    let on : next_of c.loop-next.form.now ≡ Some c.in-Some.next = sym c.next_of.ensures ∙ c.in-Some.is in
    let lines = lines_on c.args.file.now (blocks_of c.args.file.now) c.loop-next.form.now c.in-Some.next on in
    let lt = below_on c.args.id.0 c.loop-next.form.now c.in-Some.next on c.loop-next.invariant.1 in
    (grind (arith, common_steps, lines, c.form_at-form-in-Some.ensures.lines, c.loop-next.invariant.0), below_more c.args.id.0 c.in-Some.next.0 (children_of c.form_at-form-in-Some.result.now) lt c.form_at-form-in-Some.ensures.below)
