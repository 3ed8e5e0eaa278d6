use Rattle.std.proofs.Common.{refl, ap, arith, length, [], ◌∷◌}
use Rattle.std.proofs.lemmas.List.{length-append}
use Rattle.source_reader.proofs.Lines.{pushes_none, pushes_line, all_pushed, leading_none, leading_line}
use Rattle.source_reader.proofs.block.push_lines.Goals as goal

pub loop-line-init : goal.loop-line-init
loop-line-init c = record { pushes = pushes_none _ _ _ c.requires; leading = leading_none _ _ }

pub loop-line-preserved : goal.loop-line-preserved
loop-line-preserved c = record {
  pushes = pushes_line c.in-Some.line _ _ _ _ c.loop-line.invariant.pushes c.in-Some.ensures.items refl c.form_of-form.ensures c.in_ok-next.ensures.ok.1 c.in_ok-next.ensures.ok.0;
  leading = leading_line c.in-Some.line.statement _ c.loop-line.invariant.leading c.form_of-form.ensures c.in_ok-next.ensures.ok.1 c.in_ok-next.ensures.ok.0;
}

pub loop-line-smaller : goal.loop-line-smaller
loop-line-smaller c = let e = ap length c.in-Some.ensures.items in omega (arith, length-append c.pop.new.self.items (c.in-Some.line ∷ []))

pub returns-clause-block : goal.returns-clause-block
returns-clause-block c = all_pushed c.loop-line.invariant.pushes (omega (arith, c.in_default.ensures.cases.0, c.loop-line.lines.ok.0))

pub returns-clause-there : goal.returns-clause-there
returns-clause-there c = c.loop-line.invariant.pushes.there

pub returns-clause-grows : goal.returns-clause-grows
returns-clause-grows c = c.loop-line.invariant.pushes.grows

pub returns-clause-adds : goal.returns-clause-adds
returns-clause-adds c = λ first d. c.loop-line.invariant.leading.by first d
