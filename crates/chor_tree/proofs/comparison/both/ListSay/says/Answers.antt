use Rattle.std.proofs.Common.{sym, ◌∙◌, arith}
use Rattle.chor_tree.proofs.Blocks.{rest_same, first_apart, ends_first}
use Rattle.chor_tree.proofs.comparison.both.ListSay.says.Goals as goal

pub loop-x-preserved : goal.loop-x-preserved
loop-x-preserved g c =
    rest_same _ _ _ _ _ _ _ c.in-Some.ensures.cases.0 c.in-Some-split_first.ensures.cases.0 (sym c.says.ensures ∙ c.if-not-says.false) ∙ c.loop-x.invariant

pub returns-in_default-split_first : goal.returns-in_default-split_first
returns-in_default-split_first g c = ends_first _ _ _ _ _ c.in-Some.ensures.cases.0 c.in_default-split_first.ensures.cases ∙ c.loop-x.invariant

pub returns-then-not-says : goal.returns-then-not-says
returns-then-not-says g c =
    first_apart _ _ _ _ _ _ _ c.in-Some.ensures.cases.0 c.in-Some-split_first.ensures.cases.0 (sym c.says.ensures ∙ c.if-not-says.true) ∙ c.loop-x.invariant

pub loop-x-smaller : goal.loop-x-smaller
loop-x-smaller g c = omega (arith, c.in-Some.ensures.cases.1)
