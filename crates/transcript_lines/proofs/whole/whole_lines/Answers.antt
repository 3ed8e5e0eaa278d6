use Rattle.std.proofs.Common.{◌∙◌, sym}
use Rattle.transcript_lines.proofs.WholeLines.{torn_at, ended_at}
use Rattle.transcript_lines.proofs.whole.whole_lines.Goals as goal

pub returns-then-last-eq10 : goal.returns-then-last-eq10
returns-then-last-eq10 c = sym (c.loop-whole.invariant ∙ ended_at c.loop-whole.whole.now c.in-len1-up.len_at_least c.if-last-eq10.true)

pub loop-whole-preserved : goal.loop-whole-preserved
loop-whole-preserved c = c.loop-whole.invariant ∙ torn_at c.loop-whole.whole.now c.in-len1-up.len_at_least c.if-last-eq10.false
