use Rattle.std.proofs.Common.{◌≡◌, length}
use Rattle.transcript_lines.specs.Whole.{whole_lines}
use Rattle.transcript_lines.proofs.whole.whole_lines.Given as goal

abbrev pub invariant-loop-whole : goal.invariant-loop-whole
invariant-loop-whole l = whole_lines l.bytes ≡ whole_lines l.whole

abbrev pub decreases-loop-whole : goal.decreases-loop-whole
decreases-loop-whole l = length l.whole
