use Rattle.std.proofs.Common.{length}
use Rattle.chor_lexer.proofs.Bodies.{Passed}
use Rattle.chor_lexer.proofs.text.body_len.Given as goal

abbrev pub invariant-loop-rest : goal.invariant-loop-rest
invariant-loop-rest l = Passed l.bytes l.rest

abbrev pub decreases-loop-rest : goal.decreases-loop-rest
decreases-loop-rest l = length l.rest
