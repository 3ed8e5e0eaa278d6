use Rattle.std.proofs.Common.{length}
use Rattle.chor_lexer.proofs.Bodies.{Followed}
use Rattle.chor_lexer.proofs.text.wrong_escape.Given as goal

abbrev pub invariant-loop-rest : goal.invariant-loop-rest
invariant-loop-rest l = Followed l.body l.rest

abbrev pub decreases-loop-rest : goal.decreases-loop-rest
decreases-loop-rest l = length l.rest
