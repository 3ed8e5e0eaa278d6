use Rattle.std.proofs.Common.{length}
use Rattle.chor_lexer.proofs.Bodies.{Gathered}
use Rattle.chor_lexer.proofs.text.text_of.Given as goal

abbrev pub invariant-loop-rest : goal.invariant-loop-rest
invariant-loop-rest l = Gathered l.body l.rest l.text.items

abbrev pub decreases-loop-rest : goal.decreases-loop-rest
decreases-loop-rest l = length l.rest
