use Rattle.std.proofs.Common.{length}
use Rattle.chor_lexer.proofs.Progress.{Progress}
use Rattle.chor_lexer.proofs.lex.tokens.Given as goal

abbrev pub invariant-loop-rest : goal.invariant-loop-rest
invariant-loop-rest l = Progress l.bytes l.fn.names l.fn.texts l.rest l.place l.items l.names l.texts

abbrev pub decreases-loop-rest : goal.decreases-loop-rest
decreases-loop-rest l = length l.rest
