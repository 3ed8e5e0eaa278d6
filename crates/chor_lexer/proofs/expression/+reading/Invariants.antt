use Rattle.std.proofs.Common.{length, ◌+◌, ◌-◌, ◌*◌}
use Rattle.chor_base.specs.Expr.{term_of}
use Rattle.chor_lexer.specs.Turns.{strength_at}
use Rattle.chor_lexer.proofs.Operands.{Comes}
use Rattle.chor_lexer.proofs.expression.+reading.Given as goal

abbrev pub decreases-read_level : goal.decreases-read_level
decreases-read_level l = 8 * length l.tokens.now + (7 - strength_at l.level)

abbrev pub decreases-read_unary : goal.decreases-read_unary
decreases-read_unary l = 8 * length l.tokens.now

abbrev pub invariant-read_level-loop-op : goal.invariant-read_level-loop-op
invariant-read_level-loop-op l = Comes l.names l.level l.tokens (term_of l.left) l.rest

abbrev pub decreases-read_level-loop-op : goal.decreases-read_level-loop-op
decreases-read_level-loop-op l = length l.rest
