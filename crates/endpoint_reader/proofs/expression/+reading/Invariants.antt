use Rattle.std.proofs.Common.{◌+◌, ◌*◌, length}
use Rattle.endpoint_reader.specs.Tokens.{from}
use Rattle.endpoint_reader.specs.Known.{IsExprThere}
use Rattle.endpoint_reader.specs.Phrases.{marks_of, operand_of, op_of, operand_phrase}
use Rattle.endpoint_reader.specs.Tokens.{written}
use Rattle.chor_base.specs.Expr.{term_of}
use Rattle.endpoint_reader.proofs.Levels.{Grouping}
use Rattle.endpoint_reader.proofs.Ranks.{level_rank, operand_rank}
use Rattle.endpoint_reader.proofs.expression.+reading.Given as goal

abbrev pub decreases-read_level : goal.decreases-read_level
decreases-read_level l = 10 * length (from l.input.now l.at) + level_rank l.level

abbrev pub decreases-read_operand : goal.decreases-read_operand
decreases-read_operand l = 10 * length (from l.input.now l.at) + operand_rank l.level

abbrev pub decreases-read_comparison : goal.decreases-read_comparison
decreases-read_comparison l = 10 * length (from l.input.now l.at) + 5

abbrev pub decreases-read_unary : goal.decreases-read_unary
decreases-read_unary l = 10 * length (from l.input.now l.at)

abbrev pub invariant-read_level-loop-operator : goal.invariant-read_level-loop-operator
invariant-read_level-loop-operator l = record { grouping : Grouping (marks_of l.level) (operand_of l.level) (op_of l.level) (operand_phrase l.level) l.fn.room (from l.input l.fn.at) (written l.input (term_of l.left.expr)) l.left.room (from l.input l.left.at); known : IsExprThere l.input l.left.expr }

abbrev pub decreases-read_level-loop-operator : goal.decreases-read_level-loop-operator
decreases-read_level-loop-operator l = length (from l.input l.left.at)
