-- How deep levels stand in one another.
use Rattle.std.proofs.Common.{ℕ, ◌<◌, arith}
use Rattle.endpoint_reader.specs.declared.expression.Level.{Level}
use Rattle.endpoint_reader.specs.declared.expression.Level.TheVariants as lvl

abbrev pub operand_rank : Level → ℕ
operand_rank lvl.Or = 8
operand_rank lvl.And = 6
operand_rank lvl.Sum = 3
operand_rank lvl.Product = 1

abbrev pub level_rank : Level → ℕ
level_rank lvl.Or = 9
level_rank lvl.And = 7
level_rank lvl.Sum = 4
level_rank lvl.Product = 2

pub ranks : (l : Level) → operand_rank l < 10
ranks lvl.Or = omega arith
ranks lvl.And = omega arith
ranks lvl.Sum = omega arith
ranks lvl.Product = omega arith
