use Rattle.std.proofs.Common.{◌+◌}
use Rattle.block_codes.proofs.alone.+alone.Given as goal

abbrev pub decreases-code_of : goal.decreases-code_of
decreases-code_of l = l.id.0 + l.id.0 + 1

abbrev pub decreases-after_statement : goal.decreases-after_statement
decreases-after_statement l = l.spot.now.id.0 + l.spot.now.id.0

abbrev pub decreases-after_test : goal.decreases-after_test
decreases-after_test l = l.spot.now.id.0 + l.spot.now.id.0
