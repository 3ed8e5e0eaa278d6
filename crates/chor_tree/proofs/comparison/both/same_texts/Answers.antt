use Rattle.std.proofs.Common.{arith}
use Rattle.std.proofs.lemmas.Bool.Decides.{nat_tests}
use Rattle.std.proofs.lemmas.Option.{slice_get_cases}
use Rattle.chor_tree.proofs.comparison.both.same_texts.Goals as goal

pub returns-then-a-len : goal.returns-then-a-len
returns-then-a-len c = grind (arith, nat_tests, slice_get_cases)

pub returns-then-b-len : goal.returns-then-b-len
returns-then-b-len c = grind (arith, slice_get_cases)
