use Rattle.std.proofs.Common.{◌≡◌, ◌++◌}
use Rattle.chor_print.specs.Parts.{indentation}
use Rattle.chor_print.proofs.block.put_indentation.Given as goal

abbrev pub invariant-loop : goal.invariant-loop
invariant-loop l = l.out.items ≡ l.fn.out.items ++ indentation l.counter
