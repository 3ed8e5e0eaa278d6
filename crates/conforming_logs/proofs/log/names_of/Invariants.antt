use Rattle.std.proofs.Common.{◌≡◌, take}
use Rattle.chor_tree.specs.Names.{names_in}
use Rattle.conforming_logs.proofs.log.names_of.Given as goal

abbrev pub invariant-loop-name : goal.invariant-loop-name
invariant-loop-name l = l.list ≡ names_in (take l.name-index l.written)
