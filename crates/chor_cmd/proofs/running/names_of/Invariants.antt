use Rattle.std.proofs.Common.{◌≡◌, take}
use Rattle.chor_tree.specs.Names.{names_in}
use Rattle.chor_cmd.proofs.running.names_of.Given as goal

abbrev pub invariant-loop-name : goal.invariant-loop-name
invariant-loop-name l = l.list ≡ names_in (take l.name-index l.written)
