use Rattle.std.proofs.Common.{◌≡◌, ◌++◌, take}
use Rattle.block_codes.specs.Nodes.{names_of}
use Rattle.block_codes.proofs.statement.scope_after.Given as goal

abbrev pub invariant-loop-part : goal.invariant-loop-part
invariant-loop-part l = l.names ≡ l.scope ++ names_of (take l.part-index l.part-items)
