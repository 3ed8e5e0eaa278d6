use Rattle.std.proofs.Common.{take}
use Rattle.file_codes.specs.Shifted.{IsAppended}
use Rattle.file_codes.proofs.prepared.append_unit.Given as goal

abbrev pub invariant-loop-node : goal.invariant-loop-node
invariant-loop-node l = IsAppended (take l.node-index l.node-items) l.fn.code.nodes l.code.nodes
