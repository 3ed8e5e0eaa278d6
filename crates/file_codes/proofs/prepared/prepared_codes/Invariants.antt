use Rattle.std.proofs.Common.{take}
use Rattle.chor_tree.specs.Source.{body_of}
use Rattle.branch_merge.specs.Merged.{Keeps}
use Rattle.file_codes.specs.UnitCodes.{AreScopeCodes}
use Rattle.file_codes.proofs.prepared.prepared_codes.Given as goal

abbrev pub invariant-loop-process : goal.invariant-loop-process
invariant-loop-process l = record {
  kept : Keeps l.fn.code.nodes l.code.nodes;
  found : AreScopeCodes l.file (body_of l.file l.id) (take l.process-index l.scope) l.code.nodes l.list;
}
