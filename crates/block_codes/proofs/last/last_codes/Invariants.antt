use Rattle.std.proofs.Common.{◌≡◌, ◌<◌, length, take}
use Rattle.std.specs.List.{AllZip}
use Rattle.endpoint_code.specs.Trees.{Ends, code_at}
use Rattle.branch_merge.specs.Merged.{Keeps}
use Rattle.block_codes.specs.Parts.{IsCalled}
use Rattle.block_codes.proofs.last.last_codes.Given as goal

abbrev pub invariant-loop-process : goal.invariant-loop-process
invariant-loop-process l = record {
  kept : Keeps l.fn.code.nodes l.code.nodes;
  inside : l.end.0 < length l.code.nodes;
  ends : code_at l.code.nodes l.end ≡ Ends;
  each : AllZip (IsCalled l.spot.file.now.procs l.spot.node.now.form l.code.nodes) (take l.process-index l.scope) l.codes;
}
