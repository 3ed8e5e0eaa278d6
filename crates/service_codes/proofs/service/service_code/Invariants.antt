use Rattle.std.proofs.Common.{take}
use Rattle.std.specs.List.{AllZip}
use Rattle.branch_merge.specs.Merged.{Keeps}
use Rattle.service_codes.specs.Services.{IsStartCodeAt}
use Rattle.service_codes.proofs.service.service_code.Given as goal

abbrev pub invariant-loop-start : goal.invariant-loop-start
invariant-loop-start l = record {
  kept : Keeps l.fn.code.nodes l.code.nodes;
  each : AllZip (IsStartCodeAt l.file l.served l.code.nodes) (take l.start-index l.starts) l.list;
}
