use Rattle.std.proofs.Common.{take}
use Rattle.std.specs.List.{AllZip}
use Rattle.branch_merge.specs.Merged.{Keeps}
use Rattle.block_codes.specs.Parts.{IsPut}
use Rattle.block_codes.proofs.statement.put_parts.Given as goal

abbrev pub invariant-loop-coded : goal.invariant-loop-coded
invariant-loop-coded l = record {
  kept : Keeps l.fn.code.nodes l.code.nodes;
  each : AllZip (IsPut l.fn.code.nodes l.code.nodes l.form) (take l.coded-index l.list) l.codes;
}
