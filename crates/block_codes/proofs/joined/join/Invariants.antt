use Rattle.std.proofs.Common.{take}
use Rattle.std.specs.List.{AllZip, zip}
use Rattle.branch_merge.specs.Merged.{Keeps}
use Rattle.block_codes.specs.Joins.{IsJoined}
use Rattle.block_codes.proofs.joined.join.Given as goal

abbrev pub invariant-loop-place : goal.invariant-loop-place
invariant-loop-place l = record {
  kept : Keeps l.fn.code.nodes l.code.nodes;
  each : AllZip (IsJoined l.fn.code.nodes l.code.nodes l.node.form) (take l.place (zip l.firsts l.seconds)) l.codes;
}
