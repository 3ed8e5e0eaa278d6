use Rattle.std.proofs.Common.{◌≡◌, take}
use Rattle.renamed_codes.specs.Renames.{relabelled}
use Rattle.renamed_codes.proofs.node.relabelled.Given as goal

abbrev pub invariant-loop-place : goal.invariant-loop-place
invariant-loop-place l = l.list ≡ relabelled (take l.place l.arms) (take l.place l.to)
