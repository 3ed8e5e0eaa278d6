use Rattle.std.proofs.Common.{◌≡◌, ◌<◌, length, map, take}
use Rattle.std.specs.Prelude.{All}
use Rattle.endpoint_code.specs.Trees.{code_at}
use Rattle.branch_merge.specs.Merged.{Keeps}
use Rattle.projection.specs.Renamed.{renamed}
use Rattle.renamed_codes.specs.Renames.{by}
use Rattle.renamed_codes.proofs.walk.+rename.Given as goal

abbrev pub decreases-rename : goal.decreases-rename
decreases-rename l = l.id.0

abbrev pub invariant-loop-child : goal.invariant-loop-child
invariant-loop-child l = record {
  kept : Keeps l.fn.code.nodes l.code.nodes;
  inside : All (λ c. c.0 < length l.code.nodes) l.to;
  codes : map (code_at l.code.nodes) l.to ≡ map (λ c. renamed (by l.names) (code_at l.fn.code.nodes c)) (take l.child-index l.child-items);
}
