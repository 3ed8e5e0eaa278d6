use Rattle.std.proofs.Common.{◌≡◌, true, length, map, take}
use Rattle.std.specs.Prelude.{All}
use Rattle.endpoint_code.specs.Kept.{has_name, has_text, node_there}
use Rattle.endpoint_code.specs.Trees.{trees_of}
use Rattle.endpoint_names.specs.Bodies.{bodies_of}
use Rattle.endpoint_making.specs.Codes.{code_of}
use Rattle.endpoint_making.proofs.table.table_of.Given as goal

abbrev pub invariant-loop-line : goal.invariant-loop-line
invariant-loop-line l = record {
  trees : trees_of l.code.nodes ≡ map code_of (bodies_of (take l.line-index l.lines.items));
  count : length l.code.nodes ≡ l.line-index;
  there : All (λ o. node_there (has_name l.names) (has_text l.texts) o ≡ true) l.code.nodes;
}
