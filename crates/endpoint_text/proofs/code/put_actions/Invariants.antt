use Rattle.std.proofs.Common.{◌≡◌, ◌++◌, ◌<◌}
use Rattle.std.specs.Prelude.{All}
use Rattle.endpoint_code.specs.Code.{children_of}
use Rattle.endpoint_code.specs.Trees.{code_at, node_tree, trees_of}
use Rattle.endpoint_code.proofs.Sizes.{size}
use Rattle.endpoint_text.specs.Text.{code_text}
use Rattle.endpoint_text.proofs.code.put_actions.Given as goal

abbrev pub invariant-loop-next : goal.invariant-loop-next
invariant-loop-next l =
    (l.out.items ++ code_text l.e (node_tree (trees_of l.e.code.nodes) l.node) ≡ l.fn.out.items ++ code_text l.e (code_at l.e.code.nodes l.fn.id))
    × All (λ c. c.0 < l.fn.id.0) (children_of l.node)

abbrev pub decreases-loop-next : goal.decreases-loop-next
decreases-loop-next l = size (node_tree (trees_of l.e.code.nodes) l.node)
