use Rattle.std.proofs.Common.{◌≡◌, ◌<◌, ◌+◌, length}
use Rattle.chor_tree.specs.Source.{block_in, blocks_of}
use Rattle.chor_tree.specs.Same.{same_block}
use Rattle.chor_tree.specs.Both.{words_of, texts_of}
use Rattle.chor_tree.proofs.comparison.body.+same_blocks.Given as goal

abbrev pub decreases-same_blocks : goal.decreases-same_blocks
decreases-same_blocks l = l.id.0

abbrev pub invariant-body : goal.invariant-body
invariant-body l =
    (l.node.0 < length l.left.tree.nodes) × (l.other_node.0 < length l.right.tree.nodes) × (l.node.0 < l.fn.id.0 + 1)
    × (same_block (words_of l.left l.right) (texts_of l.left l.right) (block_in (blocks_of l.left.tree.nodes) l.node) (block_in (blocks_of l.right.tree.nodes) l.other_node)
    ≡ same_block (words_of l.left l.right) (texts_of l.left l.right) (block_in (blocks_of l.left.tree.nodes) l.fn.id) (block_in (blocks_of l.right.tree.nodes) l.fn.other))

abbrev pub decreases-body : goal.decreases-body
decreases-body l = l.node.0
