use Rattle.std.proofs.Common.{◌≡◌, length}
use Rattle.chor_tree.specs.Same.{all_same}
use Rattle.chor_tree.proofs.comparison.both.ListSay.says.Given as goal

abbrev pub invariant-loop-x : goal.invariant-loop-x
invariant-loop-x g l =
    all_same (g.T.Say.same l.left l.right) l.items l.others
    ≡ all_same (g.T.Say.same l.left l.right) l.fn.self l.fn.other

abbrev pub decreases-loop-x : goal.decreases-loop-x
decreases-loop-x g l = length l.items
