use Rattle.branch_merge.proofs.Merges.{if_meets}
use Rattle.branch_merge.proofs.merging.meet_at.Goals as goal

pub returns : goal.returns
returns c =
    if_meets c.args.code.now.nodes c.args.pair c.node_at.result.now c.node_at-2.result.now c.node_at.ensures.tree c.node_at-2.ensures.tree
    c.node_at.ensures.before c.node_at-2.ensures.before c.meet.result c.meet.ensures
