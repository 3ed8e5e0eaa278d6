use Rattle.chor_tree.proofs.Blocks.{block_at}
use Rattle.block_codes.proofs.node.spot_at.Goals as goal

pub returns-clause-at : goal.returns-clause-at
returns-clause-at c =
    let tree = c.args.file.now.tree in
    record {
      inside = c.requires;
      block = block_at tree.nodes c.args.id c.at.result.now tree.closed c.at.ensures;
      before = tree.closed c.args.id.0 c.at.result.now c.at.ensures;
    }
