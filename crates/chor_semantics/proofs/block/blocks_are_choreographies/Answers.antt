use Rattle.chor_semantics.proofs.Blocks.{block_choreography}
use Rattle.chor_semantics.proofs.block.blocks_are_choreographies.Goals as goal

pub returns : goal.returns
returns c = block_choreography
