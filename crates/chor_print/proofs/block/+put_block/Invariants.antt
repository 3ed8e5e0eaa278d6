use Rattle.chor_print.proofs.block.+put_block.Given as goal

abbrev pub decreases-put_block : goal.decreases-put_block
decreases-put_block l = l.id.0
