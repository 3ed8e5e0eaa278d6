use Rattle.std.proofs.Common.{arith}
use Rattle.chor_lexer.proofs.Pieces.{word_fault, word_next}
use Rattle.chor_lexer.proofs.scan.word_at.Goals as goal

pub returns-then-len-gt64-clause-fault : goal.returns-then-len-gt64-clause-fault
returns-then-len-gt64-clause-fault c = word_fault _ _ c.requires c.word_len-len.ensures (omega arith)

pub returns-clause-piece : goal.returns-clause-piece
returns-clause-piece c = word_next _ _ c.requires c.word_len-len.ensures (omega arith)
