use Rattle.chor_lexer.proofs.Pieces.{digits_pass, digits_within, number_fault, number_next, read_back}
use Rattle.chor_lexer.proofs.scan.number_at.Goals as goal

pub split_at-requires : goal.split_at-requires
split_at-requires c = digits_within _ _ c.digits_len-len.ensures

pub number_of-requires : goal.number_of-requires
number_of-requires c = digits_pass _ _ _ c.digits_len-len.ensures c.split_at.ensures.front

pub returns-in-Some-clause-piece : goal.returns-in-Some-clause-piece
returns-in-Some-clause-piece c = number_next _ _ _ _ c.requires c.digits_len-len.ensures c.split_at.ensures.front (read_back _ _ c.in-Some.ensures.value c.in-Some.ensures.small) c.in-Some.ensures.small

pub returns-in-None-clause-fault : goal.returns-in-None-clause-fault
returns-in-None-clause-fault c = number_fault _ _ _ c.requires c.digits_len-len.ensures c.split_at.ensures.front c.in-None.ensures.too_great
