use Rattle.chor_lexer.proofs.Pieces.{double_next, single_next, mark_fault}
use Rattle.chor_lexer.proofs.scan.mark_at.Goals as goal

pub returns-in-Some-clause-piece : goal.returns-in-Some-clause-piece
returns-in-Some-clause-piece c = double_next _ _ c.requires.begins c.requires.no_blank c.in-Some.ensures.found.0 c.in-Some.ensures.found.1

pub returns-in-Some-single_mark-clause-piece : goal.returns-in-Some-single_mark-clause-piece
returns-in-Some-single_mark-clause-piece c = single_next _ _ c.requires.begins c.requires.no_blank c.in-Some-single_mark.ensures c.in_default.ensures.none

pub returns-in-None-clause-fault : goal.returns-in-None-clause-fault
returns-in-None-clause-fault c = mark_fault _ c.requires.begins c.requires.no_blank c.in-None.ensures c.in_default.ensures.none
