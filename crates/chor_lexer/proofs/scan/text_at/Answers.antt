use Rattle.std.proofs.Common.{arith}
use Rattle.chor_lexer.proofs.Pieces.{open_fault, long_fault, escape_fault, text_next, body_is, body_within, begins_some}
use Rattle.chor_lexer.proofs.scan.text_at.Goals as goal

pub split_at-requires : goal.split_at-requires
split_at-requires c = begins_some _ _ c.requires

pub split_at-requires-2 : goal.split_at-requires-2
split_at-requires-2 c = omega (arith, body_within _ _ c.in-Some.ensures.closed)

pub wrong_escape-requires : goal.wrong_escape-requires
wrong_escape-requires c = body_is _ _ _ c.in-Some.ensures.closed c.split_at-2.ensures.front

pub returns-in_default-clause-fault : goal.returns-in_default-clause-fault
returns-in_default-clause-fault c = open_fault _ _ c.requires c.split_at.ensures.back c.in_default.ensures.unclosed

pub returns-then-len-gt256-clause-fault : goal.returns-then-len-gt256-clause-fault
returns-then-len-gt256-clause-fault c = long_fault _ _ c.in-Some.len c.requires c.split_at.ensures.back c.in-Some.ensures.closed (omega arith)

pub returns-in-Some-wrong_escape-clause-fault : goal.returns-in-Some-wrong_escape-clause-fault
returns-in-Some-wrong_escape-clause-fault c = escape_fault _ _ _ c.in-Some.len _ c.requires c.split_at.ensures.back c.in-Some.ensures.closed (omega arith) c.split_at-2.ensures.front c.in-Some-wrong_escape.ensures.wrong

pub returns-in-None-clause-piece : goal.returns-in-None-clause-piece
returns-in-None-clause-piece c = text_next _ _ _ c.in-Some.len c.requires c.split_at.ensures.back c.in-Some.ensures.closed (omega arith) c.split_at-2.ensures.front c.in-None.ensures.right
