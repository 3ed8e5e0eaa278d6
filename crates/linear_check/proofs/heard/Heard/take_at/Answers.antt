use Rattle.linear_check.proofs.heard.Heard.take_at.Goals as goal

pub returns-in-Call-clause-taken : goal.returns-in-Call-clause-taken
returns-in-Call-clause-taken c = rw c.in-Call.is c.take_in_call.ensures.taken
