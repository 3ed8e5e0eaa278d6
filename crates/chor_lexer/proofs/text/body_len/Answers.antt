use Rattle.chor_lexer.proofs.Bodies.{passed_none, passed_plain, passed_escape, passed_quote, passed_end}
use Rattle.chor_lexer.proofs.text.body_len.Goals as goal

pub loop-rest-init : goal.loop-rest-init
loop-rest-init c = passed_none _

pub returns-in-Quote-clause-closed : goal.returns-in-Quote-clause-closed
returns-in-Quote-clause-closed c = passed_quote _ _ c.loop-rest.invariant c.in-Quote.ensures

pub returns-in-LineEnd-clause-unclosed : goal.returns-in-LineEnd-clause-unclosed
returns-in-LineEnd-clause-unclosed c = passed_end _ _ c.loop-rest.invariant c.in-LineEnd.ensures

pub loop-rest-preserved-in-Plain : goal.loop-rest-preserved-in-Plain
loop-rest-preserved-in-Plain c = rw c.split_at.ensures.back (passed_plain _ _ _ c.loop-rest.invariant c.in-Plain.ensures)

pub loop-rest-preserved : goal.loop-rest-preserved
loop-rest-preserved c = rw c.split_at-in-Escape.ensures.back (passed_escape _ _ _ c.loop-rest.invariant c.in-Escape.ensures)
