use Rattle.std.proofs.Common.{sym}
use Rattle.std.proofs.lemmas.Bool.{eqb-true}
use Rattle.chor_lexer.proofs.Bodies.{gathered_none, gathered_plain, gathered_escape, gathered_all}
use Rattle.chor_lexer.proofs.text.text_of.Goals as goal

pub loop-rest-init : goal.loop-rest-init
loop-rest-init c = rw c.new-text.ensures.items (gathered_none _ c.requires)

pub loop-rest-preserved-in-Plain-1 : goal.loop-rest-preserved-in-Plain-1
loop-rest-preserved-in-Plain-1 c = rw (c.split_at.ensures.back, c.in_ok-push-in-Plain.ensures.items) (gathered_plain _ _ _ _ c.loop-rest.invariant c.in-Plain.ensures)

pub loop-rest-preserved : goal.loop-rest-preserved
loop-rest-preserved c = rw (c.split_at-in-Escape-Some.ensures.back, c.in_ok-push-in-Escape-Some.ensures.items) (gathered_escape _ _ _ _ c.loop-rest.invariant (rw c.in-Escape-Some.field-0-is at c.in-Escape-Some.ensures))

pub returns : goal.returns
returns c = gathered_all _ _ _ c.loop-rest.invariant (eqb-true _ _ (sym c.loop-rest-test.ensures))
