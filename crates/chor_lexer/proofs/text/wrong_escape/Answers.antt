use Rattle.std.proofs.Common.{arith, sym, false-eqb}
use Rattle.std.proofs.lemmas.Bool.{eqb-true}
use Rattle.chor_lexer.proofs.Bodies.{followed_none, followed_plain, followed_escape, followed_wrong, followed_on, followed_all}
use Rattle.chor_lexer.proofs.text.wrong_escape.Goals as goal

pub loop-rest-init : goal.loop-rest-init
loop-rest-init c = followed_none _ c.requires

pub loop-rest-preserved-in-Plain : goal.loop-rest-preserved-in-Plain
loop-rest-preserved-in-Plain c = rw c.split_at.ensures.back (followed_plain _ _ _ c.loop-rest.invariant c.in-Plain.ensures)

pub loop-rest-preserved : goal.loop-rest-preserved
loop-rest-preserved c = rw c.split_at-in-Escape-Some.ensures.back (followed_escape _ _ _ c.loop-rest.invariant (rw c.in-Escape-Some.field-0-is at c.in-Escape-Some.ensures))

pub returns-in-Escape-None-clause-wrong : goal.returns-in-Escape-None-clause-wrong
returns-in-Escape-None-clause-wrong c = followed_wrong _ _ c.loop-rest.invariant (rw c.in-Escape-None.field-0-is at c.in-Escape-None.ensures)

pub unreachable-requires : goal.unreachable-requires
unreachable-requires c = followed_on _ _ _ c.loop-rest.invariant c.part_at.ensures c.in-Quote.is (let some = false-eqb _ 0 c.loop-rest-test.ensures in omega (arith, some))

pub returns-clause-right : goal.returns-clause-right
returns-clause-right c = followed_all _ _ c.loop-rest.invariant (eqb-true _ _ (sym c.loop-rest-test.ensures))
