use Rattle.std.proofs.Common.{arith}
use Rattle.endpoint_reader.proofs.Bodies.{pushing_begins, pushing_goes, pushed_smaller, all_pushed}
use Rattle.endpoint_reader.proofs.Known.{one_less_action, one_more_line}
use Rattle.endpoint_reader.proofs.body.push_actions.Goals as goal

pub loop-action-init : goal.loop-action-init
loop-action-init c = record {
  pushing = pushing_begins c.requires;
  known = λ i a b. (a, b);
}

pub loop-action-preserved : goal.loop-action-preserved
loop-action-preserved c = record {
  pushing = pushing_goes _ c.loop-action.invariant.pushing c.in-Some.ensures.items c.in_ok-next.ensures.grows c.in_ok-next.ensures.id;
  known = λ i a b. let h = c.loop-action.invariant.known i a b in let q = one_less_action i _ _ _ h.1 c.in-Some.ensures.items in (one_more_line i _ _ _ h.0 q.1 c.in_ok-next.ensures.grows, q.0);
}

pub loop-action-smaller : goal.loop-action-smaller
loop-action-smaller c = pushed_smaller _ _ c.in-Some.ensures.items

pub returns-clause-body : goal.returns-clause-body
returns-clause-body c = all_pushed c.loop-action.invariant.pushing (omega (arith, c.in_default.ensures.cases.0))

pub returns-clause-there : goal.returns-clause-there
returns-clause-there c = c.loop-action.invariant.pushing.there

pub returns-clause-grows : goal.returns-clause-grows
returns-clause-grows c = c.loop-action.invariant.pushing.grows

pub returns-clause-known : goal.returns-clause-known
returns-clause-known c i a b = (c.loop-action.invariant.known i a b).0
