use Rattle.std.proofs.Common.{refl, arith}
use Rattle.grammar.proofs.Passing.{passes}
use Rattle.grammar.proofs.Progress.{read_shorter}
use Rattle.endpoint_reader.specs.Tokens.{from}
use Rattle.endpoint_reader.proofs.Bodies.{going_begins, going_goes, going_halts, going_open, node_there, begins_there, none_there}
use Rattle.endpoint_reader.proofs.Known.{no_actions, one_more_action, action_there}
use Rattle.endpoint_reader.proofs.body.read_actions.Goals as goal

pub nodes-init : goal.nodes-init
nodes-init c = record { going = going_begins c.new-actions.ensures.items; further = omega arith; known = no_actions c.args.input.now _ c.new-actions.ensures.items }

pub returns-in_err-next-clause-halts : goal.returns-in_err-next-clause-halts
returns-in_err-next-clause-halts c = passes _ _ c.from_residual.ensures.1 (going_halts c.nodes.invariant.going c.in_err-next.ensures.begun c.in_err-next.ensures.halts)

pub returns-in_default-clause-all : goal.returns-in_default-clause-all
returns-in_default-clause-all c = none_there _ _ c.in_ok-next.ensures.none c.in_default.is

pub returns-in_err-at-clause-halts : goal.returns-in_err-at-clause-halts
returns-in_err-at-clause-halts c = passes _ _ c.from_residual-in_err-at.ensures.1 (going_open c.nodes.invariant.going (begins_there _ _ _ c.in_ok-next.ensures.begins c.in-Some.is) (node_there c.args.input.now _ _ (from c.args.input.now) _ _ c.in_ok-next.ensures.some c.in-Some.is) c.in_err-at.ensures.missed)

pub nodes-preserved : goal.nodes-preserved
nodes-preserved c = record {
  going = going_goes _ c.nodes.invariant.going (begins_there _ _ _ c.in_ok-next.ensures.begins c.in-Some.is) (node_there c.args.input.now _ _ (from c.args.input.now) _ _ c.in_ok-next.ensures.some c.in-Some.is) c.in_ok-at.ensures.reads c.in_ok-add_action.ensures c.saturating_sub-left.ensures;
  further = omega (arith, c.nodes.invariant.further, read_shorter refl (node_there c.args.input.now _ _ (from c.args.input.now) _ _ c.in_ok-next.ensures.some c.in-Some.is).reads, read_shorter refl c.in_ok-at.ensures.reads);
  known = one_more_action c.args.input.now _ _ _ c.nodes.invariant.known (action_there c.args.input.now _ _ c.in_ok-next.ensures.known c.in-Some.is) c.in_ok-add_action.ensures;
}

pub nodes-smaller : goal.nodes-smaller
nodes-smaller c = omega (arith, read_shorter refl (node_there c.args.input.now _ _ (from c.args.input.now) _ _ c.in_ok-next.ensures.some c.in-Some.is).reads, read_shorter refl c.in_ok-at.ensures.reads)

pub returns-in_default-clause-known : goal.returns-in_default-clause-known
returns-in_default-clause-known c = c.nodes.invariant.known
