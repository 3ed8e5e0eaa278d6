use Rattle.std.proofs.Common.{refl}
use Rattle.chor_tree.specs.Names.{first_named}
use Rattle.typing_steps.proofs.Searches.{at_end, found, passed}
use Rattle.typing_steps.proofs.declared.state_of.Goals as goal

pub returns-then-eq : goal.returns-then-eq
returns-then-eq c = found (λ x. x.name) c.args.states.now c.args.states.now c.args.name c.loop-state.state-index _ c.state-item.result c.eq.ensures refl c.loop-state-test.true c.state-item.is c.loop-state.invariant c.if-eq.true

pub loop-state-preserved : goal.loop-state-preserved
loop-state-preserved c = passed (λ x. x.name) c.args.states.now c.args.states.now c.args.name c.loop-state.state-index _ c.state-item.result c.eq.ensures refl c.loop-state-test.true c.state-item.is c.loop-state.invariant c.if-eq.false

pub returns : goal.returns
returns c = at_end (λ l. first_named (λ x. x.name) l c.args.name) c.args.states.now c.args.states.now c.loop-state.state-index _ refl c.loop-state-test.false c.loop-state.invariant
