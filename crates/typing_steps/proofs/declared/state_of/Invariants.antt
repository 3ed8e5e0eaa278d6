use Rattle.std.proofs.Common.{◌≡◌, drop}
use Rattle.chor_tree.specs.Names.{first_named}
use Rattle.typing_steps.proofs.declared.state_of.Given as goal

abbrev pub invariant-loop-state : goal.invariant-loop-state
invariant-loop-state l = first_named (λ x. x.name) (drop l.state-index l.states) l.name ≡ first_named (λ x. x.name) l.states l.name
