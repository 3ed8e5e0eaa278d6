use Rattle.std.proofs.Common.{take, ◌≡◌}
use Rattle.global_types.specs.Moves.{IsIn}
use Rattle.state_sets.specs.declared.act.Act.{Act}
use Rattle.state_sets.specs.Moves.{action_of}
use Rattle.state_sets.proofs.graph.knows.Given as goal

abbrev pub invariant-loop-known : goal.invariant-loop-known
invariant-loop-known l = (b : Act) → IsIn b (take l.known-index l.acts) → action_of b ≡ action_of l.act → ⊥
