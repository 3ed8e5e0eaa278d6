use Rattle.std.proofs.Common.{◌≡◌, drop}
use Rattle.std.specs.List.{list_any}
use Rattle.global_types.specs.Moves.{is_named}
use Rattle.global_types.proofs.states.is_used.Given as goal

abbrev pub invariant-loop-state : goal.invariant-loop-state
invariant-loop-state l = list_any (λ s. is_named l.role s.step) (drop l.state-index l.states) ≡ list_any (λ s. is_named l.role s.step) l.states
