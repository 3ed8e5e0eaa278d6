use Rattle.std.proofs.Common.{◌≡◌, drop}
use Rattle.global_types.specs.Moves.{state_named}
use Rattle.chor_base.proofs.FirstPlaces.{later}
use Rattle.global_types.proofs.states.step_at.Given as goal

abbrev pub invariant-loop-index : goal.invariant-loop-index
invariant-loop-index l = later l.index (state_named (drop l.index l.states) l.state) ≡ state_named l.states l.state
