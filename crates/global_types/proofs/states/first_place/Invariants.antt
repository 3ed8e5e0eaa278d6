use Rattle.std.proofs.Common.{◌≡◌, drop}
use Rattle.std.specs.Prelude.{is_some}
use Rattle.global_types.specs.Moves.{state_named}
use Rattle.global_types.proofs.states.first_place.Given as goal

abbrev pub invariant-loop-place : goal.invariant-loop-place
invariant-loop-place l = is_some (state_named (drop l.place l.states) l.name) ≡ is_some (state_named l.states l.name)
