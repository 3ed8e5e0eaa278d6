use Rattle.std.proofs.Common.{◌≡◌, ◌++◌, drop}
use Rattle.state_sets.specs.Moves.{moves_by}
use Rattle.state_sets.specs.Places.{place_in}
use Rattle.state_sets.proofs.moves.placed_moves.Given as goal

abbrev pub invariant-loop-number : goal.invariant-loop-number
invariant-loop-number l = l.moves.items ++ moves_by (place_in l.places.map) l.role l.number (drop l.number l.protocol.states) ≡ moves_by (place_in l.places.map) l.role 0 l.protocol.states
