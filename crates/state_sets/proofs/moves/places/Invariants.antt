use Rattle.state_sets.proofs.Places.{ArePlacesSoFar}
use Rattle.state_sets.proofs.moves.places.Given as goal

abbrev pub invariant-loop-number : goal.invariant-loop-number
invariant-loop-number l = ArePlacesSoFar l.protocol.states l.number l.places.map
