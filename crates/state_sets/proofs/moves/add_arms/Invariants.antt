use Rattle.std.proofs.Common.{◌≡◌, ◌++◌, drop}
use Rattle.state_sets.specs.Moves.{arms_by}
use Rattle.state_sets.specs.Places.{place_in}
use Rattle.state_sets.proofs.moves.add_arms.Given as goal

abbrev pub invariant-loop-arm : goal.invariant-loop-arm
invariant-loop-arm l =
    l.moves.items ++ arms_by (place_in l.places.map) l.parties.role l.from l.parties.sender l.parties.receiver (drop l.arm-index l.arms)
    ≡ l.initial.moves.items ++ arms_by (place_in l.places.map) l.parties.role l.from l.parties.sender l.parties.receiver l.arms
