use Rattle.state_sets.proofs.Places.{placed_so}
use Rattle.state_sets.proofs.moves.moves.Goals as goal

pub returns : goal.returns
returns c = placed_so c.args.protocol.now.states c.args.role c.in_ok-places.places.map c.placed_moves.result c.in_ok-places.ensures c.placed_moves.ensures
