use Rattle.typed_sources.specs.Told.{puts}
use Rattle.conform.specs.Moves.{told}
use Rattle.conform.proofs.Lookups.{cannot, move_within}
use Rattle.conform.proofs.progress.Progress.send.Goals as goal

pub returns-in_default-move_of : goal.returns-in_default-move_of
returns-in_default-move_of c = cannot c.args.file.now c.args.self.now c.args.lane.0 c.args.lane.1 (λ w. puts c.args.lane.2 w) c.args.load (told c.in-Some.carried) c.in-Some.ensures c.in_default-move_of.ensures

pub go-requires : goal.go-requires
go-requires c = move_within c.args.file.now c.args.self.now c.args.lane.0 c.args.lane.1 _ _ _ c.in-Some-move_of.ensures
