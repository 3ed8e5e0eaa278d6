use Rattle.accepted_files.proofs.Happens.{nothing_happens}
use Rattle.accepted_files.proofs.nothing_happens.Goals as goal

pub returns : goal.returns
returns c = nothing_happens
