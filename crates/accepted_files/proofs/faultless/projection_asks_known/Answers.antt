use Rattle.accepted_files.proofs.AskedWhole.{bodies_known}
use Rattle.accepted_files.proofs.faultless.projection_asks_known.Goals as goal

pub returns : goal.returns
returns x f words clean e pr = bodies_known f words clean e pr
