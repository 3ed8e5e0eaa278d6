use Rattle.accepted_files.proofs.Realizes.{realizes}
use Rattle.accepted_files.proofs.following.projection_realizes.Goals as goal

pub returns : goal.returns
returns c0 e f sets lists is = realizes e f sets lists is
