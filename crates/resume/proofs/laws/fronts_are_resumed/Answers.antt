use Rattle.resume.proofs.Fronts.{front_resumed}
use Rattle.resume.proofs.laws.fronts_are_resumed.Goals as goal

pub returns : goal.returns
returns c e hosts plan ran run given after parts = front_resumed e hosts plan ran run given after parts
