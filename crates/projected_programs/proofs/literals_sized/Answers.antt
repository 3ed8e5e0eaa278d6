use Rattle.projected_programs.proofs.Literals.{all_sized}
use Rattle.projected_programs.proofs.literals_sized.Goals as goal

pub returns : goal.returns
returns c hosts bytes e p = all_sized p
