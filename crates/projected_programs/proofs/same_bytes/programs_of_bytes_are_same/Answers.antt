use Rattle.projected_programs.proofs.Programs.{are_same}
use Rattle.projected_programs.proofs.same_bytes.programs_of_bytes_are_same.Goals as goal

pub returns : goal.returns
returns g hosts bytes e f p q = are_same hosts bytes e f p q
