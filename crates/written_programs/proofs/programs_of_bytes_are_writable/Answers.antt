use Rattle.written_programs.proofs.Programs.{writable}
use Rattle.written_programs.proofs.programs_of_bytes_are_writable.Goals as goal

pub returns : goal.returns
returns g hosts bytes e a = writable hosts bytes e a
