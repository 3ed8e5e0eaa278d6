use Rattle.accepted_files.proofs.Exist.{greatest_there}
use Rattle.accepted_files.proofs.greatest.greatest_sets_exist.Goals as goal

pub returns : goal.returns
returns c procs main a = greatest_there procs main a
