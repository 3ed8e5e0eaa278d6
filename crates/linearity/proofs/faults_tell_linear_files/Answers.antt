use Rattle.linearity.proofs.Judged.{linear_has_none, none_is_linear}
use Rattle.linearity.proofs.faults_tell_linear_files.Goals as goal

pub returns-clause-linear : goal.returns-clause-linear
returns-clause-linear c = linear_has_none

pub returns-clause-free : goal.returns-clause-free
returns-clause-free c = none_is_linear
