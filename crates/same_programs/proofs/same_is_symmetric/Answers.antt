use Rattle.same_programs.proofs.Selves.{programs_self}
use Rattle.same_programs.proofs.Turned.{programs_turned}
use Rattle.same_programs.proofs.same_is_symmetric.Goals as goal

pub returns-clause-reflexive : goal.returns-clause-reflexive
returns-clause-reflexive c e = programs_self e

pub returns-clause-symmetric : goal.returns-clause-symmetric
returns-clause-symmetric c e e' s = programs_turned e e' s
