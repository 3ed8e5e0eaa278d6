use Rattle.same_programs.proofs.Waiting.{stands_same, all_same}
use Rattle.same_programs.proofs.processes_stand_alike.Goals as goal

pub returns-clause-each : goal.returns-clause-each
returns-clause-each g e e' cap n n' c same = stands_same e e' c cap n n' same n.machines n'.machines same.machines

pub returns-clause-all : goal.returns-clause-all
returns-clause-all g e e' n n' c same = all_same e e' c n.machines n'.machines same.machines
