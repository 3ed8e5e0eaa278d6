use Rattle.projection.specs.Examples.ServiceTwice.{endpoints}
use Rattle.accepted_files.specs.Example.{file}
use Rattle.accepted_files.proofs.There.{tree_there, kept_there, code_there, inside_there, numbered_there}
use Rattle.accepted_files.proofs.Example.{checked, answered, kept_without, projected}
use Rattle.accepted_files.proofs.worked.service_started_twice_is_checked.Goals as goal

pub returns-clause-checked : goal.returns-clause-checked
returns-clause-checked c tree kept = checked tree kept

pub returns-clause-answered : goal.returns-clause-answered
returns-clause-answered c tree kept hosts = answered tree kept hosts

pub returns-clause-projected : goal.returns-clause-projected
returns-clause-projected c tree kept code inside numbered =
    projected tree kept code inside numbered (c.service_started_twice.ensures.whole tree (kept_without tree kept) code inside numbered)

pub returns-clause-there : goal.returns-clause-there
returns-clause-there c = record {
  file = file tree_there kept_there;
  endpoints = endpoints code_there inside_there numbered_there;
  checked = checked tree_there kept_there;
  answered = λ hosts. answered tree_there kept_there hosts;
  projects = projected tree_there kept_there code_there inside_there numbered_there
      (c.service_started_twice.ensures.whole tree_there (kept_without tree_there kept_there) code_there inside_there numbered_there);
}
