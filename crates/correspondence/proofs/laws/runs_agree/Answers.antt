use Rattle.correspondence.proofs.Capacity.{network_run_is_run, run_is_network_run}
use Rattle.correspondence.proofs.laws.runs_agree.Goals as goal

pub returns-clause-to : goal.returns-clause-to
returns-clause-to c0 e f sets lists realizes hosts cap h last run = network_run_is_run f e sets lists hosts realizes.sound realizes.begins realizes.no_call_first cap h last run

pub returns-clause-back : goal.returns-clause-back
returns-clause-back c0 e f sets lists realizes hosts cap h run = run_is_network_run f e sets lists hosts realizes.sound realizes.begins realizes.no_call_first cap h run
