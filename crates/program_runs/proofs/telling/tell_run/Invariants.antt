use Rattle.std.proofs.Common.{◌+◌, ◌-◌, length}
use Rattle.chor_host.specs.Functions.{hosts_in}
use Rattle.chor_host.specs.Tables.{functions_of}
use Rattle.transcript.specs.Books.{words}
use Rattle.program_runs.proofs.TellingOn.{Telling}
use Rattle.program_runs.proofs.telling.tell_run.Given as goal

abbrev pub invariant-loop-lines : goal.invariant-loop-lines
invariant-loop-lines g l = Telling (words l.book) (hosts_in l.fn.run.network.endpoints.names (functions_of l.hosts)) l.fn.run l.run l.lines

abbrev pub decreases-loop-lines : goal.decreases-loop-lines
decreases-loop-lines g l = l.fn.run.schedule.steps - (l.run.before + length l.run.network.history)
