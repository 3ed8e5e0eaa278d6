use Rattle.std.proofs.Common.{◌-◌, length}
use Rattle.chor_host.specs.Functions.{hosts_in}
use Rattle.chor_host.specs.Tables.{functions_of}
use Rattle.net_core.specs.Picks.{Underway}
use Rattle.net_core.proofs.scheduler.Scheduler.run.Given as goal

abbrev pub invariant-loop-self : goal.invariant-loop-self
invariant-loop-self g l = Underway (hosts_in l.fn.self.endpoints.names (functions_of l.hosts)) l.seed l.steps l.fn.self l.self

abbrev pub decreases-loop-self : goal.decreases-loop-self
decreases-loop-self g l = l.steps - length l.self.history
