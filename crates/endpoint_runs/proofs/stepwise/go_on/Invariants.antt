use Rattle.std.proofs.Common.{◌-◌, length}
use Rattle.chor_host.specs.Functions.{hosts_in}
use Rattle.chor_host.specs.Tables.{functions_of}
use Rattle.net_core.specs.Picks.{Underway}
use Rattle.endpoint_runs.proofs.stepwise.go_on.Given as goal

abbrev pub invariant-loop-picked : goal.invariant-loop-picked
invariant-loop-picked g l = Underway (hosts_in l.fn.network.endpoints.names (functions_of l.hosts)) l.schedule.seed l.schedule.steps l.fn.network l.network

abbrev pub decreases-loop-picked : goal.decreases-loop-picked
decreases-loop-picked g l = l.schedule.steps - length l.network.history
