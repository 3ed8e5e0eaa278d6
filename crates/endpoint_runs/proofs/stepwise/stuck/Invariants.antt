use Rattle.endpoint_runs.proofs.StepByStep.{Looks}
use Rattle.endpoint_runs.proofs.stepwise.stuck.Given as goal

abbrev pub invariant-loop-pid : goal.invariant-loop-pid
invariant-loop-pid g l = Looks l.fn.network l.network l.pid
