use Rattle.std.proofs.Common.{◌∙◌, length, sym, ap, refl}
use Rattle.endpoint_code.specs.Scheduled.{ended, limit}
use Rattle.net_core.proofs.Runs.{picked_steps}
use Rattle.endpoint_runs.proofs.StepByStep.{stuck_turns}
use Rattle.endpoint_runs.proofs.stepwise.turn.Goals as goal

pub returns-then-finished : goal.returns-then-finished
returns-then-finished g c = record { same = record { endpoints = refl; capacity = refl; state = refl; history = refl; stopped = refl; room = λ p h. h }; closes = ended (sym c.finished.ensures ∙ c.if-finished.true) }

pub returns-then-history-schedule : goal.returns-then-history-schedule
returns-then-history-schedule g c = record {
  same = record { endpoints = refl; capacity = refl; state = refl; history = refl; stopped = refl; room = λ p h. h };
  closes = limit (sym c.finished.ensures ∙ c.if-finished.false) (sym (ap length c.history.ensures) ∙ c.if-history-schedule.true);
}

pub returns-in_default : goal.returns-in_default
returns-in_default g c =
    let v = c.args.network.now in
    stuck_turns _ c.args.schedule.seed c.args.schedule.steps v c.stuck.new.network c.stuck.result c.stuck.ensures (λ h. c.if-history-schedule.false (ap length c.history.ensures ∙ h)) (c.pick.ensures.none.0 c.in_default.is)

pub step-requires-clause-there : goal.step-requires-clause-there
step-requires-clause-there g c = let v = c.args.network.now in (picked_steps v.endpoints v.capacity v.state c.args.schedule.seed (length v.history) c.in-Some.pid (sym c.pick.ensures.pick ∙ c.in-Some.is)).0
