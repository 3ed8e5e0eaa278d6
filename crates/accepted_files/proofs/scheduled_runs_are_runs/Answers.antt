use Rattle.std.proofs.Common.{◌≡◌, ◌+◌, ◌++◌, length, subst, sym, length-append}
use Rattle.endpoint_code.specs.Network.{NetworkState, first_state}
use Rattle.endpoint_code.specs.NetworkRuns.{IsNetworkRun}
use Rattle.endpoint_code.specs.Scheduled.{Closes, IsScheduled}
use Rattle.endpoint_code.proofs.Chosen.{scheduled_leads}
use Rattle.accepted_files.specs.ClosedRuns.{IsClosedRunOf}
use Rattle.accepted_files.proofs.Closed.{closes_last, leads_on, leads_one}
use Rattle.accepted_files.proofs.scheduled_runs_are_runs.Goals as goal

pub returns : goal.returns
returns c f words checked e is hosts answered cap room given n run seed steps h last close scheduled =
    let leads : IsNetworkRun e hosts cap (given ++ h) last = leads_on e hosts cap given h (first_state e) n last run (scheduled_leads e hosts cap seed steps h n last (length given) close scheduled) in
    let closes : Closes e cap steps last (length (given ++ h)) close = subst (λ k. Closes e cap steps last k close) (sym (length-append given h)) (closes_last e hosts cap seed steps h n last (length given) close scheduled) in
    let is_run : IsClosedRunOf f e hosts cap steps (given ++ h) close = c.closed_runs_are_runs.ensures f words checked e is hosts answered cap room steps (given ++ h) last close leads closes in
    let one : last ≡ is_run.last = leads_one e hosts cap (given ++ h) (first_state e) last is_run.last leads is_run.run in
    record { closed = is_run; from = n; given_run = run; scheduled = subst (λ (k : NetworkState). IsScheduled e hosts cap seed steps n (length given) h k close) one scheduled }
