-- The run that a network makes from its first state.
use Rattle.std.proofs.Common.{◌≡◌, ◌+◌, ◌-◌, ◌*◌, ◌^◌, ◌<◌, ℕ, List, [], ◌++◌, length, sym, ap, ◌∙◌, subst, Some, Option, arith}
use Rattle.chor_base.specs.declared.event.Entry.{Entry}
use Rattle.chor_base.specs.Meaning.{Hosts}
use Rattle.endpoint_code.specs.declared.endpoints.Endpoints.{Endpoints}
use Rattle.endpoint_code.specs.Network.{NetworkState, first_state}
use Rattle.endpoint_code.specs.Scheduled.{Close, IsScheduled}
use Rattle.net_core.specs.declared.answer.Picked.{Picked}
use Rattle.net_core.specs.declared.answer.Picked.TheVariants as picked
use Rattle.net_core.specs.Picks.{entries_of, HasRun, Runs}
use Rattle.net_core.specs.Steps.{FitsMore, most_served}
use Rattle.net_core.specs.Views.{NetworkView}
use Rattle.chor_host.specs.Functions.{Function, hosts_in}
use Rattle.endpoint_runs.specs.declared.parts.Schedule.{Schedule}
use Rattle.endpoint_runs.specs.declared.run.Ran.{Ran}
use Rattle.endpoint_runs.specs.Runs.{IsRunOf, HasRanSo, close_of, close_by}

-- ---- numbers

-- all events fit before the first one
pub all_fit : (v : NetworkView) (steps : ℕ) → v.history ≡ [] → FitsMore v steps → FitsMore v (steps - length v.history)
all_fit v steps history fits =
    let none : length v.history ≡ 0 = ap length history in
    subst (FitsMore v) (omega (arith, none)) fits

-- what fits hangs on the programs and the state alone
pub fits_alike : (old new : NetworkView) (k : ℕ) → new.endpoints ≡ old.endpoints → new.state ≡ old.state → FitsMore old k → FitsMore new k
fits_alike old new k programs state f = record {
  sid = subst (λ (n : NetworkState). n.sid + k < 2 ^ 32) (sym state) f.sid;
  machines =
      subst (λ (e : Endpoints). length new.state.machines + k * most_served e.channels < 2 ^ 32) (sym programs)
      (subst (λ (n : NetworkState). length n.machines + k * most_served old.endpoints.channels < 2 ^ 32) (sym state) f.machines);
}

-- ---- the run

has_run : (hosts : Hosts) (seed steps : ℕ) (old : NetworkView) (p : Picked) (new : NetworkView) (c : Close) → Runs hosts seed steps old p new → close_by p ≡ Some c → HasRun hosts seed steps old new c
has_run hosts seed steps old picked.Ended new c run e = let same : Close.Ended ≡ c = cc in subst (HasRun hosts seed steps old new) same run
has_run hosts seed steps old picked.Limit new c run e = let same : Close.Limit ≡ c = cc in subst (HasRun hosts seed steps old new) same run
has_run hosts seed steps old (picked.Stuck p why) new c run e = let same : Close.Stuck p why ≡ c = cc in subst (HasRun hosts seed steps old new) same run
has_run hosts seed steps old picked.Memory new c run e = absurd cc

pub run_is : (functions : List Function) (capacity : Option ℕ) (schedule : Schedule) (e : Endpoints) (old new : NetworkView) (p : Picked) (ran : Ran)
    → old.endpoints ≡ e → old.capacity ≡ capacity → old.state ≡ first_state e → old.history ≡ [] → Runs (hosts_in old.endpoints.names functions) schedule.seed schedule.steps old p new → HasRanSo p new.history ran → IsRunOf functions capacity schedule e ran
run_is functions cap s e old new p ran programs capacity state history runs kept =
    let hosts = hosts_in old.endpoints.names functions in
    let c = close_of ran.closed in
    let r = has_run hosts s.seed s.steps old p new c runs kept.closed in
    let free = subst (λ (k : Option ℕ). IsScheduled old.endpoints hosts k s.seed s.steps old.state (length old.history) r.events new.state c) capacity r.run in
    let counted = subst (λ (es : List Entry). IsScheduled old.endpoints hosts cap s.seed s.steps old.state (length es) r.events new.state c) history free in
    let begun = subst (λ (n : NetworkState). IsScheduled old.endpoints hosts cap s.seed s.steps n 0 r.events new.state c) state counted in
    let run = subst (λ (x : Endpoints). IsScheduled x (hosts_in x.names functions) cap s.seed s.steps (first_state e) 0 r.events new.state c) programs begun in
    record { history = r.events; entries_are = kept.history ∙ r.history ∙ ap (λ (es : List Entry). es ++ entries_of r.events) history; last = new.state; scheduled = run }
