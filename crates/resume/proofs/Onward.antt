-- The run that goes on from a network.
use Rattle.std.proofs.Common.{◌≡◌, ◌∙◌, ℕ, List, ◌++◌, length, sym, ap, subst, Option, Some}
use Rattle.std.proofs.lemmas.List.{map-append}
use Rattle.chor_base.specs.declared.event.Entry.{Entry}
use Rattle.chor_base.specs.declared.event.Event.{Event}
use Rattle.chor_base.specs.Meaning.{Hosts}
use Rattle.chor_host.specs.Functions.{Function, hosts_in}
use Rattle.endpoint_code.specs.declared.endpoints.Endpoints.{Endpoints}
use Rattle.endpoint_code.specs.Scheduled.{Close, IsScheduled}
use Rattle.endpoint_code.specs.Scheduled as close
use Rattle.endpoint_runs.specs.declared.parts.Schedule.{Schedule}
use Rattle.endpoint_runs.specs.declared.run.Ran.{Ran}
use Rattle.endpoint_runs.specs.Runs.{close_by, close_of}
use Rattle.net_core.specs.declared.answer.Picked.{Picked}
use Rattle.net_core.specs.declared.answer.Picked.TheVariants as picked
use Rattle.net_core.specs.Picks.{entries_of, HasRun, Runs}
use Rattle.net_core.specs.Views.{NetworkView}
use Rattle.net_core.proofs.Runs.{length-entries_of}
use Rattle.resume.specs.Resumes.{HasGoneOn, IsResumed, StandsAfter, most_events}
use Rattle.resume.specs.declared.resuming.Plan.{Plan}

-- a network that has run and is closed so
has_run : (hosts : Hosts) (seed steps : ℕ) (old : NetworkView) (p : Picked) (new : NetworkView) (c : Close) → Runs hosts seed steps old p new → close_by p ≡ Some c → HasRun hosts seed steps old new c
has_run hosts seed steps old picked.Ended new c run e = let same : close.Ended ≡ c = cc in subst (HasRun hosts seed steps old new) same run
has_run hosts seed steps old picked.Limit new c run e = let same : close.Limit ≡ c = cc in subst (HasRun hosts seed steps old new) same run
has_run hosts seed steps old (picked.Stuck p why) new c run e = let same : close.Stuck p why ≡ c = cc in subst (HasRun hosts seed steps old new) same run
has_run hosts seed steps old picked.Memory new c run e = absurd cc

pub gone_on : (hosts : Hosts) (s : Schedule) (steps : ℕ) (old new : NetworkView) (p : Picked) (ran : Ran) → steps ≡ most_events s (length old.history) → Runs hosts s.seed steps old p new → close_by p ≡ Some (close_of ran.closed) → ran.history ≡ new.history → HasGoneOn hosts s old ran
gone_on hosts s steps old new p ran limit runs closed kept =
    let r = has_run hosts s.seed steps old p new (close_of ran.closed) runs closed in
    record {
      after = r.events;
      history = kept ∙ r.history;
      last = new.state;
      scheduled = subst (λ (k : ℕ). IsScheduled old.endpoints hosts old.capacity s.seed k old.state (length old.history) r.events new.state (close_of ran.closed)) limit r.run;
    }

-- after given events it is the run that begins with them
pub resumed : (functions : List Function) (e : Endpoints) (plan : Plan) (given : List Event) (v : NetworkView) (ran : Ran)
    → StandsAfter e (hosts_in e.names functions) plan.capacity given v → HasGoneOn (hosts_in v.endpoints.names functions) plan.schedule v ran → IsResumed e (hosts_in e.names functions) plan given ran
resumed functions e plan given v ran at on =
    let s = plan.schedule in
    let n = v.state in
    let count : length v.history ≡ length given = ap length at.history ∙ length-entries_of given in
    let own = subst (λ (x : Endpoints). IsScheduled x (hosts_in x.names functions) v.capacity s.seed (most_events s (length v.history)) n (length v.history) on.after on.last (close_of ran.closed)) at.endpoints on.scheduled in
    let capped = subst (λ (c : Option ℕ). IsScheduled e (hosts_in e.names functions) c s.seed (most_events s (length v.history)) n (length v.history) on.after on.last (close_of ran.closed)) at.capacity own in
    record {
      from = n;
      given_run = at.run;
      after = on.after;
      history = on.history ∙ ap (λ (es : List Entry). es ++ entries_of on.after) at.history ∙ sym (map-append _ given on.after);
      last = on.last;
      scheduled = subst (λ (k : ℕ). IsScheduled e (hosts_in e.names functions) plan.capacity s.seed (most_events s k) n k on.after on.last (close_of ran.closed)) count capped;
    }
