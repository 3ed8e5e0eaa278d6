-- A run by the pick rule, cut after some of its events.
use Rattle.std.proofs.Common.{◌≡◌, ◌∙◌, ◌+◌, ◌≤◌, ℕ, suc, List, [], ◌∷◌, ◌++◌, length, length-append, refl, ap, subst, Option, arith}
use Rattle.chor_base.specs.declared.event.Event.{Event}
use Rattle.chor_base.specs.Meaning.{Hosts}
use Rattle.endpoint_code.specs.declared.endpoints.Endpoints.{Endpoints}
use Rattle.endpoint_code.specs.Network.{NetworkState, first_state}
use Rattle.endpoint_code.specs.NetworkRuns.{NetworkLeads}
use Rattle.endpoint_code.specs.Scheduled.{Close, IsScheduled, goes}
use Rattle.endpoint_code.proofs.Chosen.{chooses_steps}
use Rattle.endpoint_runs.specs.declared.run.Ran.{Ran}
use Rattle.endpoint_runs.specs.Runs.{IsRunWithin, close_of}
use Rattle.endpoint_runs.proofs.InParts.{goes_to_close, goes_within}
use Rattle.net_core.specs.Picks.{entries_of}
use Rattle.resume.specs.Resumes.{IsResumed, most_events}
use Rattle.resume.specs.declared.resuming.Plan.{Plan}

module _ (e : Endpoints) (hosts : Hosts) (cap : Option ℕ) (seed steps : ℕ) (after : List Event) (last : NetworkState) (c : Close) where
  -- where the front leads, and what follows from there
  record Cut (given : List Event) (n : NetworkState) (k : ℕ) : Type 0 where
    from : NetworkState
    leads : NetworkLeads e hosts cap n given from
    rest : IsScheduled e hosts cap seed steps from (k + length given) after last c

  cut : (given : List Event) (n : NetworkState) (k : ℕ) → IsScheduled e hosts cap seed steps n k (given ++ after) last c → Cut given n k
  cut [] n k run = let same : k ≡ k + 0 = omega arith in record { from = n; leads = refl; rest = subst (λ (i : ℕ). IsScheduled e hosts cap seed steps n i after last c) same run }
  cut (x ∷ xs) n k (goes {m = m} {p = p} a b picks chooses rest) =
      let r = cut xs m (suc k) rest in
      let same : suc k + length xs ≡ k + suc (length xs) = omega arith in
      record {
        from = r.from;
        leads = (m, chooses_steps e hosts cap n p x m chooses, r.leads);
        rest = subst (λ (i : ℕ). IsScheduled e hosts cap seed steps r.from i after last c) same r.rest;
      }

pub front_resumed : (e : Endpoints) (hosts : Hosts) (plan : Plan) (ran : Ran) (run : IsRunWithin plan.capacity e hosts plan.schedule.seed plan.schedule.steps ran.history (close_of ran.closed))
    → (given after : List Event) → run.history ≡ given ++ after → IsResumed e hosts plan given ran
front_resumed e hosts plan ran run given after parts =
    let s = plan.schedule in
    let whole = subst (λ (h : List Event). IsScheduled e hosts plan.capacity s.seed s.steps (first_state e) 0 h run.last (close_of ran.closed)) parts run.scheduled in
    let r = cut e hosts plan.capacity s.seed s.steps after run.last (close_of ran.closed) given (first_state e) 0 whole in
    let begun : 0 + length given ≡ length given = omega arith in
    let from_there = subst (λ (i : ℕ). IsScheduled e hosts plan.capacity s.seed s.steps r.from i after run.last (close_of ran.closed)) begun r.rest in
    let all : 0 + length (given ++ after) ≤ s.steps = goes_within (omega arith) (goes_to_close whole) in
    let limit : s.steps ≡ most_events s (length given) = omega (arith, all, length-append given after) in
    record {
      from = r.from;
      given_run = r.leads;
      after = after;
      history = run.entries_are ∙ ap entries_of parts;
      last = run.last;
      scheduled = subst (λ (k : ℕ). IsScheduled e hosts plan.capacity s.seed k r.from (length given) after run.last (close_of ran.closed)) limit from_there;
    }
