-- Each run goes on by the pick rule until it is closed.
use Rattle.std.proofs.Common.{◌≡◌, ℕ, zero, suc, ◌+◌, ◌-◌, ◌≤◌, Bool, true, false, List, [], ◌∷◌, ◌++◌, length, refl, sym, subst, Option, Some, None, arith, length-append}
use Rattle.std.specs.Prelude.{◌≢◌, All}
use Rattle.chor_base.specs.declared.event.Event.{Event}
use Rattle.chor_base.specs.declared.event.Why.{Why}
use Rattle.chor_base.specs.Meaning.{Hosts}
use Rattle.chor_host.specs.Functions.{Function, hosts_in}
use Rattle.endpoint_code.specs.declared.endpoints.Endpoints.{Endpoints}
use Rattle.endpoint_code.specs.Network.{NetworkState, first_state}
use Rattle.endpoint_code.specs.NetworkRuns.{NetworkLeads, IsNetworkRun, all_ended, none_can_step}
use Rattle.endpoint_code.specs.Scheduled.{listed, picked, first_waiting, Close, Closes, IsScheduled}
use Rattle.endpoint_code.specs.Scheduled as close
use Rattle.endpoint_code.proofs.Chosen.{chooses_steps, scheduled_leads}
use Rattle.endpoint_machine.specs.Bound.{IsBound}
use Rattle.net_core.proofs.Leaders.{none_listed}
use Rattle.net_core.specs.Picks.{GoesOn}
use Rattle.net_core.specs.Picks as pick
use Rattle.net_core.proofs.Runs.{some_waiting, first_waits, picked_steps, none_picked, scheduled_then}
use Rattle.net_core.proofs.Turns.{turn}
use Rattle.unfinished_runs.specs.Continuing.{AreRunnable, HasContinuation, CanBeClosed, CanBeScheduled}
use Rattle.unfinished_runs.proofs.Choosing.{makes_event}
use Rattle.unfinished_runs.proofs.Reached.{step_bound, run_bound}
use Rattle.unfinished_runs.proofs.Standing.{each_stands}

-- ---- where no process can step

stuck_closes : (e : Endpoints) (cap : Option ℕ) (steps : ℕ) (n : NetworkState) (events : ℕ) → all_ended e n.machines ≡ false → events ≢ steps → none_can_step e cap n n.machines ≡ true → (c : Close) × Closes e cap steps n events c
stuck_closes e cap steps n events going before none = go (first_waiting e cap n) refl
  where
    go : (o : Option (ℕ × Option Why)) → first_waiting e cap n ≡ o → (c : Close) × Closes e cap steps n events c
    go None i = absurd (some_waiting e cap n 0 n.machines going i)
    go (Some (p, None)) i = absurd (first_waits e cap n p None i none refl)
    go (Some (p, Some why)) i = (close.Stuck p why, close.stuck before none i)

-- ---- event by event

module _ (functions : List Function) (e : Endpoints) (runnable : AreRunnable functions e) (cap : Option ℕ) (seed steps : ℕ) where
  abbrev meanings : Hosts
  meanings = hosts_in e.names functions

  abbrev Goes : NetworkState → ℕ → Type 0
  Goes n events = HasContinuation e meanings cap seed steps n events

  closed_so : (n : NetworkState) (events : ℕ) (c : Close) → Closes e cap steps n events c → Goes n events
  closed_so n events c closes = record { more = []; last = n; close = c; scheduled = close.closed closes }

  -- one event more, and what follows it
  turned : (n : NetworkState) (events : ℕ) → All (IsBound e) n.machines → all_ended e n.machines ≡ false → events ≢ steps → ((m : NetworkState) → All (IsBound e) m.machines → Goes m (suc events)) → Goes n events
  turned n events all going before again = go (picked e cap seed events n) refl
    where
      go : (o : Option ℕ) → picked e cap seed events n ≡ o → Goes n events
      go None i =
          let none = none_listed e cap n (each_stands e runnable.faultless.faultless n all) (none_picked (listed e cap n) (seed + events) i) in
          let c = stuck_closes e cap steps n events going before none in
          closed_so n events c.0 c.1
      go (Some p) i =
          let able = picked_steps e cap n seed events p i in
          let t = turn n.machines p able.0 in
          let x = makes_event functions e runnable cap n all p able.1 t.item t.there in
          let step = chooses_steps e meanings cap n p x.event x.after x.chooses in
          let rest = again x.after (step_bound e runnable.faultless.faultless meanings cap n x.after x.event all step) in
          record { more = x.event ∷ rest.more; last = rest.last; close = rest.close; scheduled = close.goes going before i x.chooses rest.scheduled }

  goes_on : (left : ℕ) (n : NetworkState) (events : ℕ) → events + left ≡ steps → All (IsBound e) n.machines → Goes n events
  goes_on zero n events count all = go (all_ended e n.machines) refl
    where
      go : (b : Bool) → all_ended e n.machines ≡ b → Goes n events
      go true i = closed_so n events close.Ended (close.ended i)
      go false i = closed_so n events close.Limit (close.limit i (omega arith))
  goes_on (suc left) n events count all = go (all_ended e n.machines) refl (λ m b. goes_on left m (suc events) (omega arith) b)
    where
      go : (b : Bool) → all_ended e n.machines ≡ b → ((m : NetworkState) → All (IsBound e) m.machines → Goes m (suc events)) → Goes n events
      go true i again = closed_so n events close.Ended (close.ended i)
      go false i again = turned n events all i (λ (same : events ≡ steps). omega arith) again

  pub run_goes_on : (h : List Event) (n : NetworkState) → IsNetworkRun e meanings cap h n → length h ≤ steps → Goes n (length h)
  run_goes_on h n run fits = goes_on (steps - length h) n (length h) (omega arith) (run_bound e runnable.faultless.faultless meanings cap h n run)

-- ---- the closed run

leads_on : (e : Endpoints) (hosts : Hosts) (cap : Option ℕ) (xs ys : List Event) (n m k : NetworkState) → NetworkLeads e hosts cap n xs m → NetworkLeads e hosts cap m ys k → NetworkLeads e hosts cap n (xs ++ ys) k
leads_on e hosts cap [] ys n m k a b = subst (λ (w : NetworkState). NetworkLeads e hosts cap w ys k) (sym a) b
leads_on e hosts cap (x ∷ xs) ys n m k a b = (a.0, a.1, leads_on e hosts cap xs ys a.0 m k a.2 b)

-- the last state of a scheduled run closes it
closes_last : (e : Endpoints) (hosts : Hosts) (cap : Option ℕ) (seed steps : ℕ) (h : List Event) (n last : NetworkState) (events : ℕ) (c : Close) → IsScheduled e hosts cap seed steps n events h last c → (k : ℕ) → events + length h ≡ k → Closes e cap steps last k c
closes_last e hosts cap seed steps h n last events c (close.closed closes) k count = subst (λ (i : ℕ). Closes e cap steps last i c) (let same : events ≡ k = omega arith in same) closes
closes_last e hosts cap seed steps h n last events c (close.goes {m} {xs} a b picks chooses rest) k count = closes_last e hosts cap seed steps xs m last (suc events) c rest k (omega arith)

pub run_can_be_closed : (functions : List Function) (e : Endpoints) → AreRunnable functions e → (cap : Option ℕ) (h : List Event) (n : NetworkState) → IsNetworkRun e (hosts_in e.names functions) cap h n → (steps : ℕ) → length h ≤ steps → CanBeClosed e (hosts_in e.names functions) cap steps h
run_can_be_closed functions e runnable cap h n run steps fits =
    let hosts = hosts_in e.names functions in
    let g = run_goes_on functions e runnable cap 0 steps h n run fits in
    record {
      more = g.more;
      last = g.last;
      close = g.close;
      run = leads_on e hosts cap h g.more (first_state e) n g.last run (scheduled_leads e hosts cap 0 steps g.more n g.last (length h) g.close g.scheduled);
      closes = closes_last e hosts cap 0 steps g.more n g.last (length h) g.close g.scheduled (length (h ++ g.more)) (sym (length-append h g.more));
    }

-- ---- the scheduled run

-- events that follow by the pick rule lead there
gone_leads : (e : Endpoints) (hosts : Hosts) (cap : Option ℕ) (seed steps : ℕ) (h : List Event) (n m : NetworkState) (events : ℕ) → GoesOn e hosts cap seed steps n events h m → NetworkLeads e hosts cap n h m
gone_leads e hosts cap seed steps h n m events pick.stays = refl
gone_leads e hosts cap seed steps h n m events (pick.goes {m = mid} {p = p} {x = x} {xs = xs} a b picks chooses rest) =
    (mid, chooses_steps e hosts cap n p x mid chooses, gone_leads e hosts cap seed steps xs mid m (suc events) rest)

-- there are no more of them than asked for
gone_within : (e : Endpoints) (hosts : Hosts) (cap : Option ℕ) (seed steps : ℕ) (h : List Event) (n m : NetworkState) (events : ℕ) → GoesOn e hosts cap seed steps n events h m → events ≤ steps → events + length h ≤ steps
gone_within e hosts cap seed steps h n m events pick.stays fits = omega arith
gone_within e hosts cap seed steps h n m events (pick.goes {m = mid} {xs = xs} a before picks chooses rest) fits =
    let next : suc events ≤ steps = one_more events steps before fits in
    let all = gone_within e hosts cap seed steps xs mid m (suc events) rest next in
    omega arith
  where
    one_more : (i k : ℕ) → i ≢ k → i ≤ k → suc i ≤ k
    one_more i k other le = omega arith

pub run_can_be_scheduled : (functions : List Function) (e : Endpoints) → AreRunnable functions e → (cap : Option ℕ) (seed steps : ℕ) (h : List Event) (n : NetworkState) → GoesOn e (hosts_in e.names functions) cap seed steps (first_state e) 0 h n → CanBeScheduled e (hosts_in e.names functions) cap seed steps h
run_can_be_scheduled functions e runnable cap seed steps h n gone =
    let hosts = hosts_in e.names functions in
    let within = gone_within e hosts cap seed steps h (first_state e) n 0 gone (omega arith) in
    let fits : length h ≤ steps = omega arith in
    let g = run_goes_on functions e runnable cap seed steps h n (gone_leads e hosts cap seed steps h (first_state e) n 0 gone) fits in
    let count : length h ≡ 0 + length h = omega arith in
    record { more = g.more; last = g.last; close = g.close; scheduled = scheduled_then gone g.last (length h) g.more g.close count g.scheduled }
