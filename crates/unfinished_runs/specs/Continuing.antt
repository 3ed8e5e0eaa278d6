-- That each run of endpoint programs without faults can be continued until it is closed (this project's own).
use Rattle.std.specs.Prelude.{ℕ, ◌≤◌, ◌++◌, List, length, Option}
use Rattle.chor_base.specs.declared.event.Event.{Event}
use Rattle.chor_base.specs.Meaning.{Hosts}
use Rattle.chor_base.specs.Words.{AllDistinct}
use Rattle.chor_host.specs.Functions.{Function, names_of, hosts_in, AreAnswerable}
use Rattle.endpoint_code.specs.declared.endpoints.Endpoints.{Endpoints}
use Rattle.endpoint_code.specs.Faults.{IsFaultlessWith}
use Rattle.endpoint_code.specs.Network.{NetworkState, first_state}
use Rattle.endpoint_code.specs.NetworkRuns.{IsNetworkRun}
use Rattle.endpoint_code.specs.Scheduled.{Close, Closes, IsScheduled}
use Rattle.net_core.specs.Picks.{GoesOn}

-- Programs without faults that may ask these host functions: no name stands twice in their table, and each function answers
pub record AreRunnable (functions : List Function) (e : Endpoints) : Type 0 where
  pub faultless : IsFaultlessWith (names_of functions) e
  pub distinct : AllDistinct e.names
  pub answers : AreAnswerable functions

-- From a state after so many events, further events follow by the pick rule until the run is closed
pub record HasContinuation (e : Endpoints) (hosts : Hosts) (cap : Option ℕ) (seed steps : ℕ) (n : NetworkState) (events : ℕ) : Type 0 where
  pub more : List Event
  pub last : NetworkState
  pub close : Close
  pub scheduled : IsScheduled e hosts cap seed steps n events more last close

-- A run of at most so many events is a prefix of one that is closed
pub record CanBeClosed (e : Endpoints) (hosts : Hosts) (cap : Option ℕ) (steps : ℕ) (h : List Event) : Type 0 where
  pub more : List Event
  pub last : NetworkState
  pub close : Close
  pub run : IsNetworkRun e hosts cap (h ++ more) last
  pub closes : Closes e cap steps last (length (h ++ more)) close

-- Events of a scheduled run are a prefix of the whole one, which is closed
pub record CanBeScheduled (e : Endpoints) (hosts : Hosts) (cap : Option ℕ) (seed steps : ℕ) (h : List Event) : Type 0 where
  pub more : List Event
  pub last : NetworkState
  pub close : Close
  pub scheduled : IsScheduled e hosts cap seed steps (first_state e) 0 (h ++ more) last close

-- each run that has no more events than asked for goes on by the pick rule, whatever its seed
abbrev pub RunsGoOn : Type 0
RunsGoOn =
    (functions : List Function) (e : Endpoints) → AreRunnable functions e → (capacity : Option ℕ) (h : List Event) (n : NetworkState)
    → IsNetworkRun e (hosts_in e.names functions) capacity h n → (seed steps : ℕ) → length h ≤ steps
    → HasContinuation e (hosts_in e.names functions) capacity seed steps n (length h)

-- so it is a prefix of a closed run
abbrev pub RunsCanBeClosed : Type 0
RunsCanBeClosed =
    (functions : List Function) (e : Endpoints) → AreRunnable functions e → (capacity : Option ℕ) (h : List Event) (n : NetworkState)
    → IsNetworkRun e (hosts_in e.names functions) capacity h n → (steps : ℕ) → length h ≤ steps
    → CanBeClosed e (hosts_in e.names functions) capacity steps h

-- and events that follow from the first state by the pick rule are a prefix of the scheduled run
abbrev pub ScheduledRunsGoOn : Type 0
ScheduledRunsGoOn =
    (functions : List Function) (e : Endpoints) → AreRunnable functions e → (capacity : Option ℕ) (seed steps : ℕ) (h : List Event) (n : NetworkState)
    → GoesOn e (hosts_in e.names functions) capacity seed steps (first_state e) 0 h n
    → CanBeScheduled e (hosts_in e.names functions) capacity seed steps h
