-- Runs from the first state.
use Rattle.std.specs.Prelude.{ℕ, ◌≡◌, List, Option, Some, None}
use Rattle.chor_base.specs.declared.event.Event.{Event}
use Rattle.chor_base.specs.declared.event.Entry.{Entry}
use Rattle.chor_base.specs.Meaning.{Hosts}
use Rattle.endpoint_code.specs.declared.endpoints.Endpoints.{Endpoints}
use Rattle.endpoint_code.specs.Network.{NetworkState, first_state}
use Rattle.endpoint_code.specs.Scheduled.{Close, IsScheduled}
use Rattle.endpoint_code.specs.Scheduled as close
use Rattle.net_core.specs.declared.answer.Picked.{Picked}
use Rattle.net_core.specs.declared.answer.Picked.TheVariants as picked
use Rattle.net_core.specs.Picks.{entries_of}
use Rattle.chor_host.specs.Functions.{Function, hosts_in}
use Rattle.endpoint_runs.specs.declared.parts.Schedule.{Schedule}
use Rattle.endpoint_runs.specs.declared.run.Closed.{Closed}
use Rattle.endpoint_runs.specs.declared.run.Ran.{Ran}
use Rattle.endpoint_runs.specs.declared.run.Closed.TheVariants.{Ended, Limit, Stuck}

-- how a run is closed, in the words of networks
abbrev pub close_of : Closed → Close
close_of Ended = close.Ended
close_of Limit = close.Limit
close_of (Stuck p why) = close.Stuck p why

-- how it is closed where the network answers so; it isn't where there was no memory
abbrev pub close_by : Picked → Option Close
close_by picked.Ended = Some close.Ended
close_by picked.Limit = Some close.Limit
close_by (picked.Stuck p why) = Some (close.Stuck p why)
close_by picked.Memory = None

-- The entries are those of the scheduled run of the programs from their first state, where queues have this capacity, which is closed so
pub record IsRunWithin (capacity : Option ℕ) (e : Endpoints) (hosts : Hosts) (seed steps : ℕ) (entries : List Entry) (close : Close) : Type 0 where
  pub history : List Event
  pub entries_are : entries ≡ entries_of history
  pub last : NetworkState
  pub scheduled : IsScheduled e hosts capacity seed steps (first_state e) 0 history last close

-- the same where queues have none
abbrev pub IsRun : Endpoints → Hosts → ℕ → ℕ → List Entry → Close → Type 0
IsRun = IsRunWithin None

-- what is answered is that run, with what the host functions of a table answer
abbrev pub IsRunOf : List Function → Option ℕ → Schedule → Endpoints → Ran → Type 0
IsRunOf functions capacity s e ran = IsRunWithin capacity e (hosts_in e.names functions) s.seed s.steps ran.history (close_of ran.closed)

-- these are the events, and the run is closed as the network answers
pub record HasRanSo (picked : Picked) (entries : List Entry) (ran : Ran) : Type 0 where
  pub closed : close_by picked ≡ Some (close_of ran.closed)
  pub history : ran.history ≡ entries
