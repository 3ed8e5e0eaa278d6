-- Runs that workers make.
use Rattle.std.specs.Prelude.{ℕ, ◌≤◌, List, length, Option, All}
use Rattle.chor_base.specs.declared.event.Entry.{Entry}
use Rattle.chor_base.specs.Meaning.{Hosts}
use Rattle.chor_host.specs.Functions.{Function, hosts_in}
use Rattle.endpoint_code.specs.declared.endpoints.Endpoints.{Endpoints}
use Rattle.endpoint_code.specs.Network.{NetworkState}
use Rattle.endpoint_code.specs.NetworkRuns.{IsNetworkRun}
use Rattle.endpoint_code.specs.Scheduled.{Close, Closes}
use Rattle.endpoint_runs.specs.Runs.{close_of}
use Rattle.post_office.specs.Views.{events_of}
use Rattle.post_office.specs.Owners.{IsMadeByOwner}
use Rattle.workers.specs.declared.running.Report.{Report}
use Rattle.workers.specs.Views.{RunView}

-- The entries are a run of the programs from their first state, where queues have this capacity, of at most so many events, each
-- made by the worker that owns a process which makes it; the state after it closes the run so
pub record IsRunBy (workers steps : ℕ) (capacity : Option ℕ) (e : Endpoints) (hosts : Hosts) (entries : List Entry) (close : Close) : Type 0 where
  pub last : NetworkState
  pub run : IsNetworkRun e hosts capacity (events_of entries) last
  pub within : length entries ≤ steps
  pub owned : All (IsMadeByOwner workers e) entries
  pub closes : Closes e capacity steps last (length entries) close

-- a run that is told of is one of these programs, which ask these functions
abbrev pub IsReport : List Function → Option ℕ → ℕ → ℕ → Endpoints → Report → Type 0
IsReport functions capacity workers steps e told = IsRunBy workers steps capacity e (hosts_in e.names functions) told.history (close_of told.close)

-- it is the run that the workers share
abbrev pub IsReportOf : RunView → Report → Type 0
IsReportOf v told = IsRunBy v.workers v.steps v.office.capacity v.office.endpoints v.office.hosts told.history (close_of told.close)
