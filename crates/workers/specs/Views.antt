-- What contracts see of a run that workers share.
use Rattle.std.specs.Prelude.{ℕ, ◌≡◌, ◌≤◌, ◌+◌, ◌*◌, Bool, true, List, length, Some, slice_get, All}
use Rattle.chor_base.specs.declared.event.Entry.{Entry}
use Rattle.endpoint_code.specs.Network.{Machine, NetworkState}
use Rattle.endpoint_code.specs.NetworkRuns.{has_ended}
use Rattle.endpoint_code.specs.Scheduled.{Closes}
use Rattle.endpoint_runs.specs.declared.run.Closed.{Closed as Closing}
use Rattle.endpoint_runs.specs.Runs.{close_of}
use Rattle.post_office.specs.Owners.{IsMadeByOwner}
use Rattle.post_office.specs.Views.{OfficeView}
use Rattle.crew.specs.Turns.{FitsSteps}
use Rattle.workers.specs.declared.origin.Origin.{Origin}
use Rattle.workers.specs.declared.run.Task.{Task}
use Rattle.workers.specs.declared.run.Progress.{Progress}
use Rattle.workers.specs.declared.run.Progress.TheVariants.{Open, Closed, Memory}
use Rattle.workers.specs.Turns.{LeadsTo}

-- The office, the number of workers, and how many events are asked for. Then what workers have found of the run, and of each
-- worker whether all its processes have ended at the end of a run of as many events
pub record RunView : Type 0 where
  pub office : OfficeView
  pub workers : ℕ
  pub steps : ℕ
  pub progress : Progress
  pub ended : List Bool

-- where a run comes from: all that never changes
abbrev pub origin_of : RunView → Origin
origin_of v = record { endpoints = v.office.endpoints; hosts = v.office.hosts; capacity = v.office.capacity; workers = v.workers; steps = v.steps }

abbrev pub history_of : RunView → List Entry
history_of v = v.office.history

-- the state after these entries closes the run so
abbrev pub IsClosedBy : Origin → List Entry → Closing → Type 0
IsClosedBy o h closed = (n : NetworkState) → LeadsTo o h n → Closes o.endpoints o.capacity o.steps n (length h) (close_of closed)

-- what was found of the run is true after these entries
abbrev pub IsProgress : Origin → List Entry → Progress → Type 0
IsProgress o h Open = Unit {0}
IsProgress o h (Closed closed) = IsClosedBy o h closed
IsProgress o h Memory = Unit {0}

-- there are as many entries as asked for, and all processes of this worker have ended, which is counted from 0
abbrev pub HasEndedBy : Origin → List Entry → ℕ → Type 0
HasEndedBy o h w = (length h ≡ o.steps) × ((n : NetworkState) → LeadsTo o h n → (i : ℕ) (m : Machine) → slice_get n.machines (i * o.workers + w) ≡ Some m → has_ended o.endpoints m ≡ true)

-- Each entry is of the worker that owns a process which makes its event, and there are no more than asked for. What was found
-- is true, also of each worker that is marked as ended
pub record IsKeptBy (o : Origin) (h : List Entry) (found : Progress) (marks : List Bool) : Type 0 where
  pub owned : All (IsMadeByOwner o.workers o.endpoints) h
  pub within : length h ≤ o.steps
  pub fits : FitsSteps o.endpoints o.steps
  pub some_worker : 1 ≤ o.workers
  pub progress : IsProgress o h found
  pub each : length marks ≡ o.workers
  pub ended : (w : ℕ) → slice_get marks w ≡ Some true → HasEndedBy o h w

abbrev pub IsKept : RunView → Type 0
IsKept v = IsKeptBy (origin_of v) (history_of v) v.progress v.ended

-- a run by its parts
abbrev pub run_of : OfficeView → Task → Progress → List Bool → RunView
run_of office task progress ended = record { office = office; workers = task.workers; steps = task.steps; progress = progress; ended = ended }
