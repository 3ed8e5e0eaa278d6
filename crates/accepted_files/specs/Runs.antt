-- What a run by the pick rule of a checked file's projection is.
use Rattle.std.specs.Prelude.{ℕ, ◌≡◌, true, List, [], ◌++◌, Option, length}
use Rattle.chor_base.specs.declared.event.Event.{Event}
use Rattle.chor_base.specs.Meaning.{Hosts}
use Rattle.chor_tree.specs.declared.file.File.{File}
use Rattle.endpoint_code.specs.declared.endpoints.Endpoints.{Endpoints}
use Rattle.endpoint_code.specs.Network.{NetworkState, has_room}
use Rattle.endpoint_code.specs.NetworkRuns.{IsNetworkRun}
use Rattle.endpoint_code.specs.Scheduled.{Close, IsScheduled}
use Rattle.well_formed.specs.Asked.{IsAnswered}
pub use Rattle.accepted_files.specs.Accepted.{IsChecked}
use Rattle.accepted_files.specs.AboveProjection.{IsAboveProjection}
use Rattle.accepted_files.specs.ClosedRuns.{IsClosedRunOf}

-- After the given events these follow by the pick rule in the network of the file's endpoint programs, under this capacity, and
-- close it so: together they are a closed run of the file
pub record IsContinued (f : File) (e : Endpoints) (hosts : Hosts) (cap : Option ℕ) (seed steps : ℕ) (given h : List Event) (close : Close) : Type 0 where
  pub closed : IsClosedRunOf f e hosts cap steps (given ++ h) close
  pub from : NetworkState
  pub given_run : IsNetworkRun e hosts cap given from
  pub scheduled : IsScheduled e hosts cap seed steps from (length given) h closed.last close

-- These events are the scheduled run of the network of the file's endpoint programs, under this capacity, which closes so
abbrev pub IsRunOf : File → Endpoints → Hosts → Option ℕ → ℕ → ℕ → List Event → Close → Type 0
IsRunOf f e hosts cap seed steps h close = IsContinued f e hosts cap seed steps [] h close

-- so is each run that goes on by the pick rule in a checked file's projection, where an empty queue has room for a load and the
-- host functions that the file asks have answers
abbrev pub ScheduledRunsAreRuns : Type 0
ScheduledRunsAreRuns =
    (f : File) (words : List (List ℕ)) → IsChecked f words → (e : Endpoints) → IsAboveProjection f e
    → (hosts : Hosts) → IsAnswered f hosts → (cap : Option ℕ) → has_room cap [] ≡ true
    → (given : List Event) (n : NetworkState) → IsNetworkRun e hosts cap given n
    → (seed steps : ℕ) (h : List Event) (last : NetworkState) (close : Close) → IsScheduled e hosts cap seed steps n (length given) h last close
    → IsContinued f e hosts cap seed steps given h close
