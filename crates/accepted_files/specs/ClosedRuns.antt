-- What each run of a checked file's projection, or of programs above it, is that is closed, whichever process made which event.
use Rattle.std.specs.Prelude.{ℕ, ◌≡◌, true, List, [], Option, length}
use Rattle.chor_base.specs.declared.event.Event.{Event}
use Rattle.chor_base.specs.Events.{IsFifo}
use Rattle.chor_base.specs.Meaning.{Hosts}
use Rattle.chor_tree.specs.declared.file.File.{File}
use Rattle.endpoint_code.specs.declared.endpoints.Endpoints.{Endpoints}
use Rattle.endpoint_code.specs.Network.{NetworkState, has_room}
use Rattle.endpoint_code.specs.NetworkRuns.{IsNetworkRun}
use Rattle.endpoint_code.specs.Scheduled.{Close, Closes, Ended}
use Rattle.well_formed.specs.Asked.{IsAnswered}
use Rattle.typed_sources.specs.History.{SessionsConform, SessionsEnd}
use Rattle.typed_sources.specs.Stands.{kind_in, states_in}
use Rattle.accepted_files.specs.Accepted.{IsChecked}
use Rattle.accepted_files.specs.AboveProjection.{IsAboveProjection}
use Rattle.accepted_files.specs.Closing.{ClosesWell}

-- These events are a run of the network of the file's endpoint programs, under this capacity, which closes so: a run of the file's
-- choreography, first in, first out, each of whose sessions follows its protocol, to its end where the run has ended
pub record IsClosedRunOf (f : File) (e : Endpoints) (hosts : Hosts) (cap : Option ℕ) (steps : ℕ) (history : List Event) (close : Close) : Type 0 where
  pub above : IsAboveProjection f e
  pub last : NetworkState
  pub run : IsNetworkRun e hosts cap history last
  pub closes : ClosesWell f e hosts cap steps history last close
  pub fifo : IsFifo history
  pub conform : SessionsConform (kind_in f) (states_in f) history
  pub end : close ≡ Ended → SessionsEnd (kind_in f) (states_in f) history

-- so is each run of a checked file's projection, or of programs above it, that is closed, where an empty queue has room for a load
-- and the host functions that the file asks have answers
abbrev pub ClosedRunsAreRuns : Type 0
ClosedRunsAreRuns =
    (f : File) (words : List (List ℕ)) → IsChecked f words → (e : Endpoints) → IsAboveProjection f e
    → (hosts : Hosts) → IsAnswered f hosts → (cap : Option ℕ) → has_room cap [] ≡ true
    → (steps : ℕ) (h : List Event) (last : NetworkState) (close : Close) → IsNetworkRun e hosts cap h last → Closes e cap steps last (length h) close
    → IsClosedRunOf f e hosts cap steps h close
