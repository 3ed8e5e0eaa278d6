-- Runs of an accepted file.
use Rattle.std.specs.Prelude.{ℕ, ◌≡◌, Bool, true, false, List}
use Rattle.chor_base.specs.declared.event.Event.{Event}
use Rattle.chor_base.specs.declared.event.Entry.{Entry}
use Rattle.chor_base.specs.Meaning.{Hosts}
use Rattle.chor_tree.specs.declared.file.File.{File}
use Rattle.endpoint_code.specs.declared.endpoints.Endpoints.{Endpoints}
use Rattle.endpoint_code.specs.Scheduled.{Close, Ended, Limit}
use Rattle.net_core.specs.Picks.{entries_of}
pub use Rattle.accepted_files.specs.Closing.{ClosesWell}
pub use Rattle.accepted_files.specs.Runs.{IsRunOf}
use Rattle.chor_host.specs.Functions.{Function, hosts_in}
use Rattle.simulation.specs.declared.running.Outcome.{Outcome}
use Rattle.simulation.specs.Accepted.{AcceptedView}
use Rattle.simulation.specs.Capacity.{capacity_of}

-- the run has come to its end, or to as many events as were asked for
abbrev pub close_of : Bool → Close
close_of true = Ended
close_of false = Limit

-- the entries are those of such a run, under the file's capacity
pub record IsOutcome (f : File) (e : Endpoints) (hosts : Hosts) (seed steps : ℕ) (entries : List Entry) (close : Close) : Type 0 where
  pub history : List Event
  pub entries_are : entries ≡ entries_of history
  pub run : IsRunOf f e hosts (capacity_of f) seed steps history close

-- so it is with what is answered for an accepted file, where these host functions are there
abbrev pub IsOutcomeOf : AcceptedView → List Function → ℕ → ℕ → Outcome → Type 0
IsOutcomeOf a functions seed steps outcome = IsOutcome a.typed.file a.endpoints (hosts_in a.typed.file.names functions) seed steps outcome.history (close_of outcome.ended)
