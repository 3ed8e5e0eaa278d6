-- Runs of an accepted file that workers make.
use Rattle.std.specs.Prelude.{ℕ, List, All}
use Rattle.post_office.specs.Views.{events_of}
use Rattle.chor_host.specs.Functions.{Function, hosts_in}
pub use Rattle.accepted_files.specs.ClosedRuns.{IsClosedRunOf}
use Rattle.post_office.specs.Owners.{IsMadeByOwner}
use Rattle.simulation.specs.declared.running.Outcome.{Outcome}
use Rattle.simulation.specs.Accepted.{AcceptedView}
use Rattle.simulation.specs.Capacity.{capacity_of}
use Rattle.simulation.specs.Runs.{close_of}

-- What is answered is a run of an accepted file under its capacity, where these host functions are there, to its end or to as many
-- events as asked for, each made by the worker that owns a process which makes it
pub record IsOutcomeBy (a : AcceptedView) (functions : List Function) (workers steps : ℕ) (outcome : Outcome) : Type 0 where
  pub run : IsClosedRunOf a.typed.file a.endpoints (hosts_in a.typed.file.names functions) (capacity_of a.typed.file) steps (events_of outcome.history) (close_of outcome.ended)
  pub owned : All (IsMadeByOwner workers a.endpoints) outcome.history
