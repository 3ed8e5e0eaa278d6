-- Transcripts of runs of an accepted file that workers make. Which worker made which event isn't written (this project's own).
use Rattle.std.specs.Prelude.{ℕ, ◌≡◌, Bool, List, length}
use Rattle.chor_base.specs.declared.event.Event.{Event}
use Rattle.chor_host.specs.Functions.{Function, hosts_in}
use Rattle.accepted_files.specs.ClosedRuns.{IsClosedRunOf}
use Rattle.transcript.specs.Text.{Words, transcript}
use Rattle.program_runs.specs.Transcripts.{closing_text}
use Rattle.simulation.specs.Accepted.{AcceptedView}
use Rattle.simulation.specs.Capacity.{capacity_of}
use Rattle.simulation.specs.Runs.{close_of}

-- The text is the transcript, with these words, of some run of an accepted file under its capacity, to its end or to as many events
-- as asked for, where these host functions are there
pub record IsToldBy (w : Words) (a : AcceptedView) (functions : List Function) (steps : ℕ) (text : List ℕ) : Type 0 where
  pub history : List Event
  pub ended : Bool
  pub run : IsClosedRunOf a.typed.file a.endpoints (hosts_in a.typed.file.names functions) (capacity_of a.typed.file) steps history (close_of ended)
  pub text_is : text ≡ transcript w history (closing_text w (length history) (close_of ended))
