-- Transcripts of runs that workers make (this project's own). Which worker made which event isn't written.
use Rattle.std.specs.Prelude.{ℕ, ◌≡◌, Bool, List, length, Option}
use Rattle.chor_base.specs.declared.event.Event.{Event}
use Rattle.chor_host.specs.Functions.{Function, hosts_in}
use Rattle.endpoint_code.specs.declared.endpoints.Endpoints.{Endpoints}
use Rattle.endpoint_code.specs.Network.{NetworkState}
use Rattle.endpoint_code.specs.NetworkRuns.{IsNetworkRun}
use Rattle.endpoint_code.specs.Scheduled.{Close, Closes}
use Rattle.transcript.specs.Text.{transcript}
use Rattle.program_runs.specs.Transcripts.{book_of, closing_text, is_stuck}

-- The text is the transcript of some run of endpoint programs from their first state, of at most so many events, where queues have this
-- capacity and these host functions are there; the run is closed as its last line says, and is stuck or not
pub record IsTranscriptBy (functions : List Function) (e : Endpoints) (cap : Option ℕ) (steps : ℕ) (text : List ℕ) (stuck : Bool) : Type 0 where
  pub history : List Event
  pub close : Close
  pub last : NetworkState
  pub run : IsNetworkRun e (hosts_in e.names functions) cap history last
  pub closes : Closes e cap steps last (length history) close
  pub text_is : text ≡ transcript (book_of e) history (closing_text (book_of e) (length history) close)
  pub stuck_is : stuck ≡ is_stuck close
