-- Transcripts of runs of endpoint programs (this project's own).
use Rattle.std.specs.Prelude.{ℕ, ◌≡◌, Bool, true, false, List, ◌++◌, length, map, Option, codes}
use Rattle.std.specs.Fmt.{decimal}
use Rattle.chor_base.specs.declared.event.Event.{Event}
use Rattle.chor_host.specs.Functions.{Function, hosts_in}
use Rattle.endpoint_code.specs.declared.endpoints.Endpoints.{Endpoints}
use Rattle.endpoint_code.specs.Network.{NetworkState, first_state}
use Rattle.endpoint_code.specs.Scheduled.{Close, Ended, Limit, Stuck, IsScheduled}
pub use Rattle.post_office.specs.Views.{events_of}
use Rattle.transcript.specs.Text.{Words, transcript}
use Rattle.transcript.specs.Closing.{stuck_text}

-- what the transcripts of endpoint programs are written with
abbrev pub book_of : Endpoints → Words
book_of e = record { names = e.names; texts = e.texts; processes = map (λ p. p.name) e.processes }

-- the last line of a run of n events: `end 3`, `limit 10`, `stuck 1 p empty #0 B>A`
abbrev pub closing_text : Words → ℕ → Close → List ℕ
closing_text w n Ended = codes "end " ++ decimal n
closing_text w n Limit = codes "limit " ++ decimal n
closing_text w n (Stuck p why) = stuck_text w n p why

-- the run is stuck
abbrev pub is_stuck : Close → Bool
is_stuck (Stuck p why) = true
is_stuck _ = false

-- The text is the transcript of the scheduled run of endpoint programs from their first state, where queues have this capacity and these
-- host functions are there, and the run is stuck or not
pub record IsTranscriptOf (functions : List Function) (e : Endpoints) (cap : Option ℕ) (seed steps : ℕ) (text : List ℕ) (stuck : Bool) : Type 0 where
  pub history : List Event
  pub close : Close
  pub last : NetworkState
  pub scheduled : IsScheduled e (hosts_in e.names functions) cap seed steps (first_state e) 0 history last close
  pub text_is : text ≡ transcript (book_of e) history (closing_text (book_of e) (length history) close)
  pub stuck_is : stuck ≡ is_stuck close
