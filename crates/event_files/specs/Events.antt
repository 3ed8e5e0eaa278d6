-- The events of a file that is replayed.
use Rattle.std.specs.Prelude.{ℕ, ◌≡◌, List, Result, Ok, Err, Option}
use Rattle.chor_base.specs.declared.event.Event.{Event}
use Rattle.chor_base.specs.Meaning.{Hosts}
use Rattle.endpoint_code.specs.declared.endpoints.Endpoints.{Endpoints}
use Rattle.transcript.specs.Text.{Words}
use Rattle.replay.specs.Replays.{IsRun}
use Rattle.replay.specs.declared.answer.Replayed.{Replayed}
use Rattle.replay.specs.declared.answer.ReplayFault.{ReplayFault}
use Rattle.replay.specs.declared.answer.ReplayFault.TheVariants.{Unmatched, Memory}
use Rattle.transcript_lines.specs.Lines.{lines_of}
use Rattle.event_files.specs.Files.{IsReplayed, IsUnmatched}
use Rattle.event_files.specs.Networks.{IsEndedRun}

-- a file with these bytes is replayed, and these are its events
pub record HasEvents (w : Words) (IsRun IsEnded : List Event → Type 0) (bytes : List ℕ) (events : List Event) : Type 0 where
  pub told : Replayed
  pub replayed : IsReplayed w IsRun IsEnded (lines_of bytes) told
  pub events_are : replayed.history ≡ events

-- What is answered for the events of a file: all of them where it is replayed, else the first line that doesn't match
abbrev pub TellsEvents : Words → (List Event → Type 0) → (List Event → Type 0) → List ℕ → Result (List Event) ReplayFault → Type 0
TellsEvents w IsRun IsEnded bytes (Ok events) = HasEvents w IsRun IsEnded bytes events
TellsEvents w IsRun IsEnded bytes (Err (Unmatched i)) = IsUnmatched w IsRun IsEnded (lines_of bytes) i
TellsEvents w IsRun IsEnded bytes (Err Memory) = Unit {0}

-- so it is with a file that is replayed on a network
abbrev pub TellsNetworkEvents : Words → Endpoints → Hosts → Option ℕ → List ℕ → Result (List Event) ReplayFault → Type 0
TellsNetworkEvents w e hosts cap bytes result = TellsEvents w (IsRun e hosts cap) (IsEndedRun e hosts cap) bytes result
