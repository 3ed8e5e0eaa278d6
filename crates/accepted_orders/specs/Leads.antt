-- What is told of an event's causal past is replayed.
use Rattle.std.specs.Prelude.{ℕ, ◌≤◌, ◌^◌, List, length, Option, Ok}
use Rattle.chor_base.specs.declared.event.Event.{Event}
use Rattle.chor_base.specs.Meaning.{Hosts}
use Rattle.chor_tree.specs.declared.file.File.{File}
use Rattle.event_reader.specs.Known.{AreWords}
use Rattle.replay.specs.declared.answer.Replayed.{Replayed}
use Rattle.program_runs.specs.Books.{book_of}
use Rattle.accepted_replays.specs.Events.{HasSourceEvents}
use Rattle.accepted_replays.specs.Sources.{ReplaysSource}
use Rattle.accepted_orders.specs.Rearrangements.{IsCheckedRun}
use Rattle.accepted_orders.specs.Sources.{TellsPast}

-- The text is that of a file that is replayed on a source
abbrev pub IsReplayedOn : File → Hosts → Option ℕ → List ℕ → Type 0
IsReplayedOn f hosts capacity text = (replayed : Replayed) × ReplaysSource f hosts capacity text (Ok replayed)

-- The text that tells the causal past of an event of a file is itself a file that is replayed
abbrev pub PastsAreReplayed : Type 0
PastsAreReplayed =
    (f : File) (hosts : Hosts) (capacity : Option ℕ) (bytes : List ℕ) (h : List Event) → AreWords f.names → length bytes ≤ 2 ^ 26
    → HasSourceEvents f hosts capacity bytes h → IsCheckedRun f hosts capacity h
    → (number : ℕ) (text : List ℕ) → TellsPast (book_of f) capacity h number text → IsReplayedOn f hosts capacity text
