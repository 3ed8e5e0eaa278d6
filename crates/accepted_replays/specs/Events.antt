-- The events of a file that is replayed on a source.
use Rattle.std.specs.Prelude.{ℕ, List, Option, Result}
use Rattle.chor_base.specs.declared.event.Event.{Event}
use Rattle.chor_base.specs.Meaning.{Hosts}
use Rattle.chor_tree.specs.declared.file.File.{File}
use Rattle.chor_semantics.specs.Runs.{IsRun, IsEndedRun}
use Rattle.program_runs.specs.Books.{book_of}
use Rattle.replay.specs.declared.answer.ReplayFault.{ReplayFault}
use Rattle.event_files.specs.Events.{HasEvents, TellsEvents}

-- a file with these bytes is replayed on a source, and these are its events
abbrev pub HasSourceEvents : File → Hosts → Option ℕ → List ℕ → List Event → Type 0
HasSourceEvents f hosts cap bytes events = HasEvents (book_of f) (IsRun f hosts cap) (IsEndedRun f hosts cap) bytes events

-- What is answered for the events of a file on a source: all of them where it is replayed, else the first line that doesn't match
abbrev pub TellsSourceEvents : File → Hosts → Option ℕ → List ℕ → Result (List Event) ReplayFault → Type 0
TellsSourceEvents f hosts cap bytes result = TellsEvents (book_of f) (IsRun f hosts cap) (IsEndedRun f hosts cap) bytes result
