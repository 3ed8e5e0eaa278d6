-- What holds of all judgements of logs.
use Rattle.std.specs.Prelude.{ℕ, ◌≡◌, ◌<◌, ◌^◌, List, length, Option, Result, Err}
use Rattle.chor_base.specs.declared.event.Event.{Event}
use Rattle.chor_base.specs.Meaning.{Hosts}
use Rattle.chor_tree.specs.declared.file.File.{File}
use Rattle.chor_semantics.specs.Runs.{IsRun, IsEndedRun}
use Rattle.endpoint_code.specs.declared.endpoints.Endpoints.{Endpoints}
use Rattle.projection.specs.Projects.{Projects}
use Rattle.transcript.specs.Text.{transcript}
use Rattle.event_reader.specs.Known.{IsBook}
use Rattle.event_files.specs.Networks.{TellsMore}
use Rattle.program_runs.specs.Books.{book_of}
use Rattle.replay.specs.declared.answer.Replayed.{Replayed}
use Rattle.replay.specs.declared.answer.ReplayFault.{ReplayFault}
use Rattle.replay.specs.declared.answer.ReplayFault.TheVariants.{Unmatched}
use Rattle.source_check.specs.Source.{IsAccepted}
use Rattle.source_check.specs.declared.rules.Rules.TheVariants.{All}
use Rattle.transcript_lines.specs.declared.last.Last.{Last}
use Rattle.transcript_lines.specs.declared.last.Last.TheVariants.{End, Limit}
use Rattle.transcript_lines.specs.Last.{last_text}
use Rattle.transcript_lines.specs.Split.{HasHistory}
use Rattle.conforming_logs.specs.Logs.{ConformsSource}

-- two answers for one file of events are the same, beside want of memory
abbrev pub LogsTellOneAnswer : Type 0
LogsTellOneAnswer =
    (f : File) (bytes : List ℕ) (a b : Result Replayed ReplayFault) → IsBook (book_of f) → length bytes < 2 ^ 64
    → ConformsSource f bytes a → ConformsSource f bytes b → TellsMore a → TellsMore b → a ≡ b

-- no line of the transcript of this history with such a last line is unmatched
abbrev pub HasNoUnmatchedLine : File → List Event → Last → Type 0
HasNoUnmatchedLine f h last = (i : ℕ) → ¬ ConformsSource f (transcript (book_of f) h (last_text last)) (Err (Unmatched i))

-- Each transcript of a run of an accepted source, which has a projection, conforms where it stops at a limit
abbrev pub TranscriptsConform : Type 0
TranscriptsConform =
    (bytes : List ℕ) (words : List (List ℕ)) (f : File) → IsAccepted All words bytes f → (e : Endpoints) → Projects f e → IsBook (book_of f)
    → (hosts : Hosts) (capacity : Option ℕ) (h : List Event) → IsRun f hosts capacity h → HasHistory (book_of f) h
    → length (transcript (book_of f) h (last_text (Limit (length h)))) < 2 ^ 64 → HasNoUnmatchedLine f h (Limit (length h))

-- and so does one of a complete run
abbrev pub EndedTranscriptsConform : Type 0
EndedTranscriptsConform =
    (bytes : List ℕ) (words : List (List ℕ)) (f : File) → IsAccepted All words bytes f → (e : Endpoints) → Projects f e → IsBook (book_of f)
    → (hosts : Hosts) (capacity : Option ℕ) (h : List Event) → IsEndedRun f hosts capacity h → HasHistory (book_of f) h
    → length (transcript (book_of f) h (last_text (End (length h)))) < 2 ^ 64 → HasNoUnmatchedLine f h (End (length h))
