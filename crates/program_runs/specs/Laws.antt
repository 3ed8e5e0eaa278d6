-- What is proved of runs of a source, and of the transcripts of endpoint programs that are the same (this project's own).
use Rattle.std.specs.Prelude.{ℕ, ◌≡◌, Bool, List, Option}
use Rattle.std.specs.List.{AllZip}
use Rattle.chor_base.specs.declared.event.Event.{Event}
use Rattle.chor_base.specs.Meaning.{Hosts}
use Rattle.chor_tree.specs.declared.file.File.{File}
use Rattle.chor_tree.specs.Source.{source_of}
use Rattle.chor_host.specs.Functions.{Function}
use Rattle.chor_semantics.specs.Runs.{IsRun, IsEndedRun}
use Rattle.endpoint_code.specs.declared.endpoints.Endpoints.{Endpoints}
use Rattle.endpoint_code.specs.Scheduled.{Close}
use Rattle.same_programs.specs.Words.{SameName}
use Rattle.same_programs.specs.Programs.{SamePrograms, IsCopy}
use Rattle.same_programs.specs.States.{SameClose}
use Rattle.same_programs.specs.Laws.{Agrees}
use Rattle.transcript.specs.Text.{transcript}
use Rattle.program_runs.specs.Transcripts.{book_of, closing_text, IsTranscriptOf}
use Rattle.program_runs.specs.ByWorkers.{IsTranscriptBy}

-- a run of a file is one of each file that is the same source
abbrev pub SourcesRunAlike : Type 0
SourcesRunAlike = (f g : File) → source_of f ≡ source_of g → (hosts : Hosts) (cap : Option ℕ) (h : List Event) → IsRun f hosts cap h → IsRun g hosts cap h

-- and has ended there if it has ended here
abbrev pub SourcesEndAlike : Type 0
SourcesEndAlike = (f g : File) → source_of f ≡ source_of g → (hosts : Hosts) (cap : Option ℕ) (h : List Event) → IsEndedRun f hosts cap h → IsEndedRun g hosts cap h

-- the same events and the same close make the same bytes
abbrev pub SameRunsAreWrittenAlike : Type 0
SameRunsAreWrittenAlike =
    (e e' : Endpoints) (h h' : List Event) (n : ℕ) (close close' : Close) → SamePrograms e e' → AllZip (Agrees e e') h h' → SameClose (SameName e e') close close'
    → transcript (book_of e) h (closing_text (book_of e) n close) ≡ transcript (book_of e') h' (closing_text (book_of e') n close')

-- a transcript of programs is one of a copy of them
abbrev pub TranscriptsAgree : Type 0
TranscriptsAgree =
    (functions : List Function) (e e' : Endpoints) (cap : Option ℕ) (seed steps : ℕ) (text : List ℕ) (stuck : Bool) → IsCopy e e'
    → IsTranscriptOf functions e cap seed steps text stuck → IsTranscriptOf functions e' cap seed steps text stuck

-- and so is one of a run that workers made
abbrev pub TranscriptsByWorkersAgree : Type 0
TranscriptsByWorkersAgree =
    (functions : List Function) (e e' : Endpoints) (cap : Option ℕ) (steps : ℕ) (text : List ℕ) (stuck : Bool) → IsCopy e e'
    → IsTranscriptBy functions e cap steps text stuck → IsTranscriptBy functions e' cap steps text stuck
