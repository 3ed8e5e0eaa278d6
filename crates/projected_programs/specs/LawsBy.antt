-- What is proved of runs that workers make of what is read from the text of a source's endpoint programs.
use Rattle.std.specs.Prelude.{ℕ, ◌≡◌, Bool, true, false, List, [], Option, length}
use Rattle.chor_base.specs.declared.event.Event.{Event}
use Rattle.chor_host.specs.Functions.{Function, names_of, hosts_in}
use Rattle.chor_tree.specs.declared.file.File.{File}
use Rattle.endpoint_code.specs.declared.endpoints.Endpoints.{Endpoints}
use Rattle.endpoint_code.specs.Network.{has_room}
use Rattle.endpoint_code.specs.Scheduled.{Close}
use Rattle.endpoint_check.specs.Programs.{AreProgramsOf}
use Rattle.endpoint_text.specs.Text.{endpoints_text}
use Rattle.transcript.specs.Text.{transcript}
use Rattle.program_runs.specs.Books.{book_of}
use Rattle.program_runs.specs.Transcripts.{closing_text}
use Rattle.accepted_files.specs.ClosedRuns.{IsClosedRunOf}
use Rattle.projected_programs.specs.Laws.{AreProjected}
use Rattle.program_runs.specs.ByWorkers.{IsTranscriptBy}

-- The text is the transcript of some run of the network of the source's endpoint programs, under this capacity, which is a run of its
-- choreography
pub record IsRunTranscriptBy (functions : List Function) (f : File) (e : Endpoints) (cap : Option ℕ) (steps : ℕ) (text : List ℕ) : Type 0 where
  pub history : List Event
  pub close : Close
  pub run : IsClosedRunOf f e (hosts_in f.names functions) cap steps history close
  pub text_is : text ≡ transcript (book_of f) history (closing_text (book_of f) (length history) close)

-- Whatever programs are read from their text, a transcript of these under a capacity is one of such a run, which isn't stuck, where an
-- empty queue has room for a load
abbrev pub ProjectedTextRunsByWorkers : Type 0
ProjectedTextRunsByWorkers =
    (functions : List Function) (bytes : List ℕ) (f : File) (e : Endpoints) → AreProjected functions bytes f e
    → (e' : Endpoints) → AreProgramsOf (names_of functions) (endpoints_text e) e'
    → (cap : Option ℕ) → has_room cap [] ≡ true
    → (steps : ℕ) (text : List ℕ) (stuck : Bool) → IsTranscriptBy functions e' cap steps text stuck
    → IsRunTranscriptBy functions f e cap steps text × (stuck ≡ false)
