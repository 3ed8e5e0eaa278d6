-- What is said of the bytes of an endpoint file, whichever programs they are the text of (this project's own).
use Rattle.std.specs.Prelude.{ℕ, Bool, List, Option}
use Rattle.chor_host.specs.Functions.{Function, names_of}
use Rattle.endpoint_code.specs.declared.endpoints.Endpoints.{Endpoints}
use Rattle.endpoint_check.specs.Programs.{AreProgramsOf}
use Rattle.program_runs.specs.Transcripts.{IsTranscriptOf}
use Rattle.same_programs.specs.Programs.{SamePrograms}

-- Programs of the same bytes are the same
abbrev pub ProgramsOfBytesAreSame : Type 0
ProgramsOfBytesAreSame = (hosts : List (List ℕ)) (bytes : List ℕ) (e f : Endpoints) → AreProgramsOf hosts bytes e → AreProgramsOf hosts bytes f → SamePrograms e f

-- A transcript of the ones, with the same capacity, seed and steps, is a transcript of the others
abbrev pub TranscriptsOfBytesAgree : Type 0
TranscriptsOfBytesAgree =
    (functions : List Function) (bytes : List ℕ) (e f : Endpoints) (cap : Option ℕ) (seed steps : ℕ) (text : List ℕ) (stuck : Bool)
    → AreProgramsOf (names_of functions) bytes e → AreProgramsOf (names_of functions) bytes f
    → IsTranscriptOf functions e cap seed steps text stuck → IsTranscriptOf functions f cap seed steps text stuck
