-- A transcript of programs that bytes are the text of is one of all programs of these bytes.
use Rattle.std.proofs.Common.{ℕ, Bool, List, Option}
use Rattle.chor_host.specs.Functions.{Function, names_of}
use Rattle.endpoint_code.specs.declared.endpoints.Endpoints.{Endpoints}
use Rattle.endpoint_check.specs.Programs.{AreProgramsOf}
use Rattle.program_runs.specs.Transcripts.{IsTranscriptOf}
use Rattle.program_runs.proofs.SameTranscripts.{transcript_same}
use Rattle.projected_programs.proofs.Programs.{are_copies}

pub transcript_agrees : (functions : List Function) (bytes : List ℕ) (e f : Endpoints) (cap : Option ℕ) (seed steps : ℕ) (text : List ℕ) (stuck : Bool)
    → AreProgramsOf (names_of functions) bytes e → AreProgramsOf (names_of functions) bytes f → IsTranscriptOf functions e cap seed steps text stuck → IsTranscriptOf functions f cap seed steps text stuck
transcript_agrees functions bytes e f cap seed steps text stuck p q t = transcript_same functions e f cap seed steps text stuck (are_copies (names_of functions) bytes e f p q) t
