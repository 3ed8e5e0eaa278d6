-- Transcripts that are written while workers make the run (this project's own).
use Rattle.std.specs.Prelude.{ℕ, Bool, List, Option}
use Rattle.chor_host.specs.Functions.{Function}
use Rattle.chor_io.specs.Outside.{SinkState}
use Rattle.endpoint_code.specs.declared.endpoints.Endpoints.{Endpoints}
use Rattle.chor_stream.specs.declared.finish.Finished.{Finished}
use Rattle.chor_stream.specs.declared.finish.Finished.TheVariants as finished
use Rattle.chor_stream.specs.Lines.{Finishes}
use Rattle.program_runs.specs.declared.streaming.ExecutedTo.{ExecutedTo}
use Rattle.program_runs.specs.declared.streaming.ExecutedTo.TheVariants.{Written, Failed, Memory}
use Rattle.program_runs.specs.ByWorkers.{IsTranscriptBy}

-- The transcript of some closed run of endpoint programs, which is stuck or not, was written, or a prefix of it, as the answer says
pub record WritesTranscript (functions : List Function) (e : Endpoints) (cap : Option ℕ) (steps : ℕ) (stuck : Bool) (answer : Finished) (before after : SinkState) : Type 0 where
  pub text : List ℕ
  pub transcript : IsTranscriptBy functions e cap steps text stuck
  pub finishes : Finishes answer before after text

-- What was written, by the answer: a whole transcript of a run that is stuck or not; else a prefix of one, and a failed write is counted
abbrev pub IsExecutedTo : List Function → Endpoints → Option ℕ → ℕ → SinkState → SinkState → ExecutedTo → Type 0
IsExecutedTo functions e cap steps before after (Written stuck) = WritesTranscript functions e cap steps stuck finished.Written before after
IsExecutedTo functions e cap steps before after Failed = (stuck : Bool) × WritesTranscript functions e cap steps stuck finished.Failed before after
IsExecutedTo functions e cap steps before after Memory = (stuck : Bool) × WritesTranscript functions e cap steps stuck finished.Memory before after
