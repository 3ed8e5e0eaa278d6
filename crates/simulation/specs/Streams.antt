-- Transcripts of an accepted file that are written while workers make the run (this project's own).
use Rattle.std.specs.Prelude.{ℕ, Bool, List}
use Rattle.chor_base.specs.declared.event.Event.{Event}
use Rattle.chor_host.specs.Functions.{Function, hosts_in}
use Rattle.chor_io.specs.Outside.{SinkState, Risen, Wrote, WroteFront}
use Rattle.accepted_files.specs.ClosedRuns.{IsClosedRunOf}
use Rattle.transcript.specs.Text.{Words, lines_from}
use Rattle.chor_stream.specs.declared.finish.Finished.{Finished}
use Rattle.chor_stream.specs.Lines.{Finishes, entry_lines}
use Rattle.simulation.specs.declared.streaming.StreamedRun.{StreamedRun}
use Rattle.simulation.specs.declared.streaming.StreamedRun.TheVariants.{Done, Failed, Memory}
use Rattle.simulation.specs.Accepted.{AcceptedView}
use Rattle.simulation.specs.Capacity.{capacity_of}
use Rattle.simulation.specs.Runs.{close_of}
use Rattle.simulation.specs.RunsBy.{IsOutcomeBy}
use Rattle.simulation.specs.ToldBy.{IsToldBy}

-- The lines of some run of an accepted file under its capacity, to its end or to as many events as asked for, were written, or a prefix of them
pub record WrotePrefix (w : Words) (a : AcceptedView) (functions : List Function) (steps : ℕ) (before after : SinkState) : Type 0 where
  pub history : List Event
  pub ended : Bool
  pub run : IsClosedRunOf a.typed.file a.endpoints (hosts_in a.typed.file.names functions) (capacity_of a.typed.file) steps history (close_of ended)
  pub lines : WroteFront before.written after.written (lines_from w 1 history)

-- What was written, by the answer: the lines of the run that is told of; else a prefix of those of some run, and a failed write is
-- counted
abbrev pub IsStreamedRun : Words → AcceptedView → List Function → ℕ → ℕ → SinkState → SinkState → StreamedRun → Type 0
IsStreamedRun w a functions workers steps before after (Done outcome) =
    IsOutcomeBy a functions workers steps outcome × Wrote before.written after.written (entry_lines w 1 outcome.history)
IsStreamedRun w a functions workers steps before after Failed = Risen before.faults after.faults × WrotePrefix w a functions steps before after
IsStreamedRun w a functions workers steps before after Memory = WrotePrefix w a functions steps before after

-- The transcript of some such run was written, or a prefix of it, as the answer says
pub record WritesTranscript (w : Words) (a : AcceptedView) (functions : List Function) (steps : ℕ) (answer : Finished) (before after : SinkState) : Type 0 where
  pub text : List ℕ
  pub told : IsToldBy w a functions steps text
  pub finishes : Finishes answer before after text
