-- What is printed of a run while workers make it.
use Rattle.std.specs.Prelude.{◌≡◌, ◌+◌, ℕ, List, ◌++◌, length}
use Rattle.chor_base.specs.declared.event.Entry.{Entry}
use Rattle.chor_io.specs.Outside.{SinkState}
use Rattle.transcript.specs.Text.{Words}
use Rattle.chor_stream.specs.declared.ends.Printer.{Printer}
use Rattle.chor_stream.specs.declared.drain.Drained.{Drained}
use Rattle.chor_stream.specs.declared.drain.Drained.TheVariants as drained
use Rattle.chor_stream.specs.declared.finish.Finished.{Finished}
use Rattle.chor_stream.specs.declared.finish.Finished.TheVariants as finished
use Rattle.chor_stream.specs.Ends.{taken_by}
use Rattle.chor_stream.specs.Lines.{entry_lines, finished_so, Finishes}
use Rattle.workers.specs.declared.streamed.Streamed.{Streamed}
use Rattle.workers.specs.declared.streamed.Streamed.TheVariants as streamed
use Rattle.workers.specs.Runs.{IsReportOf}
use Rattle.workers.specs.Views.{RunView, history_of}

-- a printer took entries, and wrote their lines, or a prefix of these
pub record Prints (w : Words) (old new : Printer) (before after : SinkState) (answer : Drained) : Type 0 where
  pub more : List Entry
  pub is : taken_by new ≡ taken_by old ++ more
  pub lines : Finishes (finished_so answer) before after (entry_lines w (length (taken_by old) + 1) more)

-- what was written of a text once the printer had ended so: nothing after a fault
abbrev pub WritesRest : Drained → Finished → SinkState → SinkState → List ℕ → Type 0
WritesRest drained.Dry answer before after text = Finishes answer before after text
WritesRest drained.Failed answer before after text = (answer ≡ finished.Failed) × (after ≡ before)
WritesRest drained.Memory answer before after text = (answer ≡ finished.Memory) × (after ≡ before)

-- What is told of a run whose lines were written so: all of it, or what went wrong. Memory may run out where all lines were written, too
abbrev pub IsToldOf : RunView → Finished → Streamed → Type 0
IsToldOf v finished.Written (streamed.Done told) = IsReportOf v told × (told.history ≡ history_of v)
IsToldOf v finished.Failed streamed.Failed = Unit {0}
IsToldOf v finished.Failed streamed.Memory = ⊥
IsToldOf v finished.Failed (streamed.Done told) = ⊥
IsToldOf v finished.Memory (streamed.Done told) = ⊥
IsToldOf v finished.Memory streamed.Failed = ⊥
IsToldOf v finished.Written streamed.Failed = ⊥
IsToldOf v finished.Written streamed.Memory = Unit {0}
IsToldOf v finished.Memory streamed.Memory = Unit {0}
