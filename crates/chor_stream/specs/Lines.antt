-- What is written of the entries of a stream.
use Rattle.std.specs.Prelude.{◌≡◌, ◌⊎◌, ◌≤◌, ◌+◌, ℕ, List, [], ◌++◌, map, length, drop}
use Rattle.chor_base.specs.declared.event.Entry.{Entry}
use Rattle.chor_io.specs.Outside.{SinkState, Risen, Wrote, WroteFront}
use Rattle.transcript.specs.Text.{Words, lines_from}
use Rattle.chor_stream.specs.declared.ends.Printer.{Printer}
use Rattle.chor_stream.specs.declared.drain.Drained.{Drained}
use Rattle.chor_stream.specs.declared.drain.Drained.TheVariants as drained
use Rattle.chor_stream.specs.declared.finish.Finished.{Finished}
use Rattle.chor_stream.specs.declared.finish.Finished.TheVariants as finished
use Rattle.chor_stream.specs.Ends.{taken_by, waiting_in, slots_of}

-- the lines of the events of entries, numbered from n
abbrev pub entry_lines : Words → ℕ → List Entry → List ℕ
entry_lines w n entries = lines_from w n (map (λ entry. entry.event) entries)

-- the lines of the entries of a list that come after its first ones, numbered on from these
abbrev pub lines_after : Words → List Entry → List Entry → List ℕ
lines_after w before list = entry_lines w (length before + 1) (drop (length before) list)

-- What was written of a text, by the answer: all of it; else a prefix, and a failed write is counted
abbrev pub Finishes : Finished → SinkState → SinkState → List ℕ → Type 0
Finishes finished.Written before after text = Wrote before.written after.written text
Finishes finished.Failed before after text = Risen before.faults after.faults × WroteFront before.written after.written text
Finishes finished.Memory before after text = WroteFront before.written after.written text

-- the answer for a part, as one for the rest
abbrev pub finished_so : Drained → Finished
finished_so drained.Dry = finished.Written
finished_so drained.Failed = finished.Failed
finished_so drained.Memory = finished.Memory

-- A printer took entries, at most as many as the ring has slots, and wrote their lines, or a prefix of these. It answers Dry only where it
-- took as many, or knows of none that is left
pub record Drains (w : Words) (old new : Printer) (before after : SinkState) (answer : Drained) : Type 0 where
  pub more : List Entry
  pub is : taken_by new ≡ taken_by old ++ more
  pub few : length more ≤ slots_of old
  pub dry : answer ≡ drained.Dry → (length more ≡ slots_of old) ⊎ (waiting_in new ≡ [])
  pub lines : Finishes (finished_so answer) before after (entry_lines w (length (taken_by old) + 1) more)
