-- How a call of the program ends, and with which text (this project's own).
use Rattle.std.specs.Prelude.{ℕ, ℤ, ◌≡◌, ◌⊎◌, List, [], ◌∷◌, Option, Some, None}
use denote.Param.Members.{Mut}
use Rattle.chor_base.specs.declared.rule.Refusal.{Refusal}
use Rattle.chor_host.specs.declared.table.HostTable.{HostTable}
use Rattle.chor_host.specs.Functions.{Function, names_of}
use Rattle.chor_host.specs.Tables.{functions_of}
use Rattle.chor_io.specs.Outside.{Risen, ShelfState, SinkState, Wrote, WroteFront}
use Rattle.command_words.specs.declared.words.Words.{Words}
use Rattle.chor_cmd.specs.declared.status.Status.{Status}
use Rattle.chor_cmd.specs.declared.status.Status.TheVariants.{Usage, ReadFault, WriteFault, Memory, TooLarge}
use Rattle.command_words.specs.declared.words.Command.{Command}
use Rattle.command_words.specs.Words.{IsForm, HasForm, NamesFile, HasNoForm}
use Rattle.chor_cmd.specs.Rows.{Row, Reads, Judges, Closes, Exactly, IsRefused, row_of}
use Rattle.chor_cmd.specs.Outputs.{usage_line, read_fault_line, too_large_line}
use Rattle.chor_cmd.specs.Runs.{AsksWorkers}

-- the names of the host functions that a file may call
abbrev pub host_names : {X : Type 0} {g : Mut X (ℤ × (ℤ × Unit {0})) ℤ} → HostTable X g → List (List ℕ)
host_names hosts = names_of (functions_of hosts)

-- ---- the files that are asked of the shelf

-- the files by name, where they are told
abbrev pub Told : Type 0
Told = Option (List ℕ → Option (List ℕ))

-- a file of this name with these bytes is told
abbrev pub Tells : Told → List ℕ → List ℕ → Type 0
Tells None name bytes = ⊥
Tells (Some files) name bytes = files name ≡ Some bytes

-- the file of this name may have these bytes: where files are told, it is told with these
abbrev pub MayTell : Told → List ℕ → List ℕ → Type 0
MayTell None name bytes = Unit {0}
MayTell (Some files) name bytes = files name ≡ Some bytes

-- no fetch has failed but those of the files that the words name
abbrev pub FetchesOnly : Words → ShelfState → ShelfState → Type 0
FetchesOnly words shelf shelf' = (other : List ℕ) → (NamesFile words other → ⊥) → shelf'.faults other ≡ shelf.faults other

-- ---- how a row may go

-- a file of this name is more than it may be
abbrev pub IsTooLarge : List ℕ → Status → List ℕ → Type 0
IsTooLarge name = Exactly TooLarge (too_large_line name)

-- A command with this row, whose files left have these names, may end with this status and this text, where so is said which bytes a
-- file has
abbrev pub Goes : (List ℕ → List ℕ → Type 0) → List (List ℕ) → Row → Status → List ℕ → Type 0
Goes Has names (Closes Says) status text = Says status text
Goes Has names (Judges Fine Broken next) status text = ((r : Refusal) × Broken r × IsRefused r status text) ⊎ (Fine × Goes Has names next status text)
Goes Has [] (Reads Fits next) status text = ⊥
Goes Has (name ∷ names) (Reads Fits next) status text =
    (bytes : List ℕ) × Has name bytes × (((Fits bytes → ⊥) × IsTooLarge name status text) ⊎ (Fits bytes × Goes Has names (next bytes) status text))

-- ---- what each status says

-- The statuses with which a call may end that could write its text, each with that text, where these host functions are there, and the
-- shelf was and is so: the words are of no form, or a fetch of a file failed and was counted, or so the command's row goes
pub data Ends (functions : List Function) (words : Words) (shelf shelf' : ShelfState) : Status → List ℕ → Type 0 where
  usage : HasNoForm words → Ends functions words shelf shelf' Usage usage_line
  read_fault : (name : List ℕ) → NamesFile words name → Risen (shelf.faults name) (shelf'.faults name) → Ends functions words shelf shelf' ReadFault (read_fault_line name)
  goes : {status : Status} {text : List ℕ} (command : Command) (names : List (List ℕ)) → IsForm words command names
      → Goes (MayTell shelf.files) names (row_of functions command) status text → Ends functions words shelf shelf' status text

-- a prefix of a text with which a call might have ended so was written
abbrev pub BreaksOff : (Status → List ℕ → Type 0) → SinkState → SinkState → Type 0
BreaksOff Says sink sink' = (status : Status) × (text : List ℕ) × Says status text × WroteFront sink.written sink'.written text

-- A call that may end so has ended: by a failing write after a prefix of its text, with its whole text, or where this holds out of memory,
-- with nothing written or, where its text is written in parts, a prefix of it
abbrev pub HasWritten : (Status → List ℕ → Type 0) → Type 0 → Type 0 → SinkState → SinkState → Status → Type 0
HasWritten Says OutOfMemory InParts sink sink' WriteFault = Risen sink.faults sink'.faults × BreaksOff Says sink sink'
HasWritten Says OutOfMemory InParts sink sink' Memory = OutOfMemory × ((sink'.written ≡ sink.written) ⊎ (InParts × BreaksOff Says sink sink'))
HasWritten Says OutOfMemory InParts sink sink' status = (text : List ℕ) × Says status text × Wrote sink.written sink'.written text

-- A call has ended so; out of memory only where the words are of a form, and after a part of its text only where they ask for workers
abbrev pub HasEnded : List Function → Words → ShelfState → ShelfState → SinkState → SinkState → Status → Type 0
HasEnded functions words shelf shelf' sink sink' status = HasWritten (Ends functions words shelf shelf') (HasForm words) (AsksWorkers words) sink sink' status
