-- How a call of the program ends, by the table of its commands (this project's own).
use Rattle.std.specs.Prelude.{ℕ, ℤ, ◌≡◌, ◌≢◌, ◌≤◌, List, [], ◌∷◌, length, Result, Ok, Err}
use denote.Param.Members.{Mut}
use Rattle.chor_base.specs.declared.rule.Refusal.{Refusal}
use Rattle.chor_host.specs.declared.table.HostTable.{HostTable}
use Rattle.chor_host.specs.Functions.{Function, names_of}
use Rattle.chor_host.specs.Tables.{functions_of}
use Rattle.chor_io.specs.Outside.{Risen, ShelfState, SinkState, Wrote}
use Rattle.chor_tree.specs.declared.file.File.{File}
use Rattle.replay.specs.declared.answer.Replayed.{Replayed}
use Rattle.replay.specs.declared.answer.ReplayFault.{ReplayFault}
use Rattle.replay.specs.declared.answer.ReplayFault.TheVariants.{Unmatched as unlike, Memory as NoMemory}
use Rattle.command_words.specs.declared.words.Words.{Words}
use Rattle.command_words.specs.declared.words.Command.{Command}
use Rattle.command_words.specs.declared.words.Command.TheVariants.{Run, Exec, Link, Replay, Order, Conform, Resume}
use Rattle.command_words.specs.declared.options.Options.{Options}
use Rattle.command_words.specs.declared.order_form.OrderForm.{OrderForm}
use Rattle.command_words.specs.Words.{IsForm, HasForm, NamesFile, HasNoForm}
use Rattle.source_check.specs.declared.rules.Rules.TheVariants.{All, Views}
use Rattle.source_check.specs.Source.{IsAccepted}
use Rattle.endpoint_code.specs.declared.endpoints.Endpoints.{Endpoints}
use Rattle.endpoint_check.specs.Programs.{AreProgramsOf}
use Rattle.endpoint_text.specs.Text.{endpoints_text}
use Rattle.projection.specs.Projects.{Projects}
use Rattle.chor_cmd.specs.declared.status.Status.{Status}
use Rattle.chor_cmd.specs.declared.status.Status.TheVariants.{Done, Usage, ReadFault, WriteFault, Memory, Unmatched}
use Rattle.chor_cmd.specs.Outputs.{IsRunText, IsRunUnder, IsReplayOf, usage_line, replayed_line, unmatched_line}
use Rattle.chor_cmd.specs.Endings.{Tells, FetchesOnly, IsTooLarge}
use Rattle.chor_cmd.specs.Endings.{Ends as MayEndSo, HasEnded as HasEndedSo}
use Rattle.chor_cmd.specs.Rows.{Row, Reads, Judges, Closes, Exactly, IsRefused, OfSource, Links, Orders, source_limit, programs_limit, events_limit, row_of}
use Rattle.chor_cmd.specs.Rows.{IsShortLog, Conforms, Resumes}

-- a call: the host functions that are there, its words, the shelf and the sink before and after it, and the status with which it ends
pub record Call : Type 0 where
  pub functions : List Function
  pub words : Words
  pub shelf : ShelfState
  pub shelf' : ShelfState
  pub sink : SinkState
  pub sink' : SinkState
  pub status : Status

-- ---- how it must go

-- Whichever end the row comes to, with files that have these bytes, is one that comes
abbrev pub Must : (List ℕ → List ℕ → Type 0) → ((Status → List ℕ → Type 0) → Type 0) → List (List ℕ) → Row → Type 0
Must Has Come names (Closes Says) = Come Says
Must Has Come names (Judges Fine Broken next) = ((r : Refusal) → Broken r → Come (IsRefused r)) × (Fine → Must Has Come names next)
Must Has Come [] (Reads Fits next) = Unit {0}
Must Has Come (name ∷ names) (Reads Fits next) =
    (bytes : List ℕ) → Has name bytes → ((Fits bytes → ⊥) → Come (IsTooLarge name)) × (Fits bytes → Must Has Come names (next bytes))

-- ---- what a replay says

-- the status and the text of a replay with this answer
abbrev pub ReplaySays : Result Replayed ReplayFault → Status → List ℕ → Type 0
ReplaySays (Ok r) = Exactly Done (replayed_line r)
ReplaySays (Err (unlike i)) = Exactly Unmatched (unmatched_line i)
ReplaySays (Err NoMemory) = λ status text. Unit {0}

-- ---- a first file that is broken

-- what is judged next is broken so
abbrev pub IsBrokenNext : Row → Refusal → Type 0
IsBrokenNext (Judges Fine Broken next) r = Broken r
IsBrokenNext (Reads Fits next) r = ⊥
IsBrokenNext (Closes Says) r = ⊥

-- the first file is read, and is broken so
abbrev pub IsBrokenFirst : Row → List ℕ → Refusal → Type 0
IsBrokenFirst (Reads Fits next) bytes r = Fits bytes × IsBrokenNext (next bytes) r
IsBrokenFirst (Judges Fine Broken next) bytes r = ⊥
IsBrokenFirst (Closes Says) bytes r = ⊥

module _ (call : Call) where
  -- ---- what each status says

  -- a fetch of this file failed, and was counted
  abbrev pub HasFailed : List ℕ → Type 0
  HasFailed name = NamesFile call.words name × Risen (call.shelf.faults name) (call.shelf'.faults name)

  -- the status and the text with which the call may end
  abbrev pub MayEnd : Status → List ℕ → Type 0
  MayEnd status text = MayEndSo call.functions call.words call.shelf call.shelf' status text

  -- it has ended so, and with the status that it has
  abbrev pub EndsBy : Status → Type 0
  EndsBy status = HasEndedSo call.functions call.words call.shelf call.shelf' call.sink call.sink' status

  -- how the call has ended is one of the ways in which it may end
  abbrev pub HasEnded : Type 0
  HasEnded = EndsBy call.status

  -- no fetch has failed but those of the files that the words name
  abbrev pub Fetches : Type 0
  Fetches = FetchesOnly call.words call.shelf call.shelf'

  -- ---- which status comes

  -- The call has written a text and ends with a status of which this is said, or there was no memory, or a fetch of a file or a write failed, and was counted
  pub data Comes (Says : Status → List ℕ → Type 0) : Type 0 where
    so : (text : List ℕ) → Says call.status text → Wrote call.sink.written call.sink'.written text → Comes Says
    no_memory : HasForm call.words → call.status ≡ Memory → Comes Says
    unread : (name : List ℕ) → HasFailed name → call.status ≡ ReadFault → Comes Says
    unwritten : Risen call.sink.faults call.sink'.faults → call.status ≡ WriteFault → Comes Says

  -- for words of no form
  abbrev pub IsUsage : Type 0
  IsUsage = HasNoForm call.words → Comes (Exactly Usage usage_line)

  -- for words of a form and files that are told: whatever the command's row comes to
  abbrev pub IsSettled : Type 0
  IsSettled = (command : Command) (names : List (List ℕ)) → IsForm call.words command names → Must (Tells call.shelf.files) Comes names (row_of call.functions command)

  -- ---- the headline's own sentences, each of which follows from how the rows go

  -- `run`, for a source that is told and violates no rule: the transcript of a run of its choreography
  abbrev pub RunsSource : Type 0
  RunsSource =
      (options : Options) (name bytes : List ℕ) (f : File) → IsForm call.words (Run options) (name ∷ []) → Tells call.shelf.files name bytes → length bytes ≤ source_limit
      → IsAccepted All (names_of call.functions) bytes f → Comes (λ status text. (status ≡ Done) × OfSource call.functions All (λ g. IsRunText call.functions g options) bytes text)

  -- `exec`, for the text of the projection of a source that violates no rule, which `project` writes: what `run` writes for that source
  -- where its capacity is the one that the words give
  abbrev pub RunsProjected : Type 0
  RunsProjected =
      (options : Options) (name source : List ℕ) (f : File) (e : Endpoints) → IsAccepted All (names_of call.functions) source f → Projects f e
      → IsForm call.words (Exec options) (name ∷ []) → Tells call.shelf.files name (endpoints_text e) → length (endpoints_text e) ≤ programs_limit
      → Comes (λ status text. (status ≡ Done) × IsRunUnder options.capacity call.functions f options text)

  -- `replay`, for a source and an events file that are told: whatever a replay of these events in the choreography of that source answers
  abbrev pub AcceptsRuns : Type 0
  AcceptsRuns =
      (name log_name bytes log : List ℕ) (answer : Result Replayed ReplayFault) → IsForm call.words Replay (name ∷ log_name ∷ [])
      → Tells call.shelf.files name bytes → length bytes ≤ source_limit → Tells call.shelf.files log_name log → length log ≤ events_limit
      → IsReplayOf call.functions bytes log answer → Comes (ReplaySays answer)

  -- `link`, for a source that violates no rule and endpoint programs without a fault, both told: a run of the source with these
  -- programs in their places, or the first of them that doesn't suit its place
  abbrev pub LinksPrograms : Type 0
  LinksPrograms =
      (options : Options) (name units_name source units : List ℕ) (f : File) (e : Endpoints) → IsForm call.words (Link options) (name ∷ units_name ∷ [])
      → Tells call.shelf.files name source → length source ≤ source_limit → Tells call.shelf.files units_name units → length units ≤ programs_limit
      → IsAccepted All (names_of call.functions) source f → AreProgramsOf (names_of call.functions) units e → Comes (Links call.functions options source units)

  -- `order`, for a source and an events file that is replayed on it, both told: what is asked for of the order of its events, or a number
  -- that none of them has
  abbrev pub OrdersRun : Type 0
  OrdersRun =
      (form : OrderForm) (name log_name bytes log : List ℕ) (r : Replayed) → IsForm call.words (Order form) (name ∷ log_name ∷ [])
      → Tells call.shelf.files name bytes → length bytes ≤ source_limit → Tells call.shelf.files log_name log → length log ≤ events_limit
      → IsReplayOf call.functions bytes log (Ok r) → Comes (λ status text. (status ≢ Unmatched) × Orders call.functions form bytes log status text)

  -- `conform`, for a source whose names, protocols and views have no fault, and an events file, both told: how the log is judged by its
  -- protocols
  abbrev pub JudgesLog : Type 0
  JudgesLog =
      (name log_name bytes log : List ℕ) (f : File) → IsForm call.words Conform (name ∷ log_name ∷ [])
      → Tells call.shelf.files name bytes → length bytes ≤ source_limit → Tells call.shelf.files log_name log → length log ≤ events_limit
      → IsAccepted Views (names_of call.functions) bytes f → Comes (Conforms call.functions bytes log)

  -- `resume`, for a source that violates no rule and an events file with few lines, both told: how a run of it goes on after these events
  abbrev pub ResumesLog : Type 0
  ResumesLog =
      (options : Options) (name log_name bytes log : List ℕ) (f : File) → IsForm call.words (Resume options) (name ∷ log_name ∷ [])
      → Tells call.shelf.files name bytes → length bytes ≤ source_limit → Tells call.shelf.files log_name log → IsShortLog log
      → IsAccepted All (names_of call.functions) bytes f → Comes (Resumes call.functions options bytes log)

  -- any command, for a first file that is told and that it judges broken: the rule, and where
  abbrev pub RefusesBroken : Type 0
  RefusesBroken =
      (command : Command) (name : List ℕ) (names : List (List ℕ)) (bytes : List ℕ) (r : Refusal) → IsForm call.words command (name ∷ names) → Tells call.shelf.files name bytes
      → IsBrokenFirst (row_of call.functions command) bytes r → Comes (IsRefused r)

-- a call with this table of host functions
abbrev pub call_of : {X : Type 0} {g : Mut X (ℤ × (ℤ × Unit {0})) ℤ} → HostTable X g → Words → ShelfState → ShelfState → SinkState → SinkState → Status → Call
call_of hosts words shelf shelf' sink sink' status = record {
  functions = functions_of hosts;
  words = words;
  shelf = shelf;
  shelf' = shelf';
  sink = sink;
  sink' = sink';
  status = status;
}
