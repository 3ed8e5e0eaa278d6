-- What a command has made of its files, by its row (this project's own).
use Rattle.std.specs.Prelude.{ℕ, ◌≡◌, ◌≢◌, ◌<◌, ◌≤◌, ◌⊎◌, List, length, Contains, None, Result, Ok, Err, ⊤}
use Rattle.chor_base.specs.declared.rule.Denied.{Denied}
use Rattle.chor_base.specs.declared.rule.Denied.TheVariants as denied
use Rattle.chor_base.specs.declared.rule.Refusal.{Refusal}
use Rattle.chor_tree.specs.declared.file.File.{File}
use Rattle.chor_host.specs.Functions.{Function}
use Rattle.chor_io.specs.Outside.{Risen, ShelfState, SinkState}
use Rattle.command_words.specs.declared.words.Command.{Command}
use Rattle.source_check.specs.Source.{IsFileOf, IsAccepted, IsNoSource}
use Rattle.source_check.specs.declared.rules.Rules.{Rules}
use Rattle.endpoint_code.specs.declared.endpoints.Endpoints.{Endpoints}
use Rattle.endpoint_check.specs.Programs.{AreProgramsOf}
use Rattle.chor_cmd.specs.declared.status.Status.{Status}
use Rattle.chor_cmd.specs.declared.status.Status.TheVariants as status
use Rattle.chor_cmd.specs.declared.ending.Ending.{Ending}
use Rattle.chor_cmd.specs.declared.ending.Stop.{Stop}
use Rattle.chor_cmd.specs.declared.ending.Stop.TheVariants.{Refused, ReadFault, TooLarge, Memory}
use Rattle.chor_cmd.specs.Outputs.{refused_line, read_fault_line, too_large_line}
use Rattle.chor_cmd.specs.Runs.{workers_of}
use Rattle.chor_cmd.specs.Endings.{MayTell, Goes, IsTooLarge, HasWritten}
use Rattle.chor_cmd.specs.Rows.{Row, Exactly, IsRefused, IsShortLog, source_limit, programs_limit, row_of}

-- why a command stops for what was denied
abbrev pub stop_of : Denied → Stop
stop_of (denied.Refused r) = Refused r
stop_of denied.Memory = Memory

-- the bytes are no source
abbrev pub IsNoText : List ℕ → Refusal → Type 0
IsNoText bytes r = IsNoSource bytes r.rule r.place × (r.who ≡ None)

-- ---- one file

-- no count has changed but those of files with these names
abbrev pub TouchesOnly : List (List ℕ) → ShelfState → ShelfState → Type 0
TouchesOnly names shelf shelf' = (other : List ℕ) → (Contains names other → ⊥) → shelf'.faults other ≡ shelf.faults other

-- the file of this name may have these bytes, at most so many
abbrev pub HasFetched : ℕ → ShelfState → List ℕ → List ℕ → Type 0
HasFetched limit shelf name bytes = MayTell shelf.files name bytes × (length bytes ≤ limit)

-- it may be the text of this file
abbrev pub HasFetchedFile : ShelfState → List ℕ → File → Type 0
HasFetchedFile shelf name f = (bytes : List ℕ) × HasFetched source_limit shelf name bytes × IsFileOf bytes f

-- which violates none of these rules
abbrev pub HasFetchedSource : Rules → List (List ℕ) → ShelfState → List ℕ → File → Type 0
HasFetchedSource rules words shelf name f = (bytes : List ℕ) × HasFetched source_limit shelf name bytes × IsAccepted rules words bytes f

-- it may be the text of these endpoint programs
abbrev pub HasFetchedPrograms : List (List ℕ) → ShelfState → List ℕ → Endpoints → Type 0
HasFetchedPrograms words shelf name e = (bytes : List ℕ) × HasFetched programs_limit shelf name bytes × AreProgramsOf words bytes e

-- Why nothing was made of the file of this name, of at most so many bytes: reading it failed, which was counted; it may be longer; it may have bytes that are broken so; or
-- memory ran out
abbrev pub IsUnread : ℕ → (List ℕ → Refusal → Type 0) → ShelfState → ShelfState → List ℕ → Stop → Type 0
IsUnread limit Broken shelf shelf' name (Refused r) = (bytes : List ℕ) × HasFetched limit shelf name bytes × Broken bytes r
IsUnread limit Broken shelf shelf' name (ReadFault w) = (w.now ≡ name) × Risen (shelf.faults name) (shelf'.faults name)
IsUnread limit Broken shelf shelf' name (TooLarge w) = (w.now ≡ name) × ((bytes : List ℕ) × MayTell shelf.files name bytes × (limit < length bytes))
IsUnread limit Broken shelf shelf' name Memory = Unit {0}

-- ---- an events file after which a run goes on

-- it may have these bytes, which are no more than they may be
abbrev pub HasFetchedLog : ShelfState → List ℕ → List ℕ → Type 0
HasFetchedLog shelf name log = MayTell shelf.files name log × IsShortLog log

-- Why it wasn't read: reading it failed, which was counted; it may be more; or memory ran out
abbrev pub IsUnreadLog : ShelfState → ShelfState → List ℕ → Stop → Type 0
IsUnreadLog shelf shelf' name (Refused r) = ⊥
IsUnreadLog shelf shelf' name (ReadFault w) = (w.now ≡ name) × Risen (shelf.faults name) (shelf'.faults name)
IsUnreadLog shelf shelf' name (TooLarge w) = (w.now ≡ name) × ((bytes : List ℕ) × MayTell shelf.files name bytes × (IsShortLog bytes → ⊥))
IsUnreadLog shelf shelf' name Memory = Unit {0}

-- ---- a command

-- Why a command with this row, whose files have these names, may stop: so its row goes, or reading one of them failed, which was counted, or memory ran out
abbrev pub IsStop : Row → List (List ℕ) → ShelfState → ShelfState → Stop → Type 0
IsStop row names shelf shelf' (Refused r) = Goes (MayTell shelf.files) names row status.Refused (refused_line r)
IsStop row names shelf shelf' (ReadFault w) = Contains names w.now × Risen (shelf.faults w.now) (shelf'.faults w.now)
IsStop row names shelf shelf' (TooLarge w) = Goes (MayTell shelf.files) names row status.TooLarge (too_large_line w.now)
IsStop row names shelf shelf' Memory = Unit {0}

-- What a command with this row answers: an ending to which its row goes, or why it stopped
abbrev pub AnswersByRow : Row → List (List ℕ) → ShelfState → ShelfState → Result Ending Stop → Type 0
AnswersByRow row names shelf shelf' (Ok ending) = Goes (MayTell shelf.files) names row ending.status ending.text.items
AnswersByRow row names shelf shelf' (Err stop) = IsStop row names shelf shelf' stop

abbrev pub Answers : List Function → Command → List (List ℕ) → ShelfState → ShelfState → Result Ending Stop → Type 0
Answers functions command names shelf shelf' answer = AnswersByRow (row_of functions command) names shelf shelf' answer

-- ---- what is written then

-- the status and the line with which a call ends that stopped
abbrev pub StopSays : Stop → Status → List ℕ → Type 0
StopSays (Refused r) = IsRefused r
StopSays (ReadFault w) = Exactly status.ReadFault (read_fault_line w.now)
StopSays (TooLarge w) = IsTooLarge w.now
StopSays Memory = λ status text. ⊥

-- the status and the text
abbrev pub AnswerSays : Result Ending Stop → Status → List ℕ → Type 0
AnswerSays (Ok ending) = Exactly ending.status ending.text.items
AnswerSays (Err stop) = StopSays stop

-- ---- a command whose text is written while its run is made

-- a status and a text with which a command with this row may end: so its row goes, or they say why it stopped
abbrev pub SaysByRow : Row → List (List ℕ) → ShelfState → ShelfState → Status → List ℕ → Type 0
SaysByRow row names shelf shelf' status text = Goes (MayTell shelf.files) names row status text ⊎ ((stop : Stop) × IsStop row names shelf shelf' stop × StopSays stop status text)

-- What the command has written when it ends so; a part of a text without memory only where it asks for workers
abbrev pub HasSaid : List Function → Command → List (List ℕ) → ShelfState → ShelfState → SinkState → SinkState → Status → Type 0
HasSaid functions command names shelf shelf' sink sink' status = HasWritten (SaysByRow (row_of functions command) names shelf shelf') ⊤ (workers_of command ≢ 0) sink sink' status
