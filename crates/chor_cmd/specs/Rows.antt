-- What each command makes of its files: one row for each (this project's own).
use Rattle.std.specs.Prelude.{ℕ, ◌≡◌, ◌≤◌, Bool, List, length, Ok, Err, codes}
use Rattle.chor_base.specs.declared.event.Event.{Event}
use Rattle.chor_base.specs.declared.rule.Refusal.{Refusal}
use Rattle.chor_tree.specs.declared.file.File.{File}
use Rattle.chor_host.specs.Functions.{Function, names_of, hosts_in}
use Rattle.chor_print.specs.Text.{canonical_text}
use Rattle.local_types.specs.Texts.{IsTypesText}
use Rattle.replay.specs.declared.answer.Replayed.{Replayed}
use Rattle.replay.specs.declared.answer.ReplayFault.TheVariants.{Unmatched as unlike}
use Rattle.event_files.specs.FewLines.{HasFewLines}
use Rattle.command_words.specs.declared.words.Command.{Command}
use Rattle.command_words.specs.declared.words.Command.TheVariants.{Check, Fmt, Types, Project, Run, Exec, Link, Replay, Order, Conform, Resume, Gen}
use Rattle.command_words.specs.declared.options.Options.{Options}
use Rattle.command_words.specs.declared.order_form.OrderForm.{OrderForm}
use Rattle.source_check.specs.declared.rules.Rules.{Rules}
use Rattle.source_check.specs.declared.rules.Rules.TheVariants.{All, Grammar, Views}
use Rattle.source_check.specs.Source.{IsAccepted, Violates}
use Rattle.endpoint_code.specs.declared.endpoints.Endpoints.{Endpoints}
use Rattle.endpoint_check.specs.Programs.{AreProgramsOf, ViolatesPrograms}
use Rattle.program_runs.specs.Books.{book_of}
use Rattle.accepted_links.specs.Linked.{IsLinkRefusal}
use Rattle.accepted_orders.specs.Numbers.{IsBeyond}
use Rattle.accepted_orders.specs.Sources.{TellsOrder}
use Rattle.accepted_replays.specs.Events.{HasSourceEvents}
use Rattle.simulation.specs.Capacity.{capacity_of}
use Rattle.chor_cmd.specs.declared.status.Status.{Status}
use Rattle.chor_cmd.specs.declared.status.Status.TheVariants.{Done, Refused, Unmatched}
use Rattle.chor_cmd.specs.Status.{status_of}
use Rattle.chor_cmd.specs.Outputs.{IsProjectionText, IsRunText, IsLinkedRun, IsExecution, IsReplayOf, IsResumedRun, IsResumeFault, IsConformingOf, IsGenerated}
use Rattle.chor_cmd.specs.Outputs.{refused_line, replayed_line, unmatched_line, beyond_line, conforms_line}

-- ---- rows

-- How a call goes on: it reads its next file, and goes on where its bytes are no more than they may be; or what was read is judged,
-- and it goes on where that is fine and is refused where it is broken; or it ends, with a status and a text of which this is said
pub data Row : Type 1 where
  Reads : (Fits : List ℕ → Type 0) (next : List ℕ → Row) → Row
  Judges : (Fine : Type 0) (Broken : Refusal → Type 0) (next : Row) → Row
  Closes : (Says : Status → List ℕ → Type 0) → Row

-- exactly this status and this text
abbrev pub Exactly : Status → List ℕ → Status → List ℕ → Type 0
Exactly s t status text = (status ≡ s) × (text ≡ t)

-- the line of a refusal
abbrev pub IsRefused : Refusal → Status → List ℕ → Type 0
IsRefused r = Exactly Refused (refused_line r)

-- the command is done, with such a text
abbrev pub IsDoneWith : (List ℕ → Type 0) → Status → List ℕ → Type 0
IsDoneWith Says status text = (status ≡ Done) × Says text

abbrev pub Writes : (List ℕ → Type 0) → Row
Writes Says = Closes (IsDoneWith Says)

-- at most so many bytes
abbrev pub AtMost : ℕ → List ℕ → Type 0
AtMost limit bytes = length bytes ≤ limit

-- how many bytes a source has at most: 1 MiB
abbrev pub source_limit : ℕ
source_limit = 1048576

-- endpoint programs: 16 MiB
abbrev pub programs_limit : ℕ
programs_limit = 16777216

-- an events file: 64 MiB
abbrev pub events_limit : ℕ
events_limit = 67108864

-- an events file is read, of which this is said
abbrev pub after_events : (List ℕ → Status → List ℕ → Type 0) → Row
after_events Says = Reads (AtMost events_limit) (λ log. Closes (Says log))

-- how many whole lines there are at most of a run that goes on
abbrev pub lines_limit : ℕ
lines_limit = 1000000

-- the bytes are no more than an events file has, nor are its whole lines
abbrev pub IsShortLog : List ℕ → Type 0
IsShortLog log = AtMost events_limit log × HasFewLines lines_limit log

-- an events file with few lines is read, of which this is said
abbrev pub after_short_log : (List ℕ → Status → List ℕ → Type 0) → Row
after_short_log Says = Reads IsShortLog (λ log. Closes (Says log))

module _ (functions : List Function) where
  -- the bytes are the text of a source that violates none of these rules
  abbrev pub IsFineSource : Rules → List ℕ → Type 0
  IsFineSource rules bytes = (f : File) × IsAccepted rules (names_of functions) bytes f

  -- the bytes are the text of endpoint programs without a fault
  abbrev pub ArePrograms : List ℕ → Type 0
  ArePrograms bytes = (e : Endpoints) × AreProgramsOf (names_of functions) bytes e

  -- the bytes are a source, which is judged by these rules
  abbrev pub judged : Rules → List ℕ → Row → Row
  judged rules bytes next = Judges (IsFineSource rules bytes) (Violates rules (names_of functions) bytes) next

  -- the bytes are endpoint programs
  abbrev pub judged_programs : List ℕ → Row → Row
  judged_programs bytes next = Judges (ArePrograms bytes) (ViolatesPrograms (names_of functions) bytes) next

  -- what is written for a source that violates none of these rules
  abbrev pub OfSource : Rules → (File → List ℕ → Type 0) → List ℕ → List ℕ → Type 0
  OfSource rules Says bytes text = (f : File) × IsAccepted rules (names_of functions) bytes f × Says f text

  -- a command that reads a source first
  abbrev pub after_source : Rules → (List ℕ → Row) → Row
  after_source rules next = Reads (AtMost source_limit) (λ bytes. judged rules bytes (next bytes))

  -- a command that reads endpoint programs next
  abbrev pub after_programs : (List ℕ → Row) → Row
  after_programs next = Reads (AtMost programs_limit) (λ bytes. judged_programs bytes (next bytes))

  -- a command on one source
  abbrev pub on_source : Rules → (File → List ℕ → Type 0) → Row
  on_source rules Says = after_source rules (λ bytes. Writes (OfSource rules Says bytes))

  -- a run of endpoint programs is done, or is stuck
  pub data Executes (options : Options) (bytes : List ℕ) : Status → List ℕ → Type 0 where
    executes : {text : List ℕ} (stuck : Bool) → IsExecution functions options bytes text stuck → Executes options bytes (status_of stuck) text

  -- a replay is done, or comes to a line that doesn't match
  pub data Replays (bytes log : List ℕ) : Status → List ℕ → Type 0 where
    replays : (r : Replayed) → IsReplayOf functions bytes log (Ok r) → Replays bytes log Done (replayed_line r)
    misses : (i : ℕ) → IsReplayOf functions bytes log (Err (unlike i)) → Replays bytes log Unmatched (unmatched_line i)

  -- a run goes on, or comes to a line that doesn't match
  pub data Resumes (options : Options) (bytes log : List ℕ) : Status → List ℕ → Type 0 where
    resumes : {text : List ℕ} → IsResumedRun functions options bytes log text → Resumes options bytes log Done text
    stops : (i : ℕ) → IsResumeFault functions bytes log (unlike i) → Resumes options bytes log Unmatched (unmatched_line i)

  -- a log conforms, or comes to a line that doesn't match
  pub data Conforms (bytes log : List ℕ) : Status → List ℕ → Type 0 where
    conforms : (r : Replayed) → IsConformingOf functions bytes log (Ok r) → Conforms bytes log Done (conforms_line r.count)
    strays : (i : ℕ) → IsConformingOf functions bytes log (Err (unlike i)) → Conforms bytes log Unmatched (unmatched_line i)

  -- a source is run with given programs in their places, or one of these doesn't suit its place
  pub data Links (options : Options) (source units : List ℕ) : Status → List ℕ → Type 0 where
    runs : {text : List ℕ} → IsLinkedRun functions options source units text → Links options source units Done text
    clashes : {line : List ℕ} → IsLinkRefusal functions source units line → Links options source units Refused line

  -- what is written for a source that violates no rule and an events file that is replayed on it, of its events
  abbrev pub OfEvents : (File → List Event → Type 0) → List ℕ → List ℕ → Type 0
  OfEvents Says bytes log = (f : File) × IsAccepted All (names_of functions) bytes f × ((h : List Event) × HasSourceEvents f (hosts_in f.names functions) (capacity_of f) log h × Says f h)

  -- What is asked for of the order of events is told, or a line doesn't match, or no event has a number that is asked for
  pub data Orders (form : OrderForm) (bytes log : List ℕ) : Status → List ℕ → Type 0 where
    orders : {text : List ℕ} → OfEvents (λ f h. TellsOrder (book_of f) (capacity_of f) form h text) bytes log → Orders form bytes log Done text
    breaks_off : (i : ℕ) → IsReplayOf functions bytes log (Err (unlike i)) → Orders form bytes log Unmatched (unmatched_line i)
    beyond : (n : ℕ) → OfEvents (λ f h. IsBeyond form (length h) n) bytes log → Orders form bytes log Refused (beyond_line n)

  -- THE TABLE, where these host functions are there
  abbrev pub row_of : Command → Row
  row_of Check = on_source All (λ f text. text ≡ codes "ok\n")
  row_of Fmt = on_source Grammar (λ f text. text ≡ canonical_text f)
  row_of Types = on_source Views IsTypesText
  row_of Project = on_source All IsProjectionText
  row_of (Run options) = on_source All (λ f. IsRunText functions f options)
  row_of (Exec options) = after_programs (λ bytes. Closes (Executes options bytes))
  row_of Replay = after_source All (λ bytes. after_events (Replays bytes))
  row_of (Gen n whole) = Writes (IsGenerated functions n whole)
  row_of (Link options) = after_source All (λ source. after_programs (λ units. Closes (Links options source units)))
  row_of (Order form) = after_source All (λ bytes. after_events (Orders form bytes))
  row_of Conform = after_source Views (λ bytes. after_events (Conforms bytes))
  row_of (Resume options) = after_source All (λ bytes. after_short_log (Resumes options bytes))
