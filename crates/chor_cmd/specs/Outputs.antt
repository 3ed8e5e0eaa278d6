-- What the commands write for a file, and the lines that say what is wrong (this project's own).
use Rattle.std.specs.Prelude.{ℕ, ◌≡◌, Bool, true, false, List, [], ◌∷◌, ◌++◌, length, Option, Some, None, Result, codes}
use Rattle.std.specs.Fmt.{decimal}
use Rattle.chor_base.specs.declared.rule.Refusal.{Refusal}
use Rattle.chor_base.specs.Writing.{rule_name}
use Rattle.chor_base.specs.declared.event.Event.{Event}
use Rattle.chor_tree.specs.declared.file.File.{File}
use Rattle.endpoint_code.specs.declared.endpoints.Endpoints.{Endpoints}
use Rattle.projection.specs.Projects.{Projects}
use Rattle.endpoint_text.specs.Text.{endpoints_text}
use Rattle.transcript.specs.Text.{transcript}
use Rattle.command_words.specs.declared.options.Options.{Options}
use Rattle.chor_host.specs.Functions.{Function, names_of, hosts_in}
use Rattle.simulation.specs.Runs.{close_of}
use Rattle.source_check.specs.declared.rules.Rules.TheVariants.{All, Views}
use Rattle.source_check.specs.Source.{IsAccepted}
use Rattle.replay.specs.declared.answer.Replayed.{Replayed}
use Rattle.replay.specs.declared.answer.ReplayFault.{ReplayFault}
use Rattle.program_runs.specs.Books.{book_of}
use Rattle.accepted_replays.specs.Sources.{ReplaysSource}
use Rattle.accepted_resumes.specs.Sources.{IsResumedOf, StopsResume}
use Rattle.conforming_logs.specs.Logs.{ConformsSource}
use Rattle.resume.specs.declared.resuming.Plan.{Plan}
use Rattle.simulation.specs.Accepted.{AcceptedView}
use Rattle.simulation.specs.Capacity.{capacity_of}
use Rattle.accepted_links.specs.Linked.{AreLinkedPrograms}
use Rattle.generated_runs.specs.Texts.{IsGeneratedText, IsSummary}
use Rattle.endpoint_check.specs.Programs.{AreProgramsOf}
use Rattle.chor_cmd.specs.Runs.{IsAskedRun, IsAskedTranscript}

-- ---- the texts

-- the last line of the transcript of a run of n events that has ended
abbrev pub end_line : ℕ → List ℕ
end_line n = codes "end " ++ decimal n

-- the last line of the transcript of a run that is open after n events
abbrev pub limit_line : ℕ → List ℕ
limit_line n = codes "limit " ++ decimal n

-- the last line, for a run that has come to its end, or to as many events as were asked for
abbrev pub last_line : Bool → ℕ → List ℕ
last_line true n = end_line n
last_line false n = limit_line n

-- The text is the transcript of a run under this capacity, as the options ask for it, of the network of these endpoint programs of a
-- file, which asks these host functions: a run of its choreography in which messages are received first in, first out, and sessions follow their
-- protocols; with `end` each process has ended, each queue is empty and nothing is left to happen, with `limit` the run
-- is as long as was asked for and open
pub record TellsRun (functions : List Function) (f : File) (programs : Endpoints) (cap : Option ℕ) (options : Options) (text : List ℕ) : Type 0 where
  pub history : List Event
  pub ended : Bool
  pub run : IsAskedRun f programs (hosts_in f.names functions) cap options history (close_of ended)
  pub text_is : text ≡ transcript (book_of f) history (last_line ended (length history))

-- the text is that of such a run of this file's projection
pub record IsRunUnder (cap : Option ℕ) (functions : List Function) (f : File) (options : Options) (text : List ℕ) : Type 0 where
  pub endpoints : Endpoints
  pub projects : Projects f endpoints
  pub tells : TellsRun functions f endpoints cap options text

-- under the file's own capacity
abbrev pub IsRunText : List Function → File → Options → List ℕ → Type 0
IsRunText functions f options text = IsRunUnder (capacity_of f) functions f options text

-- the text is that of such a run of a source's projection with given programs in their places, under the source's capacity
pub record IsLinkedRun (functions : List Function) (options : Options) (source units text : List ℕ) : Type 0 where
  pub file : File
  pub linked : Endpoints
  pub programs : AreLinkedPrograms functions source units file linked
  pub tells : TellsRun functions file linked (capacity_of file) options text

-- the text is that of endpoint programs that are the projection of this file
pub record IsProjectionText (f : File) (text : List ℕ) : Type 0 where
  pub endpoints : Endpoints
  pub projects : Projects f endpoints
  pub text_is : text ≡ endpoints_text endpoints

-- ---- the lines

-- for words of no form
abbrev pub usage_line : List ℕ
usage_line = codes "usage: chor COMMAND ARGUMENTS\n"

-- a line that names a file
abbrev pub line_naming : List ℕ → List ℕ → List ℕ
line_naming what name = what ++ name ++ 10 ∷ []

-- for a file that could not be read
abbrev pub read_fault_line : List ℕ → List ℕ
read_fault_line name = line_naming (codes "read fault ") name

-- for a file that is longer than it may be
abbrev pub too_large_line : List ℕ → List ℕ
too_large_line name = line_naming (codes "too large ") name

-- the name of the process or role, after a space, where the refusal tells one
abbrev pub who_told : Option (List ℕ) → List ℕ
who_told None = []
who_told (Some name) = 32 ∷ name

-- `refused`, the rule, its place as line and column, and who it is about
abbrev pub refused_line : Refusal → List ℕ
refused_line r = codes "refused " ++ rule_name r.rule ++ codes " " ++ decimal r.place.line ++ codes ":" ++ decimal r.place.col ++ who_told r.who ++ 10 ∷ []

-- whether a run has ended
abbrev pub state_word : Bool → List ℕ
state_word true = codes "ended"
state_word false = codes "open"

-- `replayed 10 ended`, or `open` for a run that hasn't ended
abbrev pub replayed_line : Replayed → List ℕ
replayed_line r = codes "replayed " ++ decimal r.count ++ codes " " ++ state_word r.ended ++ 10 ∷ []

-- `unmatched 2`
abbrev pub unmatched_line : ℕ → List ℕ
unmatched_line i = codes "unmatched " ++ decimal i ++ 10 ∷ []

-- `conforms 10`
abbrev pub conforms_line : ℕ → List ℕ
conforms_line n = codes "conforms " ++ decimal n ++ 10 ∷ []

-- `refused O1 3`: no event has this number
abbrev pub beyond_line : ℕ → List ℕ
beyond_line n = codes "refused O1 " ++ decimal n ++ 10 ∷ []

-- ---- answers

-- how a run of this file goes on that the options of `resume` ask for
abbrev pub plan_of : File → Options → Plan
plan_of f options = record { capacity = capacity_of f; schedule = record { seed = options.seed; steps = options.steps } }

-- the bytes are the text of endpoint programs without fault, and the text is the transcript of a run of them, as the options ask
-- for it, which is stuck or not
pub record IsExecution (functions : List Function) (options : Options) (bytes text : List ℕ) (stuck : Bool) : Type 0 where
  pub programs : Endpoints
  pub are : AreProgramsOf (names_of functions) bytes programs
  pub run : IsAskedTranscript functions programs options text stuck

-- the bytes are the text of a source that violates no rule, and so a replay of the events file in its choreography, under its
-- capacity, answers
pub record IsReplayOf (functions : List Function) (bytes events : List ℕ) (answer : Result Replayed ReplayFault) : Type 0 where
  pub file : File
  pub accepted : IsAccepted All (names_of functions) bytes file
  pub replays : ReplaysSource file (hosts_in file.names functions) (capacity_of file) events answer

-- the bytes are the text of a source that violates no rule, and the text is the transcript of a run of its choreography that goes on
-- after the events of this log, as the options ask for it
pub record IsResumedRun (functions : List Function) (options : Options) (bytes log text : List ℕ) : Type 0 where
  pub accepted : AcceptedView
  pub source : IsAccepted All (names_of functions) bytes accepted.typed.file
  pub projects : Projects accepted.typed.file accepted.endpoints
  pub resumes : IsResumedOf accepted functions (plan_of accepted.typed.file options) log text

-- the bytes are the text of a source that violates no rule, and this is why no run of its choreography goes on after this log
pub record IsResumeFault (functions : List Function) (bytes log : List ℕ) (fault : ReplayFault) : Type 0 where
  pub file : File
  pub accepted : IsAccepted All (names_of functions) bytes file
  pub stops : StopsResume file (hosts_in file.names functions) (capacity_of file) log fault

-- the bytes are the text of a source whose names, protocols and views have no fault, and so a log is judged by its protocols
pub record IsConformingOf (functions : List Function) (bytes log : List ℕ) (answer : Result Replayed ReplayFault) : Type 0 where
  pub file : File
  pub accepted : IsAccepted Views (names_of functions) bytes file
  pub conforms : ConformsSource file log answer

-- what `gen` writes: the generated file's text, or how many events, sessions and processes its run has
abbrev pub IsGenerated : List Function → ℕ → Bool → List ℕ → Type 0
IsGenerated functions n true text = IsGeneratedText n text
IsGenerated functions n false text = IsSummary functions n text
