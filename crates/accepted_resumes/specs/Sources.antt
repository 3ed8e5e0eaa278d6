-- Runs of a source that go on after the events of a file (this project's own).
use Rattle.std.specs.Prelude.{ℕ, ◌≡◌, ◌++◌, Bool, List, length, Option}
use Rattle.chor_base.specs.declared.event.Event.{Event}
use Rattle.chor_base.specs.Meaning.{Hosts}
use Rattle.chor_host.specs.Functions.{Function, hosts_in}
use Rattle.chor_tree.specs.declared.file.File.{File}
use Rattle.chor_semantics.specs.Runs.{IsRun, IsEndedRun}
use Rattle.transcript.specs.Text.{transcript}
use Rattle.program_runs.specs.Books.{book_of}
use Rattle.program_runs.specs.Transcripts.{closing_text}
use Rattle.accepted_files.specs.Runs.{IsContinued}
use Rattle.simulation.specs.Accepted.{AcceptedView}
use Rattle.simulation.specs.Runs.{close_of}
use Rattle.replay.specs.declared.answer.ReplayFault.{ReplayFault}
use Rattle.replay.specs.declared.answer.ReplayFault.TheVariants.{Unmatched, Memory}
use Rattle.resume.specs.Resumes.{most_events}
use Rattle.resume.specs.declared.resuming.Plan.{Plan}
use Rattle.transcript_lines.specs.Lines.{lines_of}
use Rattle.transcript_lines.specs.Whole.{whole_lines}
use Rattle.event_files.specs.Files.{IsUnmatched}
use Rattle.accepted_replays.specs.Events.{HasSourceEvents}

-- The text is the transcript of a run of an accepted file, where these host functions are there. It begins with the events that the
-- whole lines of these bytes tell, which all match, and what follows is what the pick rule gives from there, to the run's end or to
-- as many events as asked for, or as the lines tell where these are more
pub record IsResumedOf (a : AcceptedView) (functions : List Function) (plan : Plan) (bytes text : List ℕ) : Type 0 where
  pub given : List Event
  pub told : HasSourceEvents a.typed.file (hosts_in a.typed.file.names functions) plan.capacity (whole_lines bytes) given
  pub after : List Event
  pub ended : Bool
  pub run : IsContinued a.typed.file a.endpoints (hosts_in a.typed.file.names functions) plan.capacity plan.schedule.seed (most_events plan.schedule (length given)) given after (close_of ended)
  pub text_is : text ≡ transcript (book_of a.typed.file) (given ++ after) (closing_text (book_of a.typed.file) (length (given ++ after)) (close_of ended))

-- Why a source's run doesn't go on after these bytes: this whole line is the first that doesn't match as in a replay. Want of memory
-- tells nothing
abbrev pub StopsResume : File → Hosts → Option ℕ → List ℕ → ReplayFault → Type 0
StopsResume f hosts cap bytes (Unmatched i) = IsUnmatched (book_of f) (IsRun f hosts cap) (IsEndedRun f hosts cap) (lines_of (whole_lines bytes)) i
StopsResume f hosts cap bytes Memory = Unit {0}
