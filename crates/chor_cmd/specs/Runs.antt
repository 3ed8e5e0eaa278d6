-- Which runs the options of `run`, `exec` and `link` ask for: without workers the scheduled run, with workers any closed run (this project's
-- own). `exec` runs under the capacity of its options, the others under that of the source.
use Rattle.std.specs.Prelude.{ℕ, zero, suc, ◌≡◌, ◌≢◌, Bool, List, Option}
use Rattle.chor_base.specs.declared.event.Event.{Event}
use Rattle.chor_base.specs.Meaning.{Hosts}
use Rattle.chor_host.specs.Functions.{Function}
use Rattle.chor_tree.specs.declared.file.File.{File}
use Rattle.command_words.specs.declared.options.Options.{Options}
use Rattle.command_words.specs.declared.words.Words.{Words}
use Rattle.command_words.specs.declared.words.Command.{Command}
use Rattle.command_words.specs.declared.words.Command.TheVariants.{Run, Exec, Link}
use Rattle.command_words.specs.Words.{IsForm}
use Rattle.endpoint_code.specs.declared.endpoints.Endpoints.{Endpoints}
use Rattle.endpoint_code.specs.Scheduled.{Close}
use Rattle.accepted_files.specs.ClosedRuns.{IsClosedRunOf}
use Rattle.simulation.specs.Runs.{IsRunOf}
use Rattle.program_runs.specs.Transcripts.{IsTranscriptOf}
use Rattle.program_runs.specs.ByWorkers.{IsTranscriptBy}

-- these events are a run of endpoint programs, by how many workers make it: the scheduled run for none, else any closed run
abbrev pub RunBy : ℕ → File → Endpoints → Hosts → Option ℕ → Options → List Event → Close → Type 0
RunBy zero f e hosts cap options h close = IsRunOf f e hosts cap options.seed options.steps h close
RunBy (suc n) f e hosts cap options h close = IsClosedRunOf f e hosts cap options.steps h close

-- These events are a run of the network of the file's endpoint programs under this capacity, as the options ask for it, which closes
-- so: the scheduled run where they ask for no workers, else any closed run
abbrev pub IsAskedRun : File → Endpoints → Hosts → Option ℕ → Options → List Event → Close → Type 0
IsAskedRun f e hosts cap options h close = RunBy options.workers f e hosts cap options h close

-- the text is the transcript of such a run, by the number of workers
abbrev pub TranscriptBy : ℕ → List Function → Endpoints → Options → List ℕ → Bool → Type 0
TranscriptBy zero functions e options text stuck = IsTranscriptOf functions e options.capacity options.seed options.steps text stuck
TranscriptBy (suc n) functions e options text stuck = IsTranscriptBy functions e options.capacity options.steps text stuck

-- The text is the transcript of such a run of endpoint programs, under the capacity that the options give, which is stuck or not
abbrev pub IsAskedTranscript : List Function → Endpoints → Options → List ℕ → Bool → Type 0
IsAskedTranscript functions e options text stuck = TranscriptBy options.workers functions e options text stuck

-- how many workers a command asks for
abbrev pub workers_of : Command → ℕ
workers_of (Run options) = options.workers
workers_of (Exec options) = options.workers
workers_of (Link options) = options.workers
workers_of _ = 0

-- the words ask for no workers
abbrev pub AsksNoWorkers : Words → Type 0
AsksNoWorkers words = (command : Command) (names : List (List ℕ)) → IsForm words command names → workers_of command ≡ 0

-- the words are of a form whose command asks for workers
pub record AsksWorkers (words : Words) : Type 0 where
  pub command : Command
  pub names : List (List ℕ)
  pub form : IsForm words command names
  pub some : workers_of command ≢ 0
