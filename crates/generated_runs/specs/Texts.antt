-- What is printed of a generated file (this project's own).
use Rattle.std.specs.Prelude.{ℕ, ◌≡◌, Bool, List, [], ◌∷◌, ◌++◌, length, codes, None}
use Rattle.std.specs.Fmt.{decimal}
use Rattle.chor_base.specs.declared.event.Event.{Event}
use Rattle.chor_base.specs.declared.event.Entry.{Entry}
use Rattle.chor_tree.specs.declared.file.File.{File}
use Rattle.chor_host.specs.Functions.{Function, hosts_in}
use Rattle.chor_print.specs.Text.{canonical_text}
use Rattle.generated_files.specs.Generated.{IsGenerated}
use Rattle.endpoint_code.specs.declared.endpoints.Endpoints.{Endpoints}
use Rattle.simulation.specs.Runs.{close_of, IsRunOf}
use Rattle.generated_runs.specs.Counts.{events_of, sessions_in, processes_after}

-- the canonical text of the file with so many rounds
pub record IsGeneratedText (n : ℕ) (text : List ℕ) : Type 0 where
  pub file : File
  pub generated : IsGenerated file n
  pub text_is : text ≡ canonical_text file

-- `gen 4 events 22 sessions 4 processes 4`
abbrev pub summary_line : (n events sessions processes : ℕ) → List ℕ
summary_line n events sessions processes =
    codes "gen " ++ decimal n ++ codes " events " ++ decimal events ++ codes " sessions " ++ decimal sessions ++ codes " processes " ++ decimal processes ++ 10 ∷ []

-- the line for a run of endpoint programs
abbrev pub IsLineFor : Endpoints → List Entry → ℕ → List ℕ → Type 0
IsLineFor e entries n text = text ≡ summary_line n (length entries) (sessions_in (events_of entries)) (processes_after (length e.processes) (events_of entries))

-- how many events the scheduled run of the file has, with seed 0 and at most a million events, and how many sessions and
-- processes there are in the state after it
pub record IsSummary (functions : List Function) (n : ℕ) (text : List ℕ) : Type 0 where
  pub file : File
  pub generated : IsGenerated file n
  pub endpoints : Endpoints
  pub history : List Event
  pub ended : Bool
  pub run : IsRunOf file endpoints (hosts_in file.names functions) None 0 1000000 history (close_of ended)
  pub text_is : text ≡ summary_line n (length history) run.closed.last.sid (length run.closed.last.machines)
