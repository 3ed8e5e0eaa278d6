-- The run of a network of an accepted file's endpoint programs.
use Rattle.std.proofs.Common.{◌≡◌, ℕ, true, false, List, [], length, Option, refl, inl, inr, subst}
use Rattle.chor_base.specs.declared.event.Event.{Event}
use Rattle.chor_base.specs.declared.event.Entry.{Entry}
use Rattle.chor_base.specs.declared.fault.Fault.{Fault}
use Rattle.chor_base.specs.Meaning.{Hosts}
use Rattle.chor_base.specs.Words.{AllDistinct}
use Rattle.chor_host.specs.Functions.{Function, hosts_in}
use Rattle.chor_tree.specs.declared.file.File.{File}
use Rattle.endpoint_code.specs.declared.endpoints.Endpoints.{Endpoints}
use Rattle.endpoint_code.specs.Network.{NetworkState, first_state, has_room}
use Rattle.endpoint_code.specs.Scheduled.{Close, IsScheduled}
use Rattle.well_formed.specs.Asked.{IsAnswered}
use Rattle.type_check.specs.Typed.{IsFine}
use Rattle.linear_check.specs.Class.{IsLinearityFault}
use Rattle.endpoint_runs.specs.declared.parts.Schedule.{Schedule}
use Rattle.endpoint_runs.specs.declared.run.Closed.{Closed}
use Rattle.endpoint_runs.specs.declared.run.Closed.TheVariants.{Ended, Limit, Stuck}
use Rattle.endpoint_runs.specs.Runs.{IsRunWithin, close_of as closing_of}
use Rattle.accepted_files.specs.MoreNames.{ScheduledRunsAskAlike}
use Rattle.accepted_files.specs.Runs.{IsChecked, IsRunOf, ScheduledRunsAreRuns}
use Rattle.transcript.specs.Text.{Words, transcript}
use Rattle.program_runs.specs.Transcripts.{closing_text}
use Rattle.simulation.specs.Accepted.{AcceptedView, IsAccepted}
use Rattle.simulation.specs.Capacity.{capacity_of}
use Rattle.simulation.specs.Runs.{IsOutcome}
use Rattle.simulation.specs.Told.{IsToldOf}

-- a typed file without a fault of linearity is checked
pub linear_checked : (words : List (List ℕ)) (f : File) → IsFine words f → ((x : Fault) → IsLinearityFault f x → ⊥) → IsChecked f words
linear_checked words f fine linear = record {
  accepted = record { names = fine.names; protocols = fine.protocols; types = fine.types };
  guarded = λ x h. linear x (inl h);
  ordered = λ x h. linear x (inr h);
}

-- so is an accepted file
pub checked : (words : List (List ℕ)) (f : File) (e : Endpoints) → IsFine words f → IsAccepted words f e → IsChecked f words
checked words f e fine a = linear_checked words f fine a.linear

-- ---- the run

module _ (f : File) (words : List (List ℕ)) (e : Endpoints) (ok : IsChecked f words) (a : IsAccepted words f e) (distinct : AllDistinct e.names) (functions : List Function)
    (answered : IsAnswered f (hosts_in f.names functions)) (alike : ScheduledRunsAskAlike) (running : ScheduledRunsAreRuns) (cap : Option ℕ) (room : has_room cap [] ≡ true) (declared : cap ≡ capacity_of f) where
  abbrev hosts : Hosts
  hosts = hosts_in f.names functions

  -- a scheduled run of an accepted file's endpoint programs is one of the file
  pub run_of : (seed steps : ℕ) (history : List Event) (last : NetworkState) (close : Close) → IsScheduled e (hosts_in e.names functions) cap seed steps (first_state e) 0 history last close
      → (programs : Endpoints) → e ≡ programs → IsRunOf f programs hosts (capacity_of f) seed steps history close
  run_of seed steps history last close run programs e-is =
      let asked = alike f words ok e a.above distinct functions cap [] (first_state e) refl seed steps history last close run in
      let run = running f words ok e a.above hosts answered cap room [] (first_state e) refl seed steps history last close asked in
      subst (λ (x : Endpoints). IsRunOf f x hosts (capacity_of f) seed steps history close) e-is (subst (λ (k : Option ℕ). IsRunOf f e hosts k seed steps history close) declared run)

  -- an accepted file's run, which is closed so, with its endpoint programs under another name
  pub outcome_of : (seed steps : ℕ) (entries : List Entry) (closed is : Closed) → IsRunWithin cap e (hosts_in e.names functions) seed steps entries (closing_of closed) → closed ≡ is
      → (programs : Endpoints) → e ≡ programs → IsOutcome f programs hosts seed steps entries (closing_of is)
  outcome_of seed steps entries closed is run same programs e-is =
      let r = subst (λ (k : Closed). IsRunWithin cap e (hosts_in e.names functions) seed steps entries (closing_of k)) same run in
      record { history = r.history; entries_are = r.entries_are; run = run_of seed steps r.history r.last (closing_of is) r.scheduled programs e-is }

-- ---- its transcript

-- where the run of an accepted file isn't stuck, its transcript ends with how it is closed
pub told_of : (w : Words) (a : AcceptedView) (functions : List Function) (s : Schedule) (closed : Closed) (history : List Event) (text : List ℕ)
    → IsRunOf a.typed.file a.endpoints (hosts_in a.typed.file.names functions) (capacity_of a.typed.file) s.seed s.steps history (closing_of closed)
    → text ≡ transcript w history (closing_text w (length history) (closing_of closed)) → IsToldOf w a functions s text
told_of w a functions s Ended history text run is = record { history = history; ended = true; run = run; text_is = is }
told_of w a functions s Limit history text run is = record { history = history; ended = false; run = run; text_is = is }
told_of w a functions s (Stuck p why) history text run is = absurd run.closed.closes
