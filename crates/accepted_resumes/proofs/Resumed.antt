-- The run of a source that goes on after given events.
use Rattle.std.proofs.Common.{◌≡◌, ◌∙◌, ℕ, zero, suc, true, false, List, [], ◌∷◌, ◌++◌, length, take, refl, sym, ap, subst, Option}
use Rattle.std.specs.Prelude.{Result, Ok, Err, IfErr, IsErrAnd}
use Rattle.chor_base.specs.declared.event.Entry.{Entry}
use Rattle.chor_base.specs.declared.event.Event.{Event}
use Rattle.chor_base.specs.Meaning.{Hosts}
use Rattle.chor_host.specs.Functions.{Function, hosts_in}
use Rattle.chor_tree.specs.declared.file.File.{File}
use Rattle.chor_semantics.specs.Runs.{IsRun}
use Rattle.endpoint_code.specs.declared.endpoints.Endpoints.{Endpoints}
use Rattle.endpoint_code.specs.Network.{NetworkState, has_room, first_state}
use Rattle.endpoint_code.specs.NetworkRuns.{NetworkLeads, IsNetworkRun}
use Rattle.endpoint_code.specs.Scheduled.{Close, IsScheduled}
use Rattle.endpoint_runs.specs.declared.run.Closed.{Closed}
use Rattle.endpoint_runs.specs.declared.run.Closed.TheVariants.{Ended, Limit, Stuck}
use Rattle.endpoint_runs.specs.declared.run.Ran.{Ran}
use Rattle.endpoint_runs.specs.Runs.{close_of as closing_of}
use Rattle.well_formed.specs.Asked.{IsAnswered}
use Rattle.accepted_files.specs.Accepted.{RunsAreNetworkRuns}
use Rattle.accepted_files.specs.MoreNames.{ScheduledRunsAskAlike}
use Rattle.accepted_files.specs.Runs.{IsContinued, ScheduledRunsAreRuns}
use Rattle.net_core.specs.Picks.{entries_of}
use Rattle.replay.specs.Replays as network
use Rattle.replay.specs.declared.answer.ReplayFault.{ReplayFault}
use Rattle.replay.specs.declared.answer.ReplayFault.TheVariants.{Unmatched, Memory}
use Rattle.resume.specs.Resumes.{IsResumed, Resumes, most_events}
use Rattle.resume.specs.declared.resuming.Plan.{Plan}
use Rattle.transcript.specs.Text.{transcript}
use Rattle.transcript_lines.specs.Whole.{whole_lines}
use Rattle.program_runs.specs.Books.{book_of}
use Rattle.program_runs.specs.Transcripts.{events_of, closing_text}
use Rattle.program_runs.proofs.Transcripts.{events_back, as_long}
use Rattle.simulation.specs.Accepted.{AcceptedView}
use Rattle.accepted_replays.specs.Events.{HasSourceEvents}
use Rattle.accepted_replays.proofs.Programs.{AreSound}
use Rattle.accepted_resumes.specs.Sources.{IsResumedOf}

-- ---- given events

-- a front of a run is a run
front_leads : (e : Endpoints) (hosts : Hosts) (cap : Option ℕ) (i : ℕ) (xs : List Event) (n k : NetworkState) → NetworkLeads e hosts cap n xs k → (m : NetworkState) × NetworkLeads e hosts cap n (take i xs) m
front_leads e hosts cap zero xs n k run = (n, refl)
front_leads e hosts cap (suc i) [] n k run = (n, refl)
front_leads e hosts cap (suc i) (x ∷ xs) n k (mid, first, rest) = let r = front_leads e hosts cap i xs mid k rest in (r.0, (mid, first, r.1))

-- so no event of a run is unmatched
pub never_unmatched : (e : Endpoints) (hosts : Hosts) (cap : Option ℕ) (xs : List Event) (i : ℕ) → network.IsRun e hosts cap xs → network.IsUnmatched e hosts cap xs i → ⊥
never_unmatched e hosts cap xs i run u = u.none (front_leads e hosts cap (suc u.before) xs (first_state e) run.0 run.1)

-- where a fault comes from given events that are a run, it is want of memory
pub never_stops : {A : Type 0} (P : ReplayFault → Type 0) (e : Endpoints) (hosts : Hosts) (plan : Plan) (xs : List Event) → network.IsRun e hosts plan.capacity xs → (fault : ReplayFault) → Resumes e hosts plan xs (Err fault) → P Memory
    → (r : Result A ReplayFault) → IsErrAnd r (λ x. x ≡ fault) → IfErr r P
never_stops P e hosts plan xs run (Unmatched i) u none r is = absurd (never_unmatched e hosts plan.capacity xs i run u)
never_stops P e hosts plan xs run Memory u none (Ok x) is = tt
never_stops P e hosts plan xs run Memory u none (Err x) is = subst P (sym is) none

-- a run of the source is one of its endpoint programs
pub run_of_programs : (words : List (List ℕ)) (f : File) (e : Endpoints) → AreSound words f e → RunsAreNetworkRuns → (functions : List Function) (cap : Option ℕ) (h : List Event) → IsRun f (hosts_in f.names functions) cap h → network.IsRun e (hosts_in e.names functions) cap h
run_of_programs words f e s back functions cap h run =
    let there = back f words s.checked e s.above (hosts_in f.names functions) cap h run in
    (there.0, (s.alike f words s.checked e s.above s.distinct functions cap h there.0).1 there.1)

-- ---- the run

-- what the pick rule gives in a source's endpoint programs is a run of the source
continued : (words : List (List ℕ)) (f : File) (e : Endpoints) → AreSound words f e → ScheduledRunsAskAlike → ScheduledRunsAreRuns → (functions : List Function) → IsAnswered f (hosts_in f.names functions) → (cap : Option ℕ) → has_room cap [] ≡ true
    → (given : List Event) (from : NetworkState) → IsNetworkRun e (hosts_in e.names functions) cap given from
    → (seed steps : ℕ) (h : List Event) (last : NetworkState) (close : Close) → IsScheduled e (hosts_in e.names functions) cap seed steps from (length given) h last close
    → IsContinued f e (hosts_in f.names functions) cap seed steps given h close
continued words f e s alike running functions answered cap room given from run seed steps h last close on =
    let there = (s.alike f words s.checked e s.above s.distinct functions cap given from).0 run in
    let asked = alike f words s.checked e s.above s.distinct functions cap given from run seed steps h last close on in
    running f words s.checked e s.above (hosts_in f.names functions) answered cap room given from there seed steps h last close asked

-- ---- its transcript

module _ (words : List (List ℕ)) (a : AcceptedView) (e : Endpoints) (programs : e ≡ a.endpoints) (s : AreSound words a.typed.file e) (alike : ScheduledRunsAskAlike) (running : ScheduledRunsAreRuns)
    (functions : List Function) (answered : IsAnswered a.typed.file (hosts_in a.typed.file.names functions)) (plan : Plan) (room : has_room plan.capacity [] ≡ true) (bytes : List ℕ) (given : List Event) where
  abbrev hosts : Hosts
  hosts = hosts_in a.typed.file.names functions

  abbrev steps : ℕ
  steps = most_events plan.schedule (length given)

  -- where it isn't stuck, it ends with how the run is closed
  told_so : HasSourceEvents a.typed.file hosts plan.capacity (whole_lines bytes) given → (after : List Event) (text : List ℕ) (closed : Closed) → IsContinued a.typed.file a.endpoints hosts plan.capacity plan.schedule.seed steps given after (closing_of closed)
      → text ≡ transcript (book_of a.typed.file) (given ++ after) (closing_text (book_of a.typed.file) (length (given ++ after)) (closing_of closed)) → IsResumedOf a functions plan bytes text
  told_so read after text Ended run is = record { given = given; told = read; after = after; ended = true; run = run; text_is = is }
  told_so read after text Limit run is = record { given = given; told = read; after = after; ended = false; run = run; text_is = is }
  told_so read after text (Stuck p why) run is = absurd run.closed.closes

  pub resumed_of : HasSourceEvents a.typed.file hosts plan.capacity (whole_lines bytes) given → (ran : Ran) → IsResumed e (hosts_in e.names functions) plan given ran
      → (f : File) → f ≡ a.typed.file → (text : List ℕ) → text ≡ transcript (book_of f) (events_of ran.history) (closing_text (book_of f) (length ran.history) (closing_of ran.closed)) → IsResumedOf a functions plan bytes text
  resumed_of read ran r f file text is =
      let w = book_of a.typed.file in
      let close = closing_of ran.closed in
      let h = given ++ r.after in
      let run = continued words a.typed.file e s alike running functions answered plan.capacity room given r.from r.given_run plan.schedule.seed steps r.after r.last close r.scheduled in
      told_so read r.after text ran.closed
      (subst (λ (x : Endpoints). IsContinued a.typed.file x hosts plan.capacity plan.schedule.seed steps given r.after close) programs run)
      (is
      ∙ ap (λ (x : File). transcript (book_of x) (events_of ran.history) (closing_text (book_of x) (length ran.history) close)) file
      ∙ ap (λ (es : List Entry). transcript w (events_of es) (closing_text w (length es) close)) r.history
      ∙ ap (λ (l : List Event). transcript w l (closing_text w (length (entries_of h)) close)) (events_back h)
      ∙ ap (λ (n : ℕ). transcript w h (closing_text w n close)) (as_long h))
