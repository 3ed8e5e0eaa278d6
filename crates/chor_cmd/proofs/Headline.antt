-- The headline's sentences follow from how the rows go.
use Rattle.std.proofs.Common.{◌≡◌, ◌≢◌, ◌≤◌, inl, inr, ℕ, zero, suc, Bool, true, false, List, [], ◌∷◌, length, Option, Some, None, refl, sym, ap, ◌∙◌, subst}
use Rattle.std.specs.Prelude.{Result, Ok, Err, ◌&&◌, nat_lt}
use Rattle.chor_base.specs.declared.rule.Refusal.{Refusal}
use Rattle.chor_tree.specs.declared.file.File.{File}
use Rattle.chor_base.specs.declared.event.Event.{Event}
use Rattle.chor_base.specs.Meaning.{Hosts}
use Rattle.chor_host.specs.Functions.{Function, hosts_in, names_of, AreAnswerable, AreSized}
use Rattle.replay.specs.declared.answer.Replayed.{Replayed}
use Rattle.replay.specs.declared.answer.ReplayFault.{ReplayFault}
use Rattle.replay.specs.declared.answer.ReplayFault.TheVariants.{Unmatched as unlike, Memory as NoMemory}
use Rattle.command_words.specs.declared.words.Command.TheVariants.{Run, Exec, Link, Replay, Order, Conform, Resume}
use Rattle.command_words.specs.declared.options.Options.{Options}
use Rattle.command_words.specs.Between.{is_capacity}
use Rattle.command_words.specs.declared.order_form.OrderForm.{OrderForm}
use Rattle.endpoint_code.specs.declared.endpoints.Endpoints.{Endpoints}
use Rattle.endpoint_code.specs.Network.{NetworkState, has_room}
use Rattle.endpoint_code.specs.Scheduled.{Close, Ended, Limit, Stuck as Stands}
use Rattle.endpoint_check.specs.Programs.{AreProgramsOf, ViolatesPrograms}
use Rattle.endpoint_text.specs.Text.{endpoints_text}
use Rattle.transcript.specs.Text.{transcript}
use Rattle.program_runs.specs.Transcripts.{closing_text}
use Rattle.program_runs.specs.Books.{book_of}
use Rattle.accepted_files.specs.Closing.{ClosesWell}
use Rattle.projected_programs.specs.Laws.{AreProjected, ProjectedTextIsTaken, ProjectedTextRuns}
use Rattle.projected_programs.specs.LawsBy.{ProjectedTextRunsByWorkers}
use Rattle.chor_cmd.specs.declared.status.Status.{Status}
use Rattle.chor_cmd.specs.declared.status.Status.TheVariants.{Done, Unmatched}
use Rattle.chor_cmd.specs.Status.{status_of}
use Rattle.chor_cmd.specs.Runs.{IsAskedRun, TranscriptBy}
use Rattle.chor_cmd.proofs.AskedRuns.{scheduled_asked, closed_asked}
use Rattle.chor_cmd.specs.Outputs.{IsRunUnder, IsReplayOf, replayed_line, unmatched_line}
use Rattle.chor_cmd.specs.Endings.{MayTell, Tells, Goes}
use Rattle.chor_cmd.specs.Rows.{Row, Reads, Judges, Closes, AtMost, IsRefused, programs_limit, events_limit, Executes, executes, Replays, replays, misses, Orders, orders, breaks_off, beyond, row_of}
use Rattle.chor_cmd.specs.Calls.{Call, Must, Comes, HasEnded, IsSettled, ReplaySays, IsBrokenFirst, IsBrokenNext, RunsSource, RunsProjected, AcceptsRuns, LinksPrograms, OrdersRun, JudgesLog, ResumesLog, RefusesBroken}
use Rattle.chor_cmd.proofs.Replayed.{one_answer}
use Rattle.chor_cmd.proofs.Settles.{same_bytes, grows, by_table}

-- ---- the text of a projection

-- the capacity that options give leaves room in an empty queue
room_of : (options : Options) → has_room options.capacity [] ≡ true
room_of options = go options.capacity options.room
  where
    first_true : (a b : Bool) → (a && b) ≡ true → a ≡ true
    first_true true b e = refl
    first_true false b e = absurd cc

    go : (cap : Option ℕ) → is_capacity cap ≡ true → has_room cap [] ≡ true
    go None e = refl
    go (Some c) e = first_true (nat_lt 0 c) (nat_lt c 1000001) e

module _ (functions : List Function) (options : Options) (source : List ℕ) (f : File) (e : Endpoints) (p : AreProjected functions source f e) (runs : ProjectedTextRuns) (runs_by : ProjectedTextRunsByWorkers) where
  abbrev hosts : Hosts
  hosts = hosts_in f.names functions

  -- a run as the options ask for it, which isn't stuck, and its transcript
  run_text : (text : List ℕ) (h : List Event) (c : Close) (last : NetworkState) → ClosesWell f e hosts options.capacity options.steps h last c → IsAskedRun f e hosts options.capacity options h c
      → text ≡ transcript (book_of f) h (closing_text (book_of f) (length h) c) → IsRunUnder options.capacity functions f options text
  run_text text h Ended last well run text_is = record { endpoints = e; projects = p.projects; tells = record { history = h; ended = true; run = run; text_is = text_is } }
  run_text text h Limit last well run text_is = record { endpoints = e; projects = p.projects; tells = record { history = h; ended = false; run = run; text_is = text_is } }
  run_text text h (Stands q why) last well run text_is = absurd well

  module _ (programs : Endpoints) (read : AreProgramsOf (names_of functions) (endpoints_text e) programs) (text : List ℕ) (stuck : Bool) where
    by_workers : (n : ℕ) → options.workers ≡ n → TranscriptBy n functions programs options text stuck → (stuck ≡ false) × IsRunUnder options.capacity functions f options text
    by_workers zero none x =
        let r = runs functions source f e p programs read options.capacity (room_of options) options.seed options.steps text stuck x in
        let run = r.0.run in
        (r.1, run_text text r.0.history r.0.close run.closed.last run.closed.closes (scheduled_asked f e hosts options.capacity options r.0.history r.0.close run) r.0.text_is)
    by_workers (suc n) some x =
        let r = runs_by functions source f e p programs read options.capacity (room_of options) options.steps text stuck x in
        let run = r.0.run in
        (r.1, run_text text r.0.history r.0.close run.last run.closes (closed_asked f e hosts options.capacity options r.0.history r.0.close (λ none. let bad : suc n ≡ 0 = sym some ∙ none in absurd cc) run) r.0.text_is)

  as_run : (bytes : List ℕ) → bytes ≡ endpoints_text e → (s : Status) (t : List ℕ) → Executes functions options bytes s t → (s ≡ Done) × IsRunUnder options.capacity functions f options t
  as_run bytes is s t (executes {text = text} stuck x) =
      let r = by_workers x.programs (subst (λ (y : List ℕ). AreProgramsOf (names_of functions) y x.programs) is x.are) text stuck options.workers refl x.run in
      (ap status_of r.0, r.1)

module _ (call : Call) where
  pub runs_projected : AreAnswerable call.functions → AreSized call.functions → ProjectedTextIsTaken → ProjectedTextRuns → ProjectedTextRunsByWorkers → HasEnded call → RunsProjected call
  runs_projected answerable sized taken runs runs_by ended = λ options name source f e accepted projects form told few.
      grows call (Goes (MayTell call.shelf.files) (name ∷ []) (row_of call.functions (Exec options))) (λ s t. (s ≡ Done) × IsRunUnder options.capacity call.functions f options t)
      (by_way options name source f e (record { answerable = answerable; sized = sized; accepted = accepted; projects = projects }) told few) (by_table call ended (Exec options) (name ∷ []) form)
    where
      by_way : (options : Options) (name source : List ℕ) (f : File) (e : Endpoints) → AreProjected call.functions source f e → Tells call.shelf.files name (endpoints_text e) → length (endpoints_text e) ≤ programs_limit
          → (s : Status) (t : List ℕ) → Goes (MayTell call.shelf.files) (name ∷ []) (row_of call.functions (Exec options)) s t → (s ≡ Done) × IsRunUnder options.capacity call.functions f options t
      by_way options name source f e p told few s t (b, may, inl (long, is)) =
          absurd (long (subst (AtMost programs_limit) (sym (same_bytes call.shelf.files name b (endpoints_text e) may told)) few))
      by_way options name source f e p told few s t (b, may, inr (less, inl (r, v, is))) =
          absurd (taken call.functions source f e p r (subst (λ (y : List ℕ). ViolatesPrograms (names_of call.functions) y r) (same_bytes call.shelf.files name b (endpoints_text e) may told) v))
      by_way options name source f e p told few s t (b, may, inr (less, inr (fine, x))) =
          as_run call.functions options source f e p runs runs_by b (same_bytes call.shelf.files name b (endpoints_text e) may told) s t x

  module _ (settled : IsSettled call) where
    pub runs_source : RunsSource call
    runs_source = λ options name bytes f form told few accepted.
        let m = settled (Run options) (name ∷ []) form bytes told in
        let next = m.1 few in
        next.1 (f, accepted)

    -- ---- `replay`

    as_answer : (bytes log : List ℕ) (answer : Result Replayed ReplayFault) → length log ≤ events_limit → IsReplayOf call.functions bytes log answer → (s : Status) (t : List ℕ) → Replays call.functions bytes log s t → ReplaySays answer s t
    as_answer bytes log (Ok r) few told s t (replays q p) =
        let same : Ok q ≡ Ok r = one_answer call.functions bytes log (Ok q) (Ok r) few p told tt tt in
        let alike : q ≡ r = cc in
        (refl, ap replayed_line alike)
    as_answer bytes log (Ok r) few told s t (misses i p) = absurd (let same : Err (unlike i) ≡ Ok r = one_answer call.functions bytes log (Err (unlike i)) (Ok r) few p told tt tt in cc)
    as_answer bytes log (Err (unlike n)) few told s t (replays q p) = absurd (let same : Ok q ≡ Err (unlike n) = one_answer call.functions bytes log (Ok q) (Err (unlike n)) few p told tt tt in cc)
    as_answer bytes log (Err (unlike n)) few told s t (misses i p) =
        let same : Err (unlike i) ≡ Err (unlike n) = one_answer call.functions bytes log (Err (unlike i)) (Err (unlike n)) few p told tt tt in
        let alike : i ≡ n = cc in
        (refl, ap unmatched_line alike)
    as_answer bytes log (Err NoMemory) few told s t x = tt

    pub accepts_runs : AcceptsRuns call
    accepts_runs = λ name log_name bytes log answer form told few told_log few_log is.
        let m = settled Replay (name ∷ log_name ∷ []) form bytes told in
        let judged = m.1 few in
        let n = judged.1 (is.file, is.accepted) log told_log in
        grows call (Replays call.functions bytes log) (ReplaySays answer) (as_answer bytes log answer few_log is) (n.1 few_log)

    -- ---- `link` and `order`

    pub links_programs : LinksPrograms call
    links_programs = λ options name units_name source units f e form told few told_units few_units accepted are.
        let m = settled (Link options) (name ∷ units_name ∷ []) form source told in
        let judged = m.1 few in
        let n = judged.1 (f, accepted) units told_units in
        let judged_units = n.1 few_units in
        judged_units.1 (e, are)

    is_ordered : (form : OrderForm) (bytes log : List ℕ) (r : Replayed) → length log ≤ events_limit → IsReplayOf call.functions bytes log (Ok r) → (s : Status) (t : List ℕ) → Orders call.functions form bytes log s t
        → (s ≢ Unmatched) × Orders call.functions form bytes log s t
    is_ordered form bytes log r few told s t (orders o) = (λ is. cc, orders o)
    is_ordered form bytes log r few told s t (breaks_off i p) = absurd (let same : Err (unlike i) ≡ Ok r = one_answer call.functions bytes log (Err (unlike i)) (Ok r) few p told tt tt in cc)
    is_ordered form bytes log r few told s t (beyond n o) = (λ is. cc, beyond n o)

    pub orders_run : OrdersRun call
    orders_run = λ form name log_name bytes log r words_are told few told_log few_log is.
        let m = settled (Order form) (name ∷ log_name ∷ []) words_are bytes told in
        let judged = m.1 few in
        let n = judged.1 (is.file, is.accepted) log told_log in
        grows call (Orders call.functions form bytes log) (λ s t. (s ≢ Unmatched) × Orders call.functions form bytes log s t) (is_ordered form bytes log r few_log is) (n.1 few_log)

    pub judges_log : JudgesLog call
    judges_log = λ name log_name bytes log f form told few told_log few_log accepted.
        let m = settled Conform (name ∷ log_name ∷ []) form bytes told in
        let judged = m.1 few in
        let n = judged.1 (f, accepted) log told_log in
        n.1 few_log

    pub resumes_log : ResumesLog call
    resumes_log = λ options name log_name bytes log f form told few told_log short accepted.
        let m = settled (Resume options) (name ∷ log_name ∷ []) form bytes told in
        let judged = m.1 few in
        let n = judged.1 (f, accepted) log told_log in
        n.1 short

    -- ---- refusals

    refused_by : (row : Row) (name : List ℕ) (names : List (List ℕ)) (bytes : List ℕ) (r : Refusal) → Tells call.shelf.files name bytes → IsBrokenFirst row bytes r → Must (Tells call.shelf.files) (Comes call) (name ∷ names) row → Comes call (IsRefused r)
    refused_by (Closes Says) name names bytes r told b m = absurd b
    refused_by (Judges Fine Broken next) name names bytes r told b m = absurd b
    refused_by (Reads Fits next) name names bytes r told b m = let n = m bytes told in go (next bytes) b.1 (n.1 b.0)
      where
        go : (row : Row) → IsBrokenNext row r → Must (Tells call.shelf.files) (Comes call) names row → Comes call (IsRefused r)
        go (Judges Fine Broken more) broken m = m.0 r broken
        go (Reads Fits next) broken m = absurd broken
        go (Closes Says) broken m = absurd broken

    pub refuses_broken : RefusesBroken call
    refuses_broken = λ command name names bytes r form told broken. refused_by (row_of call.functions command) name names bytes r told broken (settled command (name ∷ names) form)
