use Rattle.std.proofs.Common.{◌∙◌, ◌≤◌, ◌^◌, ℕ, List, length, ap, sym, subst, arith}
use Rattle.chor_base.specs.declared.event.Event.{Event}
use Rattle.chor_host.specs.Functions.{hosts_in}
use Rattle.chor_host.specs.Tables.{functions_of}
use Rattle.endpoint_code.specs.Faults.{IsFaultlessWith}
use Rattle.chor_semantics.specs.Runs.{IsRun}
use Rattle.type_check.specs.declared.typed.Typed.{Typed}
use Rattle.program_runs.specs.Books.{book_of}
use Rattle.resume.specs.Resumes.{IsResumed}
use Rattle.transcript_lines.specs.Whole.{whole_lines}
use Rattle.transcript_lines.proofs.WholeLines.{whole_shorter}
use Rattle.event_files.proofs.FewEvents.{few_given}
use Rattle.accepted_replays.specs.Events.{HasSourceEvents}
use Rattle.accepted_replays.proofs.Programs.{sound}
use Rattle.accepted_resumes.specs.Sources.{StopsResume}
use Rattle.accepted_resumes.proofs.Resumed.{never_stops, run_of_programs, resumed_of}
use Rattle.accepted_resumes.proofs.resuming.resume_accepted.Goals as goal

pub accepted_events-requires-clause-few : goal.accepted_events-requires-clause-few
accepted_events-requires-clause-few g c =
    let fewer = whole_shorter c.args.bytes.now in
    let few = c.requires.few in
    let all : length (whole_lines c.args.bytes.now) ≤ 2 ^ 26 = omega arith in
    subst (λ (l : List ℕ). length l ≤ 2 ^ 26) (sym c.whole_lines.ensures) all

pub resume-requires-clause-faultless : goal.resume-requires-clause-faultless
resume-requires-clause-faultless g c =
    subst (λ (words : List (List ℕ)). IsFaultlessWith words c.endpoints-endpoints.result.now) c.requires.hosts c.endpoints-endpoints.ensures.accepted.faultless

pub resume-requires-clause-given : goal.resume-requires-clause-given
resume-requires-clause-given g c =
    let f = c.args.accepted.now.typed.file in
    let whole = c.whole_lines.ensures in
    let told = subst (λ (l : List ℕ). HasSourceEvents f (hosts_in f.names (functions_of c.args.hosts.now)) c.args.plan.capacity l c.in_ok-given.given) whole c.in_ok-given.ensures in
    let fewer = whole_shorter c.args.bytes.now in
    let few = c.requires.few in
    let most = few_given (book_of f) (whole_lines c.args.bytes.now) told.replayed.history told.replayed.closing 1000000 told.replayed.lines_are (omega arith) c.requires.lines in
    subst (λ (l : List Event). length l ≤ 1000000) (told.events_are ∙ sym c.as_slice.ensures) most

pub returns-in_err-ran-clause-stopped : goal.returns-in_err-ran-clause-stopped
returns-in_err-ran-clause-stopped g c =
    let typed = c.args.accepted.now.typed in
    let f = typed.file in
    let e = c.endpoints-endpoints.result.now in
    let laws = c.laws.ensures in
    let fs = functions_of c.args.hosts.now in
    let s = sound typed.hosts f e typed.fine c.endpoints-endpoints.ensures.accepted c.len-names.ensures.distinct laws.alike in
    let told = c.in_ok-given.ensures in
    let run = subst (λ (l : List Event). IsRun f (hosts_in f.names fs) c.args.plan.capacity l) (told.events_are ∙ sym c.as_slice.ensures) told.replayed.run in
    let here = run_of_programs typed.hosts f e s laws.back fs c.args.plan.capacity c.as_slice.result.now run in
    never_stops (StopsResume f (hosts_in f.names fs) c.args.plan.capacity c.args.bytes.now) e (hosts_in e.names fs) c.args.plan c.as_slice.result.now here c.in_err-ran.field-0.0 c.in_err-ran.ensures tt c.from_residual-in_err-ran.result c.from_residual-in_err-ran.ensures.1

pub returns-clause-resumed : goal.returns-clause-resumed
returns-clause-resumed g c =
    let accepted = c.args.accepted.now in
    let typed = accepted.typed in
    let f = typed.file in
    let e = c.endpoints-endpoints.result.now in
    let laws = c.laws.ensures in
    let fs = functions_of c.args.hosts.now in
    let s = sound typed.hosts f e typed.fine c.endpoints-endpoints.ensures.accepted c.len-names.ensures.distinct laws.alike in
    let told = subst (λ (l : List ℕ). HasSourceEvents f (hosts_in f.names fs) c.args.plan.capacity l c.in_ok-given.given) c.whole_lines.ensures c.in_ok-given.ensures in
    let ran = subst (λ (l : List Event). IsResumed e (hosts_in e.names fs) c.args.plan l c.in_ok-ran.ran) c.as_slice.ensures c.in_ok-ran.ensures in
    let same = c.file.ensures.file ∙ ap (λ (t : Typed). t.file) c.typed.ensures in
    resumed_of typed.hosts accepted e c.endpoints-endpoints.ensures.endpoints s laws.scheduled laws.runs fs c.functions_answer.ensures c.args.plan c.requires.queues c.args.bytes.now c.in_ok-given.given told c.in_ok-ran.ran ran c.file.result.now same c.in_ok-text.text.items c.in_ok-text.ensures
