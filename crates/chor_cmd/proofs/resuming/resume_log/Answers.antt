use Rattle.std.proofs.Common.{◌∙◌, ℕ, List, Option, sym, ap, subst}
use Rattle.std.specs.Prelude.{Err, IfErr}
use Rattle.chor_host.specs.Functions.{hosts_in}
use Rattle.chor_host.specs.Tables.{functions_of}
use Rattle.accepted_resumes.specs.Sources.{IsResumedOf, StopsResume}
use Rattle.simulation.specs.Capacity.{capacity_of}
use Rattle.chor_cmd.specs.declared.status.Status.TheVariants.{Unmatched}
use Rattle.chor_cmd.specs.Outputs.{plan_of}
use Rattle.chor_cmd.specs.Rows.{Resumes, resumes, stops}
use Rattle.chor_cmd.proofs.resuming.resume_log.Goals as goal

pub returns-in-Ok : goal.returns-in-Ok
returns-in-Ok g c = λ bytes accepted.
    let a = c.args.accepted.now in
    let options = c.args.options in
    let own : IsResumedOf a (functions_of c.args.hosts.now) (plan_of a.typed.file options) c.args.log.now c.in-Ok.text.items =
    subst (λ (k : Option ℕ). IsResumedOf a (functions_of c.args.hosts.now) (record { capacity = k; schedule = record { seed = options.seed; steps = options.steps } }) c.args.log.now c.in-Ok.text.items)
    c.capacity.ensures.capacity c.in-Ok.ensures.resumed
    in
    resumes (record { accepted = a; source = accepted; projects = c.requires.projects; resumes = own })

pub returns-in_ok-text-in-Err-Unmatched : goal.returns-in_ok-text-in-Err-Unmatched
returns-in_ok-text-in-Err-Unmatched g c = λ bytes accepted.
    let functions = functions_of c.args.hosts.now in
    let f = c.args.accepted.now.typed.file in
    let log = c.args.log.now in
    let own = subst (λ (k : Option ℕ). IfErr c.resume_accepted.result (StopsResume f (hosts_in f.names functions) k log)) c.capacity.ensures.capacity c.resume_accepted.ensures.stopped in
    let told = subst (λ r. IfErr r (StopsResume f (hosts_in f.names functions) (capacity_of f) log)) (c.in-Err-Unmatched.is ∙ ap Err c.in-Err-Unmatched.field-0-is) own in
    let so = stops c.in-Err-Unmatched.line (record { file = f; accepted = accepted; stops = told }) in
    subst (λ (t : List ℕ). Resumes functions c.args.options bytes log Unmatched t) (sym c.in_ok-text-in-Err-Unmatched.ensures) so
