use Rattle.std.proofs.Common.{List, ℕ, Option, sym, subst}
use Rattle.chor_host.specs.Functions.{hosts_in, names_of}
use Rattle.chor_host.specs.Tables.{functions_of}
use Rattle.endpoint_code.specs.declared.endpoints.Endpoints.{Endpoints}
use Rattle.endpoint_code.specs.Faults.{AsksKnown, is_listed}
use Rattle.endpoint_code.specs.Network.{NetworkState, first_state}
use Rattle.endpoint_code.specs.Scheduled.{IsScheduled}
use Rattle.endpoint_runs.specs.declared.parts.Schedule.{Schedule}
use Rattle.endpoint_runs.specs.Runs.{close_of}
use Rattle.transcript.specs.Books.{words}
use Rattle.simulation.proofs.Runs.{checked, run_of, told_of}
use Rattle.simulation.proofs.telling.tell_accepted.Goals as goal

pub new-requires-clause-faultless : goal.new-requires-clause-faultless
new-requires-clause-faultless g c = c.endpoints-endpoints.ensures.accepted.faultless.faultless

pub tell_run-requires-clause-hosts : goal.tell_run-requires-clause-hosts
tell_run-requires-clause-hosts g c =
    let e = c.endpoints-endpoints.result.now in
    let fs = functions_of c.args.hosts.now in
    let here = subst (λ (words : List (List ℕ)). AsksKnown (is_listed words e) e) c.requires.hosts c.endpoints-endpoints.ensures.accepted.faultless.hosts in
    subst (λ (x : Endpoints). AsksKnown (is_listed (names_of fs) x) x) (sym c.in_ok-run.ensures.endpoints) here

pub returns : goal.returns
returns g c =
    let accepted = c.args.accepted.now in
    let typed = accepted.typed in
    let e = c.endpoints-endpoints.result.now in
    let a = c.endpoints-endpoints.ensures.accepted in
    let ok = checked typed.hosts typed.file e typed.fine a in
    let fs = functions_of c.args.hosts.now in
    let begun = c.in_ok-run.ensures in
    let run = c.in_ok-run.run' in
    let told = c.in_ok-told.ensures in
    let close = close_of c.in_ok-told.told.closed in
    let free = subst (λ (cap : Option ℕ). IsScheduled run.network.endpoints (hosts_in run.network.endpoints.names fs) cap run.schedule.seed run.schedule.steps run.network.state 0 told.history told.last close) begun.capacity told.scheduled in
    let first = subst (λ (n : NetworkState). IsScheduled run.network.endpoints (hosts_in run.network.endpoints.names fs) c.capacity.result run.schedule.seed run.schedule.steps n 0 told.history told.last close) begun.state free in
    let asked_for = subst (λ (s : Schedule). IsScheduled run.network.endpoints (hosts_in run.network.endpoints.names fs) c.capacity.result s.seed s.steps (first_state e) 0 told.history told.last close) begun.schedule first in
    let scheduled = subst (λ (x : Endpoints). IsScheduled x (hosts_in x.names fs) c.capacity.result c.args.schedule.seed c.args.schedule.steps (first_state e) 0 told.history told.last close) begun.endpoints asked_for in
    let of_file = run_of typed.file typed.hosts e ok a c.len-count.ensures.distinct fs c.functions_answer.ensures c.laws.ensures.alike c.laws.ensures.runs c.capacity.result c.capacity.ensures.room c.capacity.ensures.capacity c.args.schedule.seed c.args.schedule.steps told.history told.last close scheduled accepted.endpoints c.endpoints-endpoints.ensures.endpoints in
    told_of (words c.args.book.now) accepted fs c.args.schedule c.in_ok-told.told.closed told.history c.in_ok-told.told.text.items of_file told.text_is
