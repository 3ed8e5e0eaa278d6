use Rattle.std.proofs.Common.{subst}
use Rattle.chor_host.specs.Tables.{functions_of}
use Rattle.endpoint_code.specs.declared.endpoints.Endpoints.{Endpoints}
use Rattle.generated_runs.specs.Texts.{IsLineFor}
use Rattle.generated_runs.proofs.Told.{ok_so, summary_is}
use Rattle.generated_runs.proofs.summary.summary_of.Goals as goal

pub returns : goal.returns
returns g c =
    let a = c.args.accepted.now in
    let o = c.in_ok-outcome.outcome in
    let e = c.endpoints.result.now in
    ok_so (λ line. IsLineFor e o.history c.args.count line.items) _
    (λ line is. summary_is (functions_of c.args.hosts.now) c.args.count a o line.items c.requires.generated c.in_ok-outcome.ensures (subst (λ (x : Endpoints). IsLineFor x o.history c.args.count line.items) c.endpoints.ensures.endpoints is))
    c.line_for.result c.line_for.ensures
