use Rattle.std.proofs.Common.{[], ◌∷◌}
use Rattle.chor_host.specs.Tables.{functions_of}
use Rattle.chor_cmd.specs.Rows.{Closes, Resumes, after_short_log}
use Rattle.chor_cmd.proofs.Exits.{stopped}
use Rattle.chor_cmd.proofs.ShortLogs.{stops_at_log}
use Rattle.chor_cmd.proofs.resuming.resume_on.Goals as goal

pub returns-in_err-log-clause-answers : goal.returns-in_err-log-clause-answers
returns-in_err-log-clause-answers g c = λ bytes accepted.
    let before = g.F.Shelf.state c.args.shelf.now in
    let after = g.F.Shelf.state c.fetch_log.new.shelf in
    let stop = c.in_err-log.field-0.0 in
    stopped (after_short_log (Resumes (functions_of c.args.hosts.now) c.args.options bytes)) (c.args.events.now ∷ []) before after c.from_residual.result stop c.from_residual.ensures.1
    (stops_at_log before after c.args.events.now (λ log. Closes (Resumes (functions_of c.args.hosts.now) c.args.options bytes log)) stop c.in_err-log.ensures.unread)
