use Rattle.chor_cmd.specs.Stops.{IsUnreadLog}
use Rattle.chor_cmd.proofs.Exits.{err_is}
use Rattle.chor_cmd.proofs.ShortLogs.{unread_log}
use Rattle.chor_cmd.proofs.resuming.fetch_log.Goals as goal

pub returns-in_err-log-clause-unread : goal.returns-in_err-log-clause-unread
returns-in_err-log-clause-unread g c =
    let before = g.F.Shelf.state c.args.shelf.now in
    let after = g.F.Shelf.state c.fetch_bytes.new.shelf in
    let name = c.args.name.now in
    let stop = c.in_err-log.field-0.0 in
    err_is (IsUnreadLog before after name) c.from_residual.result stop c.from_residual.ensures.1 (unread_log before after name stop c.in_err-log.ensures.unread)
