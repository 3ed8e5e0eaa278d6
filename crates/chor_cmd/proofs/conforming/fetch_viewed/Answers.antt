use Rattle.source_check.specs.declared.rules.Rules.TheVariants.{Views}
use Rattle.source_check.specs.Source.{Violates, unread}
use Rattle.chor_cmd.specs.Endings.{host_names}
use Rattle.chor_cmd.specs.Rows.{source_limit}
use Rattle.chor_cmd.specs.Stops.{IsNoText, IsUnread, stop_of}
use Rattle.chor_cmd.proofs.Exits.{err_is, unread_so, broken_so}
use Rattle.chor_cmd.proofs.conforming.fetch_viewed.Goals as goal

pub returns-in_err-file-clause-unread : goal.returns-in_err-file-clause-unread
returns-in_err-file-clause-unread g c =
    let before = g.F.Shelf.state c.args.shelf.now in
    let after = g.F.Shelf.state c.fetch_source.new.shelf in
    let hosts = host_names c.args.hosts.now in
    let name = c.args.name.now in
    let stop = c.in_err-file.field-0.0 in
    err_is (IsUnread source_limit (Violates Views hosts) before after name) c.from_residual.result stop c.from_residual.ensures.1
    (unread_so source_limit before after name IsNoText (Violates Views hosts) (λ bytes r h. unread h.0 h.1) stop c.in_err-file.ensures.unread)

pub returns-in_err-check-clause-unread : goal.returns-in_err-check-clause-unread
returns-in_err-check-clause-unread g c =
    let before = g.F.Shelf.state c.args.shelf.now in
    let after = g.F.Shelf.state c.fetch_source.new.shelf in
    let hosts = host_names c.args.hosts.now in
    let name = c.args.name.now in
    let denied = c.in_err-check.field-0.0 in
    err_is (IsUnread source_limit (Violates Views hosts) before after name) c.from_residual-in_err-check.result (stop_of denied) c.from_residual-in_err-check.ensures.1
    (broken_so Views hosts before after name c.in_ok-file.file c.in_ok-file.ensures.file denied c.in_err-check.ensures.broken)

pub returns-clause-viewed : goal.returns-clause-viewed
returns-clause-viewed g c =
    let read = c.in_ok-file.ensures.file in
    (read.0, read.1, record { file = read.2; faultless = c.in_ok-check.ensures.faultless })

pub returns-clause-words : goal.returns-clause-words
returns-clause-words g c =
    let read = c.in_ok-file.ensures.file in
    c.names_are_words.ensures read.0 c.in_ok-file.file read.2
