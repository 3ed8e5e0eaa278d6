use Rattle.std.proofs.Common.{sym, subst}
use Rattle.chor_tree.specs.declared.file.File.{File}
use Rattle.projection.specs.Projects.{Projects}
use Rattle.event_reader.specs.Known.{AreWords}
use Rattle.source_check.specs.declared.rules.Rules.TheVariants.{All}
use Rattle.source_check.specs.Source.{Violates, unread}
use Rattle.chor_cmd.specs.Endings.{host_names}
use Rattle.chor_cmd.specs.Rows.{source_limit}
use Rattle.chor_cmd.specs.Stops.{HasFetchedSource, IsNoText, IsUnread, stop_of}
use Rattle.chor_cmd.proofs.Exits.{err_is, unread_so, broken_so}
use Rattle.chor_cmd.proofs.sources.fetch_accepted.Goals as goal

pub returns-in_err-file-clause-unread : goal.returns-in_err-file-clause-unread
returns-in_err-file-clause-unread g c =
    let before = g.F.Shelf.state c.args.shelf.now in
    let after = g.F.Shelf.state c.fetch_source.new.shelf in
    let hosts = host_names c.args.hosts.now in
    let name = c.args.name.now in
    let stop = c.in_err-file.field-0.0 in
    err_is (IsUnread source_limit (Violates All hosts) before after name) c.from_residual.result stop c.from_residual.ensures.1
    (unread_so source_limit before after name IsNoText (Violates All hosts) (λ bytes r h. unread h.0 h.1) stop c.in_err-file.ensures.unread)

pub returns-in_err-accepted-clause-unread : goal.returns-in_err-accepted-clause-unread
returns-in_err-accepted-clause-unread g c =
    let before = g.F.Shelf.state c.args.shelf.now in
    let after = g.F.Shelf.state c.fetch_source.new.shelf in
    let hosts = host_names c.args.hosts.now in
    let name = c.args.name.now in
    let denied = c.in_err-accepted.field-0.0 in
    err_is (IsUnread source_limit (Violates All hosts) before after name) c.from_residual-in_err-accepted.result (stop_of denied) c.from_residual-in_err-accepted.ensures.1
    (broken_so All hosts before after name c.in_ok-file.file c.in_ok-file.ensures.file denied c.in_err-accepted.ensures.denied)

pub returns-clause-accepted : goal.returns-clause-accepted
returns-clause-accepted g c =
    let before = g.F.Shelf.state c.args.shelf.now in
    let read = c.in_ok-file.ensures.file in
    subst (λ (f : File). HasFetchedSource All (host_names c.args.hosts.now) before c.args.name.now f) (sym c.in_ok-accepted.ensures.file)
    (read.0, read.1, record { file = read.2; faultless = c.in_ok-accepted.ensures.faultless })

pub returns-clause-words : goal.returns-clause-words
returns-clause-words g c =
    let read = c.in_ok-file.ensures.file in
    subst (λ (f : File). AreWords f.names) (sym c.in_ok-accepted.ensures.file) (c.names_are_words.ensures read.0 c.in_ok-file.file read.2)

pub returns-clause-projects : goal.returns-clause-projects
returns-clause-projects g c =
    subst (λ (f : File). Projects f c.in_ok-accepted.accepted.endpoints) (sym c.in_ok-accepted.ensures.file) c.in_ok-accepted.ensures.projects
