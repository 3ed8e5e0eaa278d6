use Rattle.chor_host.specs.Tables.{functions_of}
use Rattle.source_check.specs.declared.rules.Rules.TheVariants.{Views}
use Rattle.local_types.specs.Texts.{IsTypesText}
use Rattle.chor_cmd.proofs.Exits.{one_stops_reading, one_is_broken, one_is_done}
use Rattle.chor_cmd.proofs.typing.types.Goals as goal

pub returns-in_err-file-clause-answers : goal.returns-in_err-file-clause-answers
returns-in_err-file-clause-answers g c =
    one_stops_reading (functions_of c.args.hosts.now) (g.F.Shelf.state c.args.shelf.now) (g.F.Shelf.state c.fetch_source.new.shelf) c.args.name.now Views _ c.from_residual.result c.in_err-file.field-0.0 c.from_residual.ensures.1 c.in_err-file.ensures.unread

pub returns-in_err-text-clause-answers : goal.returns-in_err-text-clause-answers
returns-in_err-text-clause-answers g c =
    let before = g.F.Shelf.state c.args.shelf.now in
    let after = g.F.Shelf.state c.fetch_source.new.shelf in
    one_is_broken (functions_of c.args.hosts.now) before after c.args.name.now Views _ c.in_ok-file.file c.in_ok-file.ensures.file c.in_err-text.field-0.0 c.in_err-text.ensures.broken c.from_residual-in_err-text.result c.from_residual-in_err-text.ensures.1

pub returns-clause-answers : goal.returns-clause-answers
returns-clause-answers g c =
    let before = g.F.Shelf.state c.args.shelf.now in
    let read = c.in_ok-file.ensures.file in
    one_is_done (functions_of c.args.hosts.now) before before c.args.name.now Views IsTypesText c.in_ok-file.file c.in_ok-text.text.items (read.0, read.1, record { file = read.2; faultless = c.in_ok-text.ensures.faultless }) c.in_ok-text.ensures.text
