use Rattle.chor_host.specs.Tables.{functions_of}
use Rattle.source_check.specs.declared.rules.Rules.TheVariants.{All}
use Rattle.chor_cmd.specs.Outputs.{IsRunText}
use Rattle.chor_cmd.proofs.Exits.{one_stops, one_is_done}
use Rattle.chor_cmd.proofs.running.run.Goals as goal

pub returns-in_err-accepted-clause-answers : goal.returns-in_err-accepted-clause-answers
returns-in_err-accepted-clause-answers g c =
    one_stops (functions_of c.args.hosts.now) (g.F.Shelf.state c.args.shelf.now) (g.F.Shelf.state c.fetch_accepted.new.shelf) c.args.name.now All _ c.from_residual.result c.in_err-accepted.field-0.0 c.from_residual.ensures.1 c.in_err-accepted.ensures.unread

pub returns-clause-answers : goal.returns-clause-answers
returns-clause-answers g c =
    let functions = functions_of c.args.hosts.now in
    let before = g.F.Shelf.state c.args.shelf.now in
    let a = c.in_ok-accepted.accepted in
    let says : IsRunText functions a.typed.file c.args.options c.in_ok-text.text.items = record { endpoints = a.endpoints; projects = c.in_ok-accepted.ensures.projects; tells = c.in_ok-text.ensures } in
    one_is_done functions before before c.args.name.now All (λ f. IsRunText functions f c.args.options) a.typed.file c.in_ok-text.text.items c.in_ok-accepted.ensures.accepted says
