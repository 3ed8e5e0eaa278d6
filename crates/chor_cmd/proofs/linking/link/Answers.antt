use Rattle.std.proofs.Common.{[], ◌∷◌, subst}
use Rattle.chor_host.specs.Tables.{functions_of}
use Rattle.command_words.specs.declared.words.Command.TheVariants.{Link}
use Rattle.chor_cmd.specs.Linkings.{HasLinked}
use Rattle.chor_cmd.specs.Rows.{row_of}
use Rattle.chor_cmd.proofs.Exits.{stopped}
use Rattle.chor_cmd.proofs.LinkedFiles.{linked_hosts, linked_runs, unsuited_is_refused}
use Rattle.chor_cmd.proofs.linking.link.Goals as goal

pub returns-in_err-linking-clause-answers : goal.returns-in_err-linking-clause-answers
returns-in_err-linking-clause-answers g c =
    let before = g.F.Shelf.state c.args.shelf.now in
    let after = g.F.Shelf.state c.fetch_linked.new.shelf in
    stopped (row_of (functions_of c.args.hosts.now) (Link c.args.options)) (c.args.file.now ∷ c.args.programs.now ∷ []) before after c.from_residual.result c.in_err-linking.field-0.0 c.from_residual.ensures.1
    (c.in_err-linking.ensures.stops c.args.options)

pub scheduled_text-text-requires : goal.scheduled_text-text-requires
scheduled_text-text-requires g c =
    let functions = functions_of c.args.hosts.now in
    let before = g.F.Shelf.state c.args.shelf.now in
    let linked = subst (HasLinked functions before c.args.file.now c.args.programs.now) c.in-Linked.is c.in_ok-linking.ensures.linked in
    record { hosts = linked_hosts functions before c.args.file.now c.args.programs.now c.in-Linked.accepted linked }

pub returns-in_ok-text-in-Linked-clause-answers : goal.returns-in_ok-text-in-Linked-clause-answers
returns-in_ok-text-in-Linked-clause-answers g c =
    let functions = functions_of c.args.hosts.now in
    let before = g.F.Shelf.state c.args.shelf.now in
    let linked = subst (HasLinked functions before c.args.file.now c.args.programs.now) c.in-Linked.is c.in_ok-linking.ensures.linked in
    let text = c.in_ok-text-in-Linked in
    linked_runs functions before c.args.file.now c.args.programs.now c.args.options c.in-Linked.accepted linked text.text.items text.ensures

pub returns-in-Unsuited-clause-answers : goal.returns-in-Unsuited-clause-answers
returns-in-Unsuited-clause-answers g c =
    let functions = functions_of c.args.hosts.now in
    let before = g.F.Shelf.state c.args.shelf.now in
    let unsuited = subst (HasLinked functions before c.args.file.now c.args.programs.now) c.in-Unsuited.is c.in_ok-linking.ensures.linked in
    unsuited_is_refused functions before c.args.file.now c.args.programs.now c.args.options c.in-Unsuited.line unsuited
