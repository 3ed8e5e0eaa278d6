use Rattle.std.proofs.Common.{[], ◌∷◌}
use Rattle.chor_host.specs.Functions.{names_of}
use Rattle.chor_host.specs.Tables.{functions_of}
use Rattle.endpoint_laws.proofs.Read.{read_is_faultless}
use Rattle.command_words.specs.declared.words.Command.TheVariants.{Exec}
use Rattle.chor_cmd.specs.Endings.{MayTell, Goes}
use Rattle.chor_cmd.specs.Rows.{Closes, Executes, row_of}
use Rattle.chor_cmd.proofs.AskedRuns.{scheduled_transcript}
use Rattle.chor_cmd.proofs.Exits.{exactly, programs_stop, execution}
use Rattle.chor_cmd.proofs.executing.execute.Goals as goal

pub returns-in_err-programs-clause-answers : goal.returns-in_err-programs-clause-answers
returns-in_err-programs-clause-answers g c =
    let functions = functions_of c.args.hosts.now in
    let before = g.F.Shelf.state c.args.shelf.now in
    let after = g.F.Shelf.state c.fetch_programs.new.shelf in
    programs_stop functions before after c.args.name.now (λ bytes. Closes (Executes functions c.args.options bytes)) [] c.from_residual.result c.in_err-programs.field-0.0 c.from_residual.ensures.1 c.in_err-programs.ensures.unread

pub execute-executed-requires-clause-faultless : goal.execute-executed-requires-clause-faultless
execute-executed-requires-clause-faultless g c =
    let read = c.in_ok-programs.ensures.programs in
    read_is_faultless (names_of (functions_of c.args.hosts.now)) read.0 c.in_ok-programs.programs read.2

pub returns-clause-answers : goal.returns-clause-answers
returns-clause-answers g c =
    let functions = functions_of c.args.hosts.now in
    let before = g.F.Shelf.state c.args.shelf.now in
    let e = c.in_ok-programs.programs in
    let x = c.in_ok-executed.executed in
    let run = scheduled_transcript functions e c.args.options x.text.items x.stuck c.in_ok-executed.ensures in
    exactly (λ s t. Goes (MayTell before.files) (c.args.name.now ∷ []) (row_of functions (Exec c.args.options)) s t) _ x.text.items c.ending_of.result.status c.ending_of.result.text.items
    (c.ending_of.ensures.status, c.ending_of.ensures.text) (execution functions before before c.args.name.now c.args.options e x.text.items x.stuck c.in_ok-programs.ensures.programs run)
