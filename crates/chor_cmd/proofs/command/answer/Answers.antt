use Rattle.std.proofs.Common.{refl}
use Rattle.chor_host.specs.Tables.{functions_of}
use Rattle.command_words.specs.declared.words.Command.TheVariants.{Fmt, Run}
use Rattle.chor_cmd.proofs.Exits.{at_one}
use Rattle.chor_cmd.proofs.command.answer.Goals as goal

pub returns-in-Fmt-clause-answers : goal.returns-in-Fmt-clause-answers
returns-in-Fmt-clause-answers g c =
    let functions = functions_of c.args.hosts.now in
    let first = c.index-files-0-in-Fmt in
    at_one functions c.requires.0 c.args.command c.args.files.now c.requires.1 Fmt c.in-Fmt.is refl first.result first.is (g.F.Shelf.state c.args.shelf.now) (g.F.Shelf.state c.format.new.shelf) c.format.result (c.format.ensures.answers functions)

pub returns-in-Run-clause-answers : goal.returns-in-Run-clause-answers
returns-in-Run-clause-answers g c =
    let first = c.index-files-0-in-Run in
    at_one (functions_of c.args.hosts.now) c.requires.0 c.args.command c.args.files.now c.requires.1 (Run c.in-Run.options) c.in-Run.is refl first.result first.is (g.F.Shelf.state c.args.shelf.now) (g.F.Shelf.state c.run.new.shelf) c.run.result c.run.ensures.answers
