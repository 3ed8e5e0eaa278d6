use Rattle.std.proofs.Common.{ℕ, List, refl}
use Rattle.chor_host.specs.Tables.{functions_of}
use Rattle.command_words.specs.declared.words.Command.{Command}
use Rattle.command_words.specs.declared.words.Command.TheVariants.{Run, Exec, Link}
use Rattle.chor_cmd.specs.Stops.{HasSaid}
use Rattle.chor_cmd.proofs.Exits.{for_one, for_two, answer_said}
use Rattle.chor_cmd.proofs.command.answer_by.Goals as goal

pub returns-in-Run-clause-said : goal.returns-in-Run-clause-said
returns-in-Run-clause-said g c =
    let first = c.index-files-0 in
    let before = g.F.Shelf.state c.args.shelf.now in
    let after = g.F.Shelf.state c.run_by.new.shelf in
    for_one c.requires.form.0 c.args.command c.args.files.now c.requires.form.1 (Run c.in-Run.options) c.in-Run.is refl first.result first.is
    (λ (command : Command) (names : List (List ℕ)). HasSaid (functions_of c.args.hosts.now) command names before after (g.K.Sink.state c.args.out.now) (g.K.Sink.state c.run_by.new.out) c.run_by.result) c.run_by.ensures.said

pub returns-in-Exec-clause-said : goal.returns-in-Exec-clause-said
returns-in-Exec-clause-said g c =
    let first = c.index-files-0-in-Exec in
    let before = g.F.Shelf.state c.args.shelf.now in
    let after = g.F.Shelf.state c.execute_by.new.shelf in
    for_one c.requires.form.0 c.args.command c.args.files.now c.requires.form.1 (Exec c.in-Exec.options) c.in-Exec.is refl first.result first.is
    (λ (command : Command) (names : List (List ℕ)). HasSaid (functions_of c.args.hosts.now) command names before after (g.K.Sink.state c.args.out.now) (g.K.Sink.state c.execute_by.new.out) c.execute_by.result) c.execute_by.ensures.said

pub returns-in-Link-clause-said : goal.returns-in-Link-clause-said
returns-in-Link-clause-said g c =
    let first = c.index-files-0-in-Link in
    let second = c.index-files-1 in
    let before = g.F.Shelf.state c.args.shelf.now in
    let after = g.F.Shelf.state c.link_by.new.shelf in
    for_two c.requires.form.0 c.args.command c.args.files.now c.requires.form.1 (Link c.in-Link.options) c.in-Link.is refl first.result second.result first.is second.is
    (λ (command : Command) (names : List (List ℕ)). HasSaid (functions_of c.args.hosts.now) command names before after (g.K.Sink.state c.args.out.now) (g.K.Sink.state c.link_by.new.out) c.link_by.result) c.link_by.ensures.said

pub returns-in_default-clause-said : goal.returns-in_default-clause-said
returns-in_default-clause-said g c =
    answer_said (functions_of c.args.hosts.now) c.args.command c.args.files.now (g.F.Shelf.state c.args.shelf.now) (g.F.Shelf.state c.answer-answer.new.shelf) (g.K.Sink.state c.args.out.now) (g.K.Sink.state c.finish.new.out) c.finish.result
    c.answer-answer.result c.answer-answer.ensures.answers c.finish.ensures
