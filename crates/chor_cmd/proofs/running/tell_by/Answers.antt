use Rattle.std.proofs.Common.{◌≡◌, ◌∙◌, ap, sym, subst}
use Rattle.std.specs.Prelude.{⊤}
use Rattle.chor_host.specs.Tables.{functions_of}
use Rattle.chor_tree.specs.Names.{names_in}
use Rattle.program_runs.specs.Books.{book_of}
use Rattle.transcript.specs.Text.{Words}
use Rattle.simulation.specs.Capacity.{capacity_of}
use Rattle.chor_cmd.specs.Endings.{HasWritten}
use Rattle.chor_cmd.specs.Outputs.{TellsRun}
use Rattle.chor_cmd.specs.Rows.{IsDoneWith}
use Rattle.chor_cmd.specs.declared.status.Status.{Status}
use Rattle.chor_cmd.proofs.RunTexts.{told_written}
use Rattle.chor_cmd.proofs.running.tell_by.Goals as goal

pub returns : goal.returns
returns g c =
    let accepted = c.args.accepted.now in
    let functions = functions_of c.args.hosts.now in
    let file = c.file-file.result.now in
    let same : file ≡ accepted.typed.file = c.file-file.ensures.file ∙ ap (λ t. t.file) c.typed.ensures in
    let processes : c.in-Ok.processes ≡ names_in file.processes = c.in-Ok.ensures ∙ ap names_in c.as_slice.ensures in
    let book : Words = record { names = file.names; texts = file.texts; processes = c.in-Ok.processes } in
    let is : book ≡ book_of accepted.typed.file = (λ i. record { names = file.names; texts = file.texts; processes = processes i }) ∙ ap book_of same in
    let before = g.K.Sink.state c.args.out.now in
    let after = g.K.Sink.state c.tell_accepted_to-finished.new.out in
    subst (λ (s : Status). HasWritten (IsDoneWith (TellsRun functions accepted.typed.file accepted.endpoints (capacity_of accepted.typed.file) c.args.options)) ⊤ ⊤ before after s) (sym c.status_after.ensures)
    (told_written functions accepted c.args.options book is c.requires.workers c.tell_accepted_to-finished.result before after c.tell_accepted_to-finished.ensures.written)
