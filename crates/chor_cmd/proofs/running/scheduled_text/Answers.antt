use Rattle.std.proofs.Common.{◌≡◌, ◌∙◌, ap}
use Rattle.chor_host.specs.Tables.{functions_of}
use Rattle.chor_tree.specs.Names.{names_in}
use Rattle.program_runs.specs.Books.{book_of}
use Rattle.transcript.specs.Text.{Words}
use Rattle.chor_cmd.proofs.RunTexts.{run_text}
use Rattle.chor_cmd.proofs.running.scheduled_text.Goals as goal

pub returns : goal.returns
returns g c =
    let accepted = c.args.accepted.now in
    let file = c.file-file.result.now in
    let same : file ≡ accepted.typed.file = c.file-file.ensures.file ∙ ap (λ t. t.file) c.typed.ensures in
    let processes : c.in_ok-processes.processes ≡ names_in file.processes = c.in_ok-processes.ensures ∙ ap names_in c.as_slice.ensures in
    let book : Words = record { names = file.names; texts = file.texts; processes = c.in_ok-processes.processes } in
    let is : book ≡ book_of accepted.typed.file = (λ i. record { names = file.names; texts = file.texts; processes = processes i }) ∙ ap book_of same in
    run_text (functions_of c.args.hosts.now) accepted c.args.options book c.in_ok-text.text.items is c.in_ok-text.ensures
