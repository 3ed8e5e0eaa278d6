use Rattle.std.proofs.Common.{List, subst}
use Rattle.chor_base.specs.declared.event.Entry.{Entry}
use Rattle.chor_stream.specs.Lines.{entry_lines, Finishes}
use Rattle.transcript.specs.Books.{words}
use Rattle.workers.proofs.Printed.{prefix_of, whole_printed}
use Rattle.workers.proofs.beside.print_run.Goals as goal

pub print_rest-finished-requires-clause-list : goal.print_rest-finished-requires-clause-list
print_rest-finished-requires-clause-list g c = rw c.entries.ensures (prefix_of _ _ c.close-run.result.pushed)

pub returns-clause-lines : goal.returns-clause-lines
returns-clause-lines g c =
    let w = words c.args.book.now in
    let drained = c.work_beside-drained in
    let finished = c.print_rest-finished in
    let before = g.K.Sink.state c.args.out.now in
    let after = g.K.Sink.state finished.new.out in
    subst (λ (l : List Entry). Finishes finished.result before after (entry_lines w 1 l)) c.entries.ensures
    (whole_printed w c.in_ok-feed.printer drained.new.printer c.entries.result.now before (g.K.Sink.state drained.new.out) after drained.result finished.result
    c.in_ok-feed.ensures.fresh.1 drained.ensures.prints drained.ensures.rises finished.ensures.taken finished.ensures.rest)
