use Rattle.std.proofs.lemmas.Result.{err_from_is_err_and}
use Rattle.source_grammar.proofs.Sequels.{past, reads_past, leads}
use Rattle.source_grammar.proofs.Starts.{nothing_apart}
use Rattle.source_grammar.proofs.Terminals.{after_word, at_once, name_part, name_reads, then_keyword}
use Rattle.source_grammar.proofs.Protocols.{payload_part, then_name}
use Rattle.source_reader.proofs.Readers.{value_leads}
use Rattle.source_reader.proofs.protocol.read_value_step.Goals as goal

pub returns-in_err-payload-clause-halts : goal.returns-in_err-payload-clause-halts
returns-in_err-payload-clause-halts c =
    let p = err_from_is_err_and c.from_residual.result c.from_residual.ensures.1 in
    rw (p.1, p.2) (λ t0 t1 t2 t3 a r b m. past (value_leads a r b m) (at_once then_name c.in_err-payload.ensures.halts))

pub returns-in_err-at-clause-halts : goal.returns-in_err-at-clause-halts
returns-in_err-at-clause-halts c =
    let p = err_from_is_err_and c.from_residual-in_err-at.result c.from_residual-in_err-at.ensures.1 in
    rw (p.1, p.2) (λ t0 t1 t2 t3 a r b m. past (value_leads a r b m) (past (leads payload_part nothing_apart c.in_ok-payload.ensures.reads) (at_once name_part (c.in_err-at.ensures.halts then_keyword))))

pub returns-in_err-next-clause-halts : goal.returns-in_err-next-clause-halts
returns-in_err-next-clause-halts c =
    let p = err_from_is_err_and c.from_residual-in_err-next.result c.from_residual-in_err-next.ensures.1 in
    rw (p.1, p.2) (λ t0 t1 t2 t3 a r b m. past (value_leads a r b m) (past (leads payload_part nothing_apart c.in_ok-payload.ensures.reads) (past (after_word then_keyword c.in_ok-at.ensures.read) c.in_err-next.ensures.halts)))

pub returns-clause-reads : goal.returns-clause-reads
returns-clause-reads c = λ t0 t1 t2 t3 a r b m. reads_past (value_leads a r b m) (reads_past (leads payload_part nothing_apart c.in_ok-payload.ensures.reads) (reads_past (after_word then_keyword c.in_ok-at.ensures.read) (name_reads c.in_ok-next.ensures.read)))
