use Rattle.std.proofs.lemmas.Result.{err_from_is_err_and}
use Rattle.source_grammar.proofs.Sequels.{past, reads_past, leads, now}
use Rattle.source_grammar.proofs.Terminals.{mark_reads}
use Rattle.source_grammar.proofs.ShortParts.{a_mark, mark_after_list}
use Rattle.source_grammar.proofs.Heads.{vars_part}
use Rattle.source_reader.proofs.Readers.{paren_leads, not_comma_close_paren, no_variables_read}
use Rattle.source_reader.proofs.procedure.read_any_vars.Goals as goal

pub returns-in_default-clause-reads : goal.returns-in_default-clause-reads
returns-in_default-clause-reads c = rw c.new.ensures (no_variables_read c.in_default.ensures.none)

pub returns-in_err-vars-clause-halts : goal.returns-in_err-vars-clause-halts
returns-in_err-vars-clause-halts c =
    let p = err_from_is_err_and c.from_residual.result c.from_residual.ensures.1 in
    rw (p.1, p.2) (past (paren_leads c.in-Some.ensures.found) (now a_mark (mark_after_list not_comma_close_paren) c.in_err-vars.ensures.halts))

pub returns-in_err-at-clause-halts : goal.returns-in_err-at-clause-halts
returns-in_err-at-clause-halts c =
    let p = err_from_is_err_and c.from_residual-in_err-at.result c.from_residual-in_err-at.ensures.1 in
    rw (p.1, p.2) (past (paren_leads c.in-Some.ensures.found) (past (leads vars_part (mark_after_list not_comma_close_paren) c.in_ok-vars.ensures.reads) c.in_err-at.ensures.halts))

pub returns-clause-reads : goal.returns-clause-reads
returns-clause-reads c = reads_past (paren_leads c.in-Some.ensures.found) (reads_past (leads vars_part (mark_after_list not_comma_close_paren) c.in_ok-vars.ensures.reads) (mark_reads c.in_ok-at.ensures.read))
