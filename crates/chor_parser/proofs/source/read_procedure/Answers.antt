use Rattle.std.proofs.lemmas.Result.{err_from_is_err_and}
use Rattle.source_grammar.proofs.Sequels.{past, reads_past, leads, now, then_part}
use Rattle.source_grammar.proofs.Choices.{same_halts, same_reads}
use Rattle.source_grammar.proofs.Terminals.{after_name, after_mark, after_word, at_once, proc_keyword}
use Rattle.source_grammar.proofs.ShortParts.{mark_then}
use Rattle.source_grammar.proofs.Heads.{params_part}
use Rattle.source_grammar.proofs.Files.{procedure_alike, params_end, body_part}
use Rattle.chor_parser.proofs.source.read_procedure.Goals as goal

pub returns-in_err-name-clause-halts : goal.returns-in_err-name-clause-halts
returns-in_err-name-clause-halts c =
    let p = err_from_is_err_and c.from_residual.result c.from_residual.ensures.1 in
    rw (p.1, p.2) (λ t0 w. same_halts procedure_alike (past (after_word proc_keyword w) (at_once (mark_then (then_part params_part (mark_then body_part) params_end)) c.in_err-name.ensures.halts)))

pub returns-in_err-at-clause-halts : goal.returns-in_err-at-clause-halts
returns-in_err-at-clause-halts c =
    let p = err_from_is_err_and c.from_residual-in_err-at.result c.from_residual-in_err-at.ensures.1 in
    rw (p.1, p.2) (λ t0 w. same_halts procedure_alike (past (after_word proc_keyword w) (past (after_name c.in_ok-name.ensures.read) (at_once (then_part params_part (mark_then body_part) params_end) c.in_err-at.ensures.halts))))

pub returns-in_err-parameters-clause-halts : goal.returns-in_err-parameters-clause-halts
returns-in_err-parameters-clause-halts c =
    let p = err_from_is_err_and c.from_residual-in_err-parameters.result c.from_residual-in_err-parameters.ensures.1 in
    rw (p.1, p.2) (λ t0 w. same_halts procedure_alike (past (after_word proc_keyword w) (past (after_name c.in_ok-name.ensures.read) (past (after_mark c.in_ok-at.ensures.read) (now (mark_then body_part) params_end c.in_err-parameters.ensures.halts)))))

pub returns-in_err-at-2-clause-halts : goal.returns-in_err-at-2-clause-halts
returns-in_err-at-2-clause-halts c =
    let p = err_from_is_err_and c.from_residual-in_err-at-2.result c.from_residual-in_err-at-2.ensures.1 in
    rw (p.1, p.2) (λ t0 w. same_halts procedure_alike (past (after_word proc_keyword w) (past (after_name c.in_ok-name.ensures.read) (past (after_mark c.in_ok-at.ensures.read) (past (leads params_part params_end c.in_ok-parameters.ensures.reads) (at_once body_part c.in_err-at-2.ensures.halts))))))

pub returns-in_err-body-clause-halts : goal.returns-in_err-body-clause-halts
returns-in_err-body-clause-halts c =
    let p = err_from_is_err_and c.from_residual-in_err-body.result c.from_residual-in_err-body.ensures.1 in
    rw (p.1, p.2) (λ t0 w. same_halts procedure_alike (past (after_word proc_keyword w) (past (after_name c.in_ok-name.ensures.read) (past (after_mark c.in_ok-at.ensures.read) (past (leads params_part params_end c.in_ok-parameters.ensures.reads) (past (after_mark c.in_ok-at-2.ensures.read) c.in_err-body.ensures.halts))))))

pub returns-clause-reads : goal.returns-clause-reads
returns-clause-reads c = λ t0 w. same_reads procedure_alike (reads_past (after_word proc_keyword w) (reads_past (after_name c.in_ok-name.ensures.read) (reads_past (after_mark c.in_ok-at.ensures.read) (reads_past (leads params_part params_end c.in_ok-parameters.ensures.reads) (reads_past (after_mark c.in_ok-at-2.ensures.read) c.in_ok-body.ensures.reads)))))
