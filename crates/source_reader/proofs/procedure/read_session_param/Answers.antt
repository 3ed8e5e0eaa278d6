use Rattle.std.proofs.lemmas.Result.{err_from_is_err_and}
use Rattle.source_grammar.proofs.Sequels.{past, reads_past, leads, now}
use Rattle.source_grammar.proofs.Choices.{same_halts, same_reads}
use Rattle.source_grammar.proofs.Terminals.{after_name, after_mark, at_once, mark_reads}
use Rattle.source_grammar.proofs.Protocols.{not_comma_close_brace}
use Rattle.source_grammar.proofs.ShortParts.{a_mark, name_then, mark_then, mark_after_list}
use Rattle.source_grammar.proofs.Heads.{holders_part, holders_tail, session_param_alike}
use Rattle.source_reader.proofs.procedure.read_session_param.Goals as goal

pub returns-in_err-name-clause-halts : goal.returns-in_err-name-clause-halts
returns-in_err-name-clause-halts c =
    let p = err_from_is_err_and c.from_residual.result c.from_residual.ensures.1 in
    rw (p.1, p.2) (same_halts session_param_alike (at_once (mark_then (name_then (mark_then (name_then (mark_then holders_tail))))) c.in_err-name.ensures.halts))

pub returns-in_err-at-clause-halts : goal.returns-in_err-at-clause-halts
returns-in_err-at-clause-halts c =
    let p = err_from_is_err_and c.from_residual-in_err-at.result c.from_residual-in_err-at.ensures.1 in
    rw (p.1, p.2) (same_halts session_param_alike (past (after_name c.in_ok-name.ensures.read) (at_once (name_then (mark_then (name_then (mark_then holders_tail)))) c.in_err-at.ensures.halts)))

pub returns-in_err-protocol-clause-halts : goal.returns-in_err-protocol-clause-halts
returns-in_err-protocol-clause-halts c =
    let p = err_from_is_err_and c.from_residual-in_err-protocol.result c.from_residual-in_err-protocol.ensures.1 in
    rw (p.1, p.2) (same_halts session_param_alike (past (after_name c.in_ok-name.ensures.read) (past (after_mark c.in_ok-at.ensures.read) (at_once (mark_then (name_then (mark_then holders_tail))) c.in_err-protocol.ensures.halts))))

pub returns-in_err-at-2-clause-halts : goal.returns-in_err-at-2-clause-halts
returns-in_err-at-2-clause-halts c =
    let p = err_from_is_err_and c.from_residual-in_err-at-2.result c.from_residual-in_err-at-2.ensures.1 in
    rw (p.1, p.2) (same_halts session_param_alike (past (after_name c.in_ok-name.ensures.read) (past (after_mark c.in_ok-at.ensures.read) (past (after_name c.in_ok-protocol.ensures.read) (at_once (name_then (mark_then holders_tail)) c.in_err-at-2.ensures.halts)))))

pub returns-in_err-state-clause-halts : goal.returns-in_err-state-clause-halts
returns-in_err-state-clause-halts c =
    let p = err_from_is_err_and c.from_residual-in_err-state.result c.from_residual-in_err-state.ensures.1 in
    rw (p.1, p.2) (same_halts session_param_alike (past (after_name c.in_ok-name.ensures.read) (past (after_mark c.in_ok-at.ensures.read) (past (after_name c.in_ok-protocol.ensures.read) (past (after_mark c.in_ok-at-2.ensures.read) (at_once (mark_then holders_tail) c.in_err-state.ensures.halts))))))

pub returns-in_err-at-3-clause-halts : goal.returns-in_err-at-3-clause-halts
returns-in_err-at-3-clause-halts c =
    let p = err_from_is_err_and c.from_residual-in_err-at-3.result c.from_residual-in_err-at-3.ensures.1 in
    rw (p.1, p.2) (same_halts session_param_alike (past (after_name c.in_ok-name.ensures.read) (past (after_mark c.in_ok-at.ensures.read) (past (after_name c.in_ok-protocol.ensures.read) (past (after_mark c.in_ok-at-2.ensures.read) (past (after_name c.in_ok-state.ensures.read) (at_once holders_tail c.in_err-at-3.ensures.halts)))))))

pub returns-in_err-holders-clause-halts : goal.returns-in_err-holders-clause-halts
returns-in_err-holders-clause-halts c =
    let p = err_from_is_err_and c.from_residual-in_err-holders.result c.from_residual-in_err-holders.ensures.1 in
    rw (p.1, p.2) (same_halts session_param_alike (past (after_name c.in_ok-name.ensures.read) (past (after_mark c.in_ok-at.ensures.read) (past (after_name c.in_ok-protocol.ensures.read) (past (after_mark c.in_ok-at-2.ensures.read) (past (after_name c.in_ok-state.ensures.read) (past (after_mark c.in_ok-at-3.ensures.read) (now a_mark (mark_after_list not_comma_close_brace) c.in_err-holders.ensures.halts))))))))

pub returns-in_err-at-4-clause-halts : goal.returns-in_err-at-4-clause-halts
returns-in_err-at-4-clause-halts c =
    let p = err_from_is_err_and c.from_residual-in_err-at-4.result c.from_residual-in_err-at-4.ensures.1 in
    rw (p.1, p.2) (same_halts session_param_alike (past (after_name c.in_ok-name.ensures.read) (past (after_mark c.in_ok-at.ensures.read) (past (after_name c.in_ok-protocol.ensures.read) (past (after_mark c.in_ok-at-2.ensures.read) (past (after_name c.in_ok-state.ensures.read) (past (after_mark c.in_ok-at-3.ensures.read) (past (leads holders_part (mark_after_list not_comma_close_brace) c.in_ok-holders.ensures.reads) c.in_err-at-4.ensures.halts))))))))

pub returns-clause-reads : goal.returns-clause-reads
returns-clause-reads c = same_reads session_param_alike (reads_past (after_name c.in_ok-name.ensures.read) (reads_past (after_mark c.in_ok-at.ensures.read) (reads_past (after_name c.in_ok-protocol.ensures.read) (reads_past (after_mark c.in_ok-at-2.ensures.read) (reads_past (after_name c.in_ok-state.ensures.read) (reads_past (after_mark c.in_ok-at-3.ensures.read) (reads_past (leads holders_part (mark_after_list not_comma_close_brace) c.in_ok-holders.ensures.reads) (mark_reads c.in_ok-at-4.ensures.read))))))))
