use Rattle.std.proofs.lemmas.Result.{err_from_is_err_and}
use Rattle.source_grammar.proofs.Sequels.{past, reads_past}
use Rattle.source_grammar.proofs.Terminals.{after_name, after_mark, at_once, name_part, name_reads}
use Rattle.source_grammar.proofs.ShortParts.{name_then, mark_then}
use Rattle.source_reader.proofs.Readers.{plain_reads, endpoint_leads}
use Rattle.source_reader.proofs.protocol.read_payload.Goals as goal

pub returns-in-Some-clause-reads : goal.returns-in-Some-clause-reads
returns-in-Some-clause-reads c = plain_reads c.in-Some.ensures.found

pub returns-in_err-protocol-clause-halts : goal.returns-in_err-protocol-clause-halts
returns-in_err-protocol-clause-halts c =
    let p = err_from_is_err_and c.from_residual.result c.from_residual.ensures.1 in
    rw (p.1, p.2) (past (endpoint_leads c.in_default.ensures.none) (at_once (mark_then (name_then (mark_then name_part))) c.in_err-protocol.ensures.halts))

pub returns-in_err-at-clause-halts : goal.returns-in_err-at-clause-halts
returns-in_err-at-clause-halts c =
    let p = err_from_is_err_and c.from_residual-in_err-at.result c.from_residual-in_err-at.ensures.1 in
    rw (p.1, p.2) (past (endpoint_leads c.in_default.ensures.none) (past (after_name c.in_ok-protocol.ensures.read) (at_once (name_then (mark_then name_part)) c.in_err-at.ensures.halts)))

pub returns-in_err-state-clause-halts : goal.returns-in_err-state-clause-halts
returns-in_err-state-clause-halts c =
    let p = err_from_is_err_and c.from_residual-in_err-state.result c.from_residual-in_err-state.ensures.1 in
    rw (p.1, p.2) (past (endpoint_leads c.in_default.ensures.none) (past (after_name c.in_ok-protocol.ensures.read) (past (after_mark c.in_ok-at.ensures.read) (at_once (mark_then name_part) c.in_err-state.ensures.halts))))

pub returns-in_err-at-2-clause-halts : goal.returns-in_err-at-2-clause-halts
returns-in_err-at-2-clause-halts c =
    let p = err_from_is_err_and c.from_residual-in_err-at-2.result c.from_residual-in_err-at-2.ensures.1 in
    rw (p.1, p.2) (past (endpoint_leads c.in_default.ensures.none) (past (after_name c.in_ok-protocol.ensures.read) (past (after_mark c.in_ok-at.ensures.read) (past (after_name c.in_ok-state.ensures.read) (at_once name_part c.in_err-at-2.ensures.halts)))))

pub returns-in_err-role-clause-halts : goal.returns-in_err-role-clause-halts
returns-in_err-role-clause-halts c =
    let p = err_from_is_err_and c.from_residual-in_err-role.result c.from_residual-in_err-role.ensures.1 in
    rw (p.1, p.2) (past (endpoint_leads c.in_default.ensures.none) (past (after_name c.in_ok-protocol.ensures.read) (past (after_mark c.in_ok-at.ensures.read) (past (after_name c.in_ok-state.ensures.read) (past (after_mark c.in_ok-at-2.ensures.read) c.in_err-role.ensures.halts)))))

pub returns-clause-reads : goal.returns-clause-reads
returns-clause-reads c = reads_past (endpoint_leads c.in_default.ensures.none) (reads_past (after_name c.in_ok-protocol.ensures.read) (reads_past (after_mark c.in_ok-at.ensures.read) (reads_past (after_name c.in_ok-state.ensures.read) (reads_past (after_mark c.in_ok-at-2.ensures.read) (name_reads c.in_ok-role.ensures.read)))))
