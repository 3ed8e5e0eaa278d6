use Rattle.std.proofs.lemmas.Result.{err_from_is_err_and}
use Rattle.std.proofs.Common.{length, ◌-◌}
use Rattle.source_grammar.proofs.Sequels.{past, reads_past, leads, now, by_now, by_leads}
use Rattle.source_grammar.proofs.Choices.{same_halts, same_reads}
use Rattle.source_grammar.proofs.Terminals.{after_name, after_mark, after_word, at_once, mark_reads, service_keyword}
use Rattle.source_grammar.proofs.Protocols.{served_part, end_of_served, ServedTail, service_alike, served_tail, after_active, active_tail}
use Rattle.source_grammar.proofs.ShortParts.{a_mark, name_then, mark_then, names_part}
use Rattle.source_reader.proofs.protocol.read_service.Goals as goal

pub returns-in_err-name-clause-halts : goal.returns-in_err-name-clause-halts
returns-in_err-name-clause-halts c =
    let p = err_from_is_err_and c.from_residual.result c.from_residual.ensures.1 in
    rw (p.1, p.2) (λ t0 w. same_halts service_alike (past (after_word service_keyword w) (at_once (mark_then (name_then (mark_then active_tail))) c.in_err-name.ensures.halts)))

pub returns-in_err-at-clause-halts : goal.returns-in_err-at-clause-halts
returns-in_err-at-clause-halts c =
    let p = err_from_is_err_and c.from_residual-in_err-at.result c.from_residual-in_err-at.ensures.1 in
    rw (p.1, p.2) (λ t0 w. same_halts service_alike (past (after_word service_keyword w) (past (after_name c.in_ok-name.ensures.read) (at_once (name_then (mark_then active_tail)) c.in_err-at.ensures.halts))))

pub returns-in_err-protocol-clause-halts : goal.returns-in_err-protocol-clause-halts
returns-in_err-protocol-clause-halts c =
    let p = err_from_is_err_and c.from_residual-in_err-protocol.result c.from_residual-in_err-protocol.ensures.1 in
    rw (p.1, p.2) (λ t0 w. same_halts service_alike (past (after_word service_keyword w) (past (after_name c.in_ok-name.ensures.read) (past (after_mark c.in_ok-at.ensures.read) (at_once (mark_then active_tail) c.in_err-protocol.ensures.halts)))))

pub returns-in_err-at-2-clause-halts : goal.returns-in_err-at-2-clause-halts
returns-in_err-at-2-clause-halts c =
    let p = err_from_is_err_and c.from_residual-in_err-at-2.result c.from_residual-in_err-at-2.ensures.1 in
    rw (p.1, p.2) (λ t0 w. same_halts service_alike (past (after_word service_keyword w) (past (after_name c.in_ok-name.ensures.read) (past (after_mark c.in_ok-at.ensures.read) (past (after_name c.in_ok-protocol.ensures.read) (at_once active_tail c.in_err-at-2.ensures.halts))))))

pub returns-in_err-active-clause-halts : goal.returns-in_err-active-clause-halts
returns-in_err-active-clause-halts c =
    let p = err_from_is_err_and c.from_residual-in_err-active.result c.from_residual-in_err-active.ensures.1 in
    rw (p.1, p.2) (λ t0 w. same_halts service_alike (past (after_word service_keyword w) (past (after_name c.in_ok-name.ensures.read) (past (after_mark c.in_ok-at.ensures.read) (past (after_name c.in_ok-protocol.ensures.read) (past (after_mark c.in_ok-at-2.ensures.read) (by_now (λ z. served_tail (16 - length z)) (λ z. after_active (16 - length z)) c.in_err-active.ensures.halts)))))))

pub returns-in_err-serve-clause-halts : goal.returns-in_err-serve-clause-halts
returns-in_err-serve-clause-halts c =
    let p = err_from_is_err_and c.from_residual-in_err-serve.result c.from_residual-in_err-serve.ensures.1 in
    rw (p.1, p.2) (λ t0 w. same_halts service_alike (past (after_word service_keyword w) (past (after_name c.in_ok-name.ensures.read) (past (after_mark c.in_ok-at.ensures.read) (past (after_name c.in_ok-protocol.ensures.read) (past (after_mark c.in_ok-at-2.ensures.read) (past (by_leads {S = λ active. ServedTail (16 - length active)} (names_part 16) (λ z. after_active (16 - length z)) c.in_ok-active.ensures.reads) (now (mark_then a_mark) end_of_served (rw c.len.ensures at c.in_err-serve.ensures.halts)))))))))

pub returns-in_err-at-3-clause-halts : goal.returns-in_err-at-3-clause-halts
returns-in_err-at-3-clause-halts c =
    let p = err_from_is_err_and c.from_residual-in_err-at-3.result c.from_residual-in_err-at-3.ensures.1 in
    rw (p.1, p.2) (λ t0 w. same_halts service_alike (past (after_word service_keyword w) (past (after_name c.in_ok-name.ensures.read) (past (after_mark c.in_ok-at.ensures.read) (past (after_name c.in_ok-protocol.ensures.read) (past (after_mark c.in_ok-at-2.ensures.read) (past (by_leads {S = λ active. ServedTail (16 - length active)} (names_part 16) (λ z. after_active (16 - length z)) c.in_ok-active.ensures.reads) (past (leads (served_part _) end_of_served (rw c.len.ensures at c.in_ok-serve.ensures.reads)) (at_once a_mark c.in_err-at-3.ensures.halts)))))))))

pub returns-in_err-at-4-clause-halts : goal.returns-in_err-at-4-clause-halts
returns-in_err-at-4-clause-halts c =
    let p = err_from_is_err_and c.from_residual-in_err-at-4.result c.from_residual-in_err-at-4.ensures.1 in
    rw (p.1, p.2) (λ t0 w. same_halts service_alike (past (after_word service_keyword w) (past (after_name c.in_ok-name.ensures.read) (past (after_mark c.in_ok-at.ensures.read) (past (after_name c.in_ok-protocol.ensures.read) (past (after_mark c.in_ok-at-2.ensures.read) (past (by_leads {S = λ active. ServedTail (16 - length active)} (names_part 16) (λ z. after_active (16 - length z)) c.in_ok-active.ensures.reads) (past (leads (served_part _) end_of_served (rw c.len.ensures at c.in_ok-serve.ensures.reads)) (past (after_mark c.in_ok-at-3.ensures.read) c.in_err-at-4.ensures.halts)))))))))

pub returns-clause-reads : goal.returns-clause-reads
returns-clause-reads c = λ t0 w. same_reads service_alike (reads_past (after_word service_keyword w) (reads_past (after_name c.in_ok-name.ensures.read) (reads_past (after_mark c.in_ok-at.ensures.read) (reads_past (after_name c.in_ok-protocol.ensures.read) (reads_past (after_mark c.in_ok-at-2.ensures.read) (reads_past (by_leads {S = λ active. ServedTail (16 - length active)} (names_part 16) (λ z. after_active (16 - length z)) c.in_ok-active.ensures.reads) (reads_past (leads (served_part _) end_of_served (rw c.len.ensures at c.in_ok-serve.ensures.reads)) (reads_past (after_mark c.in_ok-at-3.ensures.read) (mark_reads c.in_ok-at-4.ensures.read)))))))))
