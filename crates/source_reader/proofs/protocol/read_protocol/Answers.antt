use Rattle.std.proofs.lemmas.Result.{err_from_is_err_and}
use Rattle.source_grammar.proofs.Sequels.{past, reads_past, leads, now}
use Rattle.source_grammar.proofs.Choices.{same_halts, same_reads}
use Rattle.source_grammar.proofs.Terminals.{after_name, after_mark, after_word, at_once, mark_reads, protocol_keyword}
use Rattle.source_grammar.proofs.Protocols.{states_part, end_of_states, states_tail, roles_end, roles_tail, protocol_alike}
use Rattle.source_grammar.proofs.ShortParts.{a_mark, mark_then, names_part}
use Rattle.source_grammar.proofs.KeptHeads.{protocol_filled}
use Rattle.source_reader.proofs.protocol.read_protocol.Goals as goal

pub returns-in_err-name-clause-halts : goal.returns-in_err-name-clause-halts
returns-in_err-name-clause-halts c =
    let p = err_from_is_err_and c.from_residual.result c.from_residual.ensures.1 in
    rw (p.1, p.2) (λ t0 w. same_halts protocol_alike (past (after_word protocol_keyword w) (at_once (mark_then roles_tail) c.in_err-name.ensures.halts)))

pub returns-in_err-at-clause-halts : goal.returns-in_err-at-clause-halts
returns-in_err-at-clause-halts c =
    let p = err_from_is_err_and c.from_residual-in_err-at.result c.from_residual-in_err-at.ensures.1 in
    rw (p.1, p.2) (λ t0 w. same_halts protocol_alike (past (after_word protocol_keyword w) (past (after_name c.in_ok-name.ensures.read) (at_once roles_tail c.in_err-at.ensures.halts))))

pub returns-in_err-roles-clause-halts : goal.returns-in_err-roles-clause-halts
returns-in_err-roles-clause-halts c =
    let p = err_from_is_err_and c.from_residual-in_err-roles.result c.from_residual-in_err-roles.ensures.1 in
    rw (p.1, p.2) (λ t0 w. same_halts protocol_alike (past (after_word protocol_keyword w) (past (after_name c.in_ok-name.ensures.read) (past (after_mark c.in_ok-at.ensures.read) (now (mark_then (mark_then states_tail)) roles_end c.in_err-roles.ensures.halts)))))

pub returns-in_err-at-2-clause-halts : goal.returns-in_err-at-2-clause-halts
returns-in_err-at-2-clause-halts c =
    let p = err_from_is_err_and c.from_residual-in_err-at-2.result c.from_residual-in_err-at-2.ensures.1 in
    rw (p.1, p.2) (λ t0 w. same_halts protocol_alike (past (after_word protocol_keyword w) (past (after_name c.in_ok-name.ensures.read) (past (after_mark c.in_ok-at.ensures.read) (past (leads (names_part 16) roles_end c.in_ok-roles.ensures.reads) (at_once (mark_then states_tail) c.in_err-at-2.ensures.halts))))))

pub returns-in_err-at-3-clause-halts : goal.returns-in_err-at-3-clause-halts
returns-in_err-at-3-clause-halts c =
    let p = err_from_is_err_and c.from_residual-in_err-at-3.result c.from_residual-in_err-at-3.ensures.1 in
    rw (p.1, p.2) (λ t0 w. same_halts protocol_alike (past (after_word protocol_keyword w) (past (after_name c.in_ok-name.ensures.read) (past (after_mark c.in_ok-at.ensures.read) (past (leads (names_part 16) roles_end c.in_ok-roles.ensures.reads) (past (after_mark c.in_ok-at-2.ensures.read) (at_once states_tail c.in_err-at-3.ensures.halts)))))))

pub returns-in_err-states-clause-halts : goal.returns-in_err-states-clause-halts
returns-in_err-states-clause-halts c =
    let p = err_from_is_err_and c.from_residual-in_err-states.result c.from_residual-in_err-states.ensures.1 in
    rw (p.1, p.2) (λ t0 w. same_halts protocol_alike (past (after_word protocol_keyword w) (past (after_name c.in_ok-name.ensures.read) (past (after_mark c.in_ok-at.ensures.read) (past (leads (names_part 16) roles_end c.in_ok-roles.ensures.reads) (past (after_mark c.in_ok-at-2.ensures.read) (past (after_mark c.in_ok-at-3.ensures.read) (now a_mark end_of_states c.in_err-states.ensures.halts))))))))

pub returns-in_err-at-4-clause-halts : goal.returns-in_err-at-4-clause-halts
returns-in_err-at-4-clause-halts c =
    let p = err_from_is_err_and c.from_residual-in_err-at-4.result c.from_residual-in_err-at-4.ensures.1 in
    rw (p.1, p.2) (λ t0 w. same_halts protocol_alike (past (after_word protocol_keyword w) (past (after_name c.in_ok-name.ensures.read) (past (after_mark c.in_ok-at.ensures.read) (past (leads (names_part 16) roles_end c.in_ok-roles.ensures.reads) (past (after_mark c.in_ok-at-2.ensures.read) (past (after_mark c.in_ok-at-3.ensures.read) (past (leads states_part end_of_states c.in_ok-states.ensures.reads) c.in_err-at-4.ensures.halts))))))))

pub returns-clause-reads : goal.returns-clause-reads
returns-clause-reads c = λ t0 w. same_reads protocol_alike (reads_past (after_word protocol_keyword w) (reads_past (after_name c.in_ok-name.ensures.read) (reads_past (after_mark c.in_ok-at.ensures.read) (reads_past (leads (names_part 16) roles_end c.in_ok-roles.ensures.reads) (reads_past (after_mark c.in_ok-at-2.ensures.read) (reads_past (after_mark c.in_ok-at-3.ensures.read) (reads_past (leads states_part end_of_states c.in_ok-states.ensures.reads) (mark_reads c.in_ok-at-4.ensures.read))))))))

pub invariant_of-result : goal.invariant_of-result
invariant_of-result c = protocol_filled c.in_ok-roles.ensures.reads.is.0 c.in_ok-states.ensures.reads.is.0
