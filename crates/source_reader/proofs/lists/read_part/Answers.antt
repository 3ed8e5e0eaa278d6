use Rattle.std.proofs.lemmas.Result.{err_from_is_err_and}
use Rattle.source_grammar.proofs.Sequels.{past, reads_past}
use Rattle.source_grammar.proofs.Choices.{same_halts, same_reads}
use Rattle.source_grammar.proofs.Terminals.{after_name, after_mark, at_once, mark_reads}
use Rattle.source_grammar.proofs.ShortParts.{a_mark, name_then, mark_then, part_alike}
use Rattle.source_reader.proofs.lists.read_part.Goals as goal

pub returns-in_err-process-clause-halts : goal.returns-in_err-process-clause-halts
returns-in_err-process-clause-halts c =
    let p = err_from_is_err_and c.from_residual.result c.from_residual.ensures.1 in
    rw (p.1, p.2) (same_halts part_alike (at_once (mark_then (name_then a_mark)) c.in_err-process.ensures.halts))

pub returns-in_err-at-clause-halts : goal.returns-in_err-at-clause-halts
returns-in_err-at-clause-halts c =
    let p = err_from_is_err_and c.from_residual-in_err-at.result c.from_residual-in_err-at.ensures.1 in
    rw (p.1, p.2) (same_halts part_alike (past (after_name c.in_ok-process.ensures.read) (at_once (name_then a_mark) c.in_err-at.ensures.halts)))

pub returns-in_err-role-clause-halts : goal.returns-in_err-role-clause-halts
returns-in_err-role-clause-halts c =
    let p = err_from_is_err_and c.from_residual-in_err-role.result c.from_residual-in_err-role.ensures.1 in
    rw (p.1, p.2) (same_halts part_alike (past (after_name c.in_ok-process.ensures.read) (past (after_mark c.in_ok-at.ensures.read) (at_once a_mark c.in_err-role.ensures.halts))))

pub returns-in_err-at-2-clause-halts : goal.returns-in_err-at-2-clause-halts
returns-in_err-at-2-clause-halts c =
    let p = err_from_is_err_and c.from_residual-in_err-at-2.result c.from_residual-in_err-at-2.ensures.1 in
    rw (p.1, p.2) (same_halts part_alike (past (after_name c.in_ok-process.ensures.read) (past (after_mark c.in_ok-at.ensures.read) (past (after_name c.in_ok-role.ensures.read) c.in_err-at-2.ensures.halts))))

pub returns-clause-reads : goal.returns-clause-reads
returns-clause-reads c = same_reads part_alike (reads_past (after_name c.in_ok-process.ensures.read) (reads_past (after_mark c.in_ok-at.ensures.read) (reads_past (after_name c.in_ok-role.ensures.read) (mark_reads c.in_ok-at-2.ensures.read))))
