use Rattle.std.proofs.lemmas.Result.{err_from_is_err_and}
use Rattle.source_grammar.proofs.Sequels.{past, reads_past}
use Rattle.source_grammar.proofs.Choices.{same_halts, same_reads}
use Rattle.source_grammar.proofs.Terminals.{after_name, after_word, at_once, name_part, name_reads, then_keyword}
use Rattle.source_grammar.proofs.Protocols.{then_name, arm_alike}
use Rattle.source_reader.proofs.protocol.read_arm.Goals as goal

pub returns-in_err-label-clause-halts : goal.returns-in_err-label-clause-halts
returns-in_err-label-clause-halts c =
    let p = err_from_is_err_and c.from_residual.result c.from_residual.ensures.1 in
    rw (p.1, p.2) (same_halts arm_alike (at_once then_name c.in_err-label.ensures.halts))

pub returns-in_err-at-clause-halts : goal.returns-in_err-at-clause-halts
returns-in_err-at-clause-halts c =
    let p = err_from_is_err_and c.from_residual-in_err-at.result c.from_residual-in_err-at.ensures.1 in
    rw (p.1, p.2) (same_halts arm_alike (past (after_name c.in_ok-label.ensures.read) (at_once name_part (c.in_err-at.ensures.halts then_keyword))))

pub returns-in_err-next-clause-halts : goal.returns-in_err-next-clause-halts
returns-in_err-next-clause-halts c =
    let p = err_from_is_err_and c.from_residual-in_err-next.result c.from_residual-in_err-next.ensures.1 in
    rw (p.1, p.2) (same_halts arm_alike (past (after_name c.in_ok-label.ensures.read) (past (after_word then_keyword c.in_ok-at.ensures.read) c.in_err-next.ensures.halts)))

pub returns-clause-reads : goal.returns-clause-reads
returns-clause-reads c = same_reads arm_alike (reads_past (after_name c.in_ok-label.ensures.read) (reads_past (after_word then_keyword c.in_ok-at.ensures.read) (name_reads c.in_ok-next.ensures.read)))
