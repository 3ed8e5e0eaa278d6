use Rattle.std.proofs.lemmas.Result.{err_from_is_err_and}
use Rattle.source_grammar.proofs.Sequels.{past, reads_past, leads}
use Rattle.source_grammar.proofs.Choices.{same_halts, same_reads}
use Rattle.source_grammar.proofs.Starts.{nothing_apart}
use Rattle.source_grammar.proofs.Terminals.{after_name, after_mark, at_once, mark_reads}
use Rattle.source_grammar.proofs.Protocols.{step_part, state_alike}
use Rattle.source_grammar.proofs.ShortParts.{and_then, a_mark, mark_then}
use Rattle.source_reader.proofs.protocol.read_state.Goals as goal

pub returns-in_err-name-clause-halts : goal.returns-in_err-name-clause-halts
returns-in_err-name-clause-halts c =
    let p = err_from_is_err_and c.from_residual.result c.from_residual.ensures.1 in
    rw (p.1, p.2) (same_halts state_alike (at_once (mark_then (and_then step_part a_mark)) c.in_err-name.ensures.halts))

pub returns-in_err-at-clause-halts : goal.returns-in_err-at-clause-halts
returns-in_err-at-clause-halts c =
    let p = err_from_is_err_and c.from_residual-in_err-at.result c.from_residual-in_err-at.ensures.1 in
    rw (p.1, p.2) (same_halts state_alike (past (after_name c.in_ok-name.ensures.read) (at_once (and_then step_part a_mark) c.in_err-at.ensures.halts)))

pub returns-in_err-step-clause-halts : goal.returns-in_err-step-clause-halts
returns-in_err-step-clause-halts c =
    let p = err_from_is_err_and c.from_residual-in_err-step.result c.from_residual-in_err-step.ensures.1 in
    rw (p.1, p.2) (same_halts state_alike (past (after_name c.in_ok-name.ensures.read) (past (after_mark c.in_ok-at.ensures.read) (at_once a_mark c.in_err-step.ensures.halts))))

pub returns-in_err-at-2-clause-halts : goal.returns-in_err-at-2-clause-halts
returns-in_err-at-2-clause-halts c =
    let p = err_from_is_err_and c.from_residual-in_err-at-2.result c.from_residual-in_err-at-2.ensures.1 in
    rw (p.1, p.2) (same_halts state_alike (past (after_name c.in_ok-name.ensures.read) (past (after_mark c.in_ok-at.ensures.read) (past (leads step_part nothing_apart c.in_ok-step.ensures.reads) c.in_err-at-2.ensures.halts))))

pub returns-clause-reads : goal.returns-clause-reads
returns-clause-reads c = same_reads state_alike (reads_past (after_name c.in_ok-name.ensures.read) (reads_past (after_mark c.in_ok-at.ensures.read) (reads_past (leads step_part nothing_apart c.in_ok-step.ensures.reads) (mark_reads c.in_ok-at-2.ensures.read))))
