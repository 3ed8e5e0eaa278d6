use Rattle.std.proofs.lemmas.Result.{err_from_is_err_and}
use Rattle.source_grammar.proofs.Sequels.{past, reads_past}
use Rattle.source_grammar.proofs.Choices.{same_halts, same_reads}
use Rattle.source_grammar.proofs.Terminals.{after_name, after_mark, at_once, name_part, name_reads}
use Rattle.source_grammar.proofs.ShortParts.{mark_then}
use Rattle.source_grammar.proofs.Heads.{holder_alike}
use Rattle.source_reader.proofs.procedure.read_holder.Goals as goal

pub returns-in_err-role-clause-halts : goal.returns-in_err-role-clause-halts
returns-in_err-role-clause-halts c =
    let p = err_from_is_err_and c.from_residual.result c.from_residual.ensures.1 in
    rw (p.1, p.2) (same_halts holder_alike (at_once (mark_then name_part) c.in_err-role.ensures.halts))

pub returns-in_err-at-clause-halts : goal.returns-in_err-at-clause-halts
returns-in_err-at-clause-halts c =
    let p = err_from_is_err_and c.from_residual-in_err-at.result c.from_residual-in_err-at.ensures.1 in
    rw (p.1, p.2) (same_halts holder_alike (past (after_name c.in_ok-role.ensures.read) (at_once name_part c.in_err-at.ensures.halts)))

pub returns-in_err-holder-clause-halts : goal.returns-in_err-holder-clause-halts
returns-in_err-holder-clause-halts c =
    let p = err_from_is_err_and c.from_residual-in_err-holder.result c.from_residual-in_err-holder.ensures.1 in
    rw (p.1, p.2) (same_halts holder_alike (past (after_name c.in_ok-role.ensures.read) (past (after_mark c.in_ok-at.ensures.read) c.in_err-holder.ensures.halts)))

pub returns-clause-reads : goal.returns-clause-reads
returns-clause-reads c = same_reads holder_alike (reads_past (after_name c.in_ok-role.ensures.read) (reads_past (after_mark c.in_ok-at.ensures.read) (name_reads c.in_ok-holder.ensures.read)))
