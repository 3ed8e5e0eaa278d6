use Rattle.std.proofs.lemmas.Result.{err_from_is_err_and}
use Rattle.source_grammar.proofs.Sequels.{past, reads_past}
use Rattle.source_grammar.proofs.Choices.{same_halts, same_reads}
use Rattle.source_grammar.proofs.Terminals.{after_name, after_mark, at_once}
use Rattle.source_grammar.proofs.Protocols.{sort_part}
use Rattle.source_grammar.proofs.ShortParts.{mark_then}
use Rattle.source_grammar.proofs.Heads.{variable_alike}
use Rattle.source_reader.proofs.Readers.{sort_reads}
use Rattle.source_reader.proofs.procedure.read_var.Goals as goal

pub returns-in_err-name-clause-halts : goal.returns-in_err-name-clause-halts
returns-in_err-name-clause-halts c =
    let p = err_from_is_err_and c.from_residual.result c.from_residual.ensures.1 in
    rw (p.1, p.2) (same_halts variable_alike (at_once (mark_then sort_part) c.in_err-name.ensures.halts))

pub returns-in_err-at-clause-halts : goal.returns-in_err-at-clause-halts
returns-in_err-at-clause-halts c =
    let p = err_from_is_err_and c.from_residual-in_err-at.result c.from_residual-in_err-at.ensures.1 in
    rw (p.1, p.2) (same_halts variable_alike (past (after_name c.in_ok-name.ensures.read) (at_once sort_part c.in_err-at.ensures.halts)))

pub returns-in_err-sort-clause-halts : goal.returns-in_err-sort-clause-halts
returns-in_err-sort-clause-halts c =
    let p = err_from_is_err_and c.from_residual-in_err-sort.result c.from_residual-in_err-sort.ensures.1 in
    rw (p.1, p.2) (same_halts variable_alike (past (after_name c.in_ok-name.ensures.read) (past (after_mark c.in_ok-at.ensures.read) c.in_err-sort.ensures.halts)))

pub returns-clause-reads : goal.returns-clause-reads
returns-clause-reads c = same_reads variable_alike (reads_past (after_name c.in_ok-name.ensures.read) (reads_past (after_mark c.in_ok-at.ensures.read) (sort_reads c.in_ok-sort.ensures.read)))
