use Rattle.std.proofs.lemmas.Result.{err_from_is_err_and}
use Rattle.source_grammar.proofs.Sequels.{past, reads_past}
use Rattle.source_grammar.proofs.Terminals.{at_once}
use Rattle.source_grammar.proofs.ShortParts.{mark_then}
use Rattle.source_grammar.proofs.Headers.{capacity_part}
use Rattle.source_reader.proofs.HeaderReaders.{no_header_read, chor_leads, after_number, header_leads}
use Rattle.source_reader.proofs.header.read_header.Goals as goal

pub returns-in_default-clause-reads : goal.returns-in_default-clause-reads
returns-in_default-clause-reads c = rw c.none.ensures (no_header_read c.in_default.ensures.none)

pub returns-in_err-at-clause-halts : goal.returns-in_err-at-clause-halts
returns-in_err-at-clause-halts c =
    let p = err_from_is_err_and c.from_residual.result c.from_residual.ensures.1 in
    rw (p.1, p.2) (past (chor_leads c.in-Some.ensures.found) (at_once (mark_then capacity_part) c.in_err-at.ensures.halts))

pub returns-in_err-at-2-clause-halts : goal.returns-in_err-at-2-clause-halts
returns-in_err-at-2-clause-halts c =
    let p = err_from_is_err_and c.from_residual-in_err-at-2.result c.from_residual-in_err-at-2.ensures.1 in
    rw (p.1, p.2) (past (chor_leads c.in-Some.ensures.found) (past (after_number c.in_ok-at.ensures.read) (at_once capacity_part c.in_err-at-2.ensures.halts)))

pub returns-in_err-declared-clause-halts : goal.returns-in_err-declared-clause-halts
returns-in_err-declared-clause-halts c =
    let p = err_from_is_err_and c.from_residual-in_err-declared.result c.from_residual-in_err-declared.ensures.1 in
    rw (p.1, p.2) (past (header_leads c.in-Some.ensures.found c.in_ok-at.ensures.read c.in_ok-at-2.ensures.read) c.in_err-declared.ensures.halts)

pub returns-clause-reads : goal.returns-clause-reads
returns-clause-reads c = reads_past (header_leads c.in-Some.ensures.found c.in_ok-at.ensures.read c.in_ok-at-2.ensures.read) c.in_ok-declared.ensures.reads
