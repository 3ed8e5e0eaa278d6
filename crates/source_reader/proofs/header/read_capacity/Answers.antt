use Rattle.std.proofs.lemmas.Result.{err_from_is_err_and}
use Rattle.source_grammar.proofs.Sequels.{past, reads_past, leads}
use Rattle.source_grammar.proofs.Starts.{nothing_apart}
use Rattle.source_grammar.proofs.Terminals.{at_once, mark_reads}
use Rattle.source_grammar.proofs.ShortParts.{a_mark}
use Rattle.source_grammar.proofs.Headers.{capacity_number_part}
use Rattle.source_reader.proofs.HeaderReaders.{no_capacity_read, stands_so, capacity_leads}
use Rattle.source_reader.proofs.header.read_capacity.Goals as goal

pub returns-in_default-clause-reads : goal.returns-in_default-clause-reads
returns-in_default-clause-reads c = no_capacity_read c.in_default.ensures.none

pub returns-in_err-capacity-clause-halts : goal.returns-in_err-capacity-clause-halts
returns-in_err-capacity-clause-halts c =
    let p = err_from_is_err_and c.from_residual.result c.from_residual.ensures.1 in
    rw (p.1, p.2) (past (capacity_leads (stands_so c.in-Some.ensures.found c.place_of-place.ensures) c.in-Some.ensures.found) (at_once a_mark c.in_err-capacity.ensures.halts))

pub returns-in_err-after-clause-halts : goal.returns-in_err-after-clause-halts
returns-in_err-after-clause-halts c =
    let p = err_from_is_err_and c.from_residual-in_err-after.result c.from_residual-in_err-after.ensures.1 in
    rw (p.1, p.2) (past (capacity_leads (stands_so c.in-Some.ensures.found c.place_of-place.ensures) c.in-Some.ensures.found) (past (leads capacity_number_part nothing_apart c.in_ok-capacity.ensures.reads) c.in_err-after.ensures.halts))

pub returns-clause-reads : goal.returns-clause-reads
returns-clause-reads c = reads_past (capacity_leads (stands_so c.in-Some.ensures.found c.place_of-place.ensures) c.in-Some.ensures.found) (reads_past (leads capacity_number_part nothing_apart c.in_ok-capacity.ensures.reads) (mark_reads c.in_ok-after.ensures.read))
