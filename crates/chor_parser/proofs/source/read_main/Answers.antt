use Rattle.std.proofs.lemmas.Result.{err_from_is_err_and}
use Rattle.source_grammar.proofs.Sequels.{past, reads_past, leads, now}
use Rattle.source_grammar.proofs.Terminals.{after_mark, after_word, at_once, main_keyword}
use Rattle.source_grammar.proofs.ShortParts.{mark_then, any_names_part}
use Rattle.source_grammar.proofs.Files.{body_part, main_tail, names_tail, names_end}
use Rattle.chor_parser.proofs.source.read_main.Goals as goal

pub returns-in_err-at-clause-halts : goal.returns-in_err-at-clause-halts
returns-in_err-at-clause-halts c =
    let p = err_from_is_err_and c.from_residual.result c.from_residual.ensures.1 in
    rw (p.1, p.2) (at_once main_tail (c.in_err-at.ensures.halts main_keyword))

pub returns-in_err-at-2-clause-halts : goal.returns-in_err-at-2-clause-halts
returns-in_err-at-2-clause-halts c =
    let p = err_from_is_err_and c.from_residual-in_err-at-2.result c.from_residual-in_err-at-2.ensures.1 in
    rw (p.1, p.2) (past (after_word main_keyword c.in_ok-at.ensures.read) (at_once names_tail c.in_err-at-2.ensures.halts))

pub returns-in_err-processes-clause-halts : goal.returns-in_err-processes-clause-halts
returns-in_err-processes-clause-halts c =
    let p = err_from_is_err_and c.from_residual-in_err-processes.result c.from_residual-in_err-processes.ensures.1 in
    rw (p.1, p.2) (past (after_word main_keyword c.in_ok-at.ensures.read) (past (after_mark c.in_ok-at-2.ensures.read) (now (mark_then body_part) names_end c.in_err-processes.ensures.halts)))

pub returns-in_err-at-3-clause-halts : goal.returns-in_err-at-3-clause-halts
returns-in_err-at-3-clause-halts c =
    let p = err_from_is_err_and c.from_residual-in_err-at-3.result c.from_residual-in_err-at-3.ensures.1 in
    rw (p.1, p.2) (past (after_word main_keyword c.in_ok-at.ensures.read) (past (after_mark c.in_ok-at-2.ensures.read) (past (leads (any_names_part 64) names_end c.in_ok-processes.ensures.reads) (at_once body_part c.in_err-at-3.ensures.halts))))

pub returns-in_err-body-clause-halts : goal.returns-in_err-body-clause-halts
returns-in_err-body-clause-halts c =
    let p = err_from_is_err_and c.from_residual-in_err-body.result c.from_residual-in_err-body.ensures.1 in
    rw (p.1, p.2) (past (after_word main_keyword c.in_ok-at.ensures.read) (past (after_mark c.in_ok-at-2.ensures.read) (past (leads (any_names_part 64) names_end c.in_ok-processes.ensures.reads) (past (after_mark c.in_ok-at-3.ensures.read) c.in_err-body.ensures.halts))))

pub returns-clause-reads : goal.returns-clause-reads
returns-clause-reads c = reads_past (after_word main_keyword c.in_ok-at.ensures.read) (reads_past (after_mark c.in_ok-at-2.ensures.read) (reads_past (leads (any_names_part 64) names_end c.in_ok-processes.ensures.reads) (reads_past (after_mark c.in_ok-at-3.ensures.read) c.in_ok-body.ensures.reads)))
