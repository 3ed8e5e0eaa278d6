use Rattle.std.proofs.lemmas.Result.{err_from_is_err_and, IfOk-weaker, IfErr-weaker}
use Rattle.source_grammar.proofs.Sequels.{past, reads_past, leads, now}
use Rattle.source_grammar.proofs.Terminals.{after_name, after_mark, at_once, mark_reads, no_word_head}
use Rattle.source_grammar.proofs.Protocols.{not_comma_close_brace, arms_part, choice_tail, passes_part}
use Rattle.source_grammar.proofs.ShortParts.{a_mark, name_then, mark_then, mark_after_list}
use Rattle.source_reader.proofs.Readers.{end_reads, passing, choice_leads}
use Rattle.source_reader.proofs.protocol.read_step.Goals as goal

pub returns-in-Some-clause-reads : goal.returns-in-Some-clause-reads
returns-in-Some-clause-reads c = end_reads c.in-Some.ensures.found

pub returns-in_err-from-clause-halts : goal.returns-in_err-from-clause-halts
returns-in_err-from-clause-halts c =
    let p = err_from_is_err_and c.from_residual.result c.from_residual.ensures.1 in
    rw (p.1, p.2) (past (passing (λ w. no_word_head c.in_default.ensures.none w)) (at_once (mark_then (name_then passes_part)) c.in_err-from.ensures.halts))

pub returns-in_err-at-clause-halts : goal.returns-in_err-at-clause-halts
returns-in_err-at-clause-halts c =
    let p = err_from_is_err_and c.from_residual-in_err-at.result c.from_residual-in_err-at.ensures.1 in
    rw (p.1, p.2) (past (passing (λ w. no_word_head c.in_default.ensures.none w)) (past (after_name c.in_ok-from.ensures.read) (at_once (name_then passes_part) c.in_err-at.ensures.halts)))

pub returns-in_err-to-clause-halts : goal.returns-in_err-to-clause-halts
returns-in_err-to-clause-halts c =
    let p = err_from_is_err_and c.from_residual-in_err-to.result c.from_residual-in_err-to.ensures.1 in
    rw (p.1, p.2) (past (passing (λ w. no_word_head c.in_default.ensures.none w)) (past (after_name c.in_ok-from.ensures.read) (past (after_mark c.in_ok-at.ensures.read) (at_once passes_part c.in_err-to.ensures.halts))))

pub returns-in_err-at-2-clause-halts : goal.returns-in_err-at-2-clause-halts
returns-in_err-at-2-clause-halts c =
    let p = err_from_is_err_and c.from_residual-in_err-at-2.result c.from_residual-in_err-at-2.ensures.1 in
    rw (p.1, p.2) (past (choice_leads c.in_ok-from.ensures.read c.in_ok-at.ensures.read c.in_ok-to.ensures.read c.in_default-after_mark.ensures.none) (at_once choice_tail c.in_err-at-2.ensures.halts))

pub returns-in_err-arms-clause-halts : goal.returns-in_err-arms-clause-halts
returns-in_err-arms-clause-halts c =
    let p = err_from_is_err_and c.from_residual-in_err-arms.result c.from_residual-in_err-arms.ensures.1 in
    rw (p.1, p.2) (past (choice_leads c.in_ok-from.ensures.read c.in_ok-at.ensures.read c.in_ok-to.ensures.read c.in_default-after_mark.ensures.none) (past (after_mark c.in_ok-at-2.ensures.read) (now a_mark (mark_after_list not_comma_close_brace) c.in_err-arms.ensures.halts)))

pub returns-in_err-at-3-clause-halts : goal.returns-in_err-at-3-clause-halts
returns-in_err-at-3-clause-halts c =
    let p = err_from_is_err_and c.from_residual-in_err-at-3.result c.from_residual-in_err-at-3.ensures.1 in
    rw (p.1, p.2) (past (choice_leads c.in_ok-from.ensures.read c.in_ok-at.ensures.read c.in_ok-to.ensures.read c.in_default-after_mark.ensures.none) (past (after_mark c.in_ok-at-2.ensures.read) (past (leads (arms_part 64) (mark_after_list not_comma_close_brace) c.in_ok-arms.ensures.reads) c.in_err-at-3.ensures.halts)))

pub returns-clause-reads : goal.returns-clause-reads
returns-clause-reads c = reads_past (choice_leads c.in_ok-from.ensures.read c.in_ok-at.ensures.read c.in_ok-to.ensures.read c.in_default-after_mark.ensures.none) (reads_past (after_mark c.in_ok-at-2.ensures.read) (reads_past (leads (arms_part 64) (mark_after_list not_comma_close_brace) c.in_ok-arms.ensures.reads) (mark_reads c.in_ok-at-3.ensures.read)))

pub returns-in-Some-after_mark-clause-reads : goal.returns-in-Some-after_mark-clause-reads
returns-in-Some-after_mark-clause-reads c = IfOk-weaker c.read_value_step.result _ _ (λ x h. h _ _ _ _ c.in_ok-from.ensures.read c.in_ok-at.ensures.read c.in_ok-to.ensures.read c.in-Some-after_mark.ensures.found) c.read_value_step.ensures.reads

pub returns-in-Some-after_mark-clause-halts : goal.returns-in-Some-after_mark-clause-halts
returns-in-Some-after_mark-clause-halts c = IfErr-weaker c.read_value_step.result _ _ (λ d h. h _ _ _ _ c.in_ok-from.ensures.read c.in_ok-at.ensures.read c.in_ok-to.ensures.read c.in-Some-after_mark.ensures.found) c.read_value_step.ensures.halts
