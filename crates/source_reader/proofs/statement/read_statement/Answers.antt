use Rattle.source_grammar.proofs.Sequels.{past, reads_past, leads_on}
use Rattle.source_grammar.proofs.Values.{as_part, as_leads}
use Rattle.source_grammar.proofs.Expressions.{expr_part}
use Rattle.source_grammar.proofs.Terminals.{show_keyword}
use Rattle.source_grammar.proofs.Statements.{passes, at_one, past_word}
use Rattle.source_grammar.proofs.StatementSteps.{to_start, stops_at_name, to_name, to_sending, to_plain, to_setting, to_show}
use Rattle.source_reader.specs.Reading.{statement_of}
use Rattle.source_reader.proofs.Readers.{hands_by, hands_back}
use Rattle.source_reader.proofs.statement.read_statement.Goals as goal

pub returns-in_err-process-clause-halts : goal.returns-in_err-process-clause-halts
returns-in_err-process-clause-halts c = passes _ _ c.from_residual.ensures.1 (stops_at_name c.in_default.ensures.none c.in_err-process.ensures.halts)

pub returns-in_err-at-clause-halts : goal.returns-in_err-at-clause-halts
returns-in_err-at-clause-halts c = passes _ _ c.from_residual-in_err-at.ensures.1 (past (to_name c.in_default.ensures.none c.in_ok-process.ensures.read) (past (to_plain c.in_default-after_mark.ensures.none) (past (to_show c.in_default-after_mark-2.ensures.none) (at_one (λ u. as_part expr_part) (c.in_err-at.ensures.halts show_keyword)))))

pub returns-in_err-expr-clause-halts : goal.returns-in_err-expr-clause-halts
returns-in_err-expr-clause-halts c = passes _ _ c.from_residual-in_err-expr.ensures.1 (past (to_name c.in_default.ensures.none c.in_ok-process.ensures.read) (past (to_plain c.in_default-after_mark.ensures.none) (past (to_show c.in_default-after_mark-2.ensures.none) (past (past_word show_keyword c.in_ok-at.ensures.read) (past (as_leads _) (c.in_err-expr.ensures.halts))))))

pub returns-clause-reads : goal.returns-clause-reads
returns-clause-reads c = reads_past (to_name c.in_default.ensures.none c.in_ok-process.ensures.read) (reads_past (to_plain c.in_default-after_mark.ensures.none) (reads_past (to_show c.in_default-after_mark-2.ensures.none) (reads_past (past_word show_keyword c.in_ok-at.ensures.read) (reads_past (as_leads _) (c.in_ok-expr.ensures.reads)))))

pub returns-in-Some-clause-reads : goal.returns-in-Some-clause-reads
returns-in-Some-clause-reads c = hands_by statement_of c.read_start.result c.args.input.now.tokens.now.items (to_start c.in-Some.ensures.found) c.read_start.ensures.reads

pub returns-in-Some-clause-halts : goal.returns-in-Some-clause-halts
returns-in-Some-clause-halts c = hands_back c.read_start.result (to_start c.in-Some.ensures.found) c.read_start.ensures.halts

pub returns-in-Some-after_mark-clause-reads : goal.returns-in-Some-after_mark-clause-reads
returns-in-Some-after_mark-clause-reads c = hands_by statement_of c.read_sending.result c.args.input.now.tokens.now.items (leads_on (to_name c.in_default.ensures.none c.in_ok-process.ensures.read) (to_sending c.in-Some-after_mark.ensures.found)) c.read_sending.ensures.reads

pub returns-in-Some-after_mark-clause-halts : goal.returns-in-Some-after_mark-clause-halts
returns-in-Some-after_mark-clause-halts c = hands_back c.read_sending.result (leads_on (to_name c.in_default.ensures.none c.in_ok-process.ensures.read) (to_sending c.in-Some-after_mark.ensures.found)) c.read_sending.ensures.halts

pub returns-in-Some-after_mark-2-clause-reads : goal.returns-in-Some-after_mark-2-clause-reads
returns-in-Some-after_mark-2-clause-reads c = hands_by statement_of c.read_setting.result c.args.input.now.tokens.now.items (leads_on (to_name c.in_default.ensures.none c.in_ok-process.ensures.read) (leads_on (to_plain c.in_default-after_mark.ensures.none) (to_setting c.in-Some-after_mark-2.ensures.found))) c.read_setting.ensures.reads

pub returns-in-Some-after_mark-2-clause-halts : goal.returns-in-Some-after_mark-2-clause-halts
returns-in-Some-after_mark-2-clause-halts c = hands_back c.read_setting.result (leads_on (to_name c.in_default.ensures.none c.in_ok-process.ensures.read) (leads_on (to_plain c.in_default-after_mark.ensures.none) (to_setting c.in-Some-after_mark-2.ensures.found))) c.read_setting.ensures.halts
