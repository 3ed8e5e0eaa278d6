use Rattle.source_grammar.proofs.Sequels.{past, reads_past, leads_on}
use Rattle.source_grammar.proofs.Values.{as_leads}
use Rattle.chor_lexer.specs.declared.mark.Mark.TheVariants.{Becomes}
use Rattle.source_grammar.proofs.Statements.{passes, mark_then, past_name, past_mark, at_one, set_tail}
use Rattle.source_grammar.proofs.StatementSteps.{to_host, to_set}
use Rattle.source_reader.specs.Reading.{statement_of}
use Rattle.source_reader.proofs.Readers.{hands_by, hands_back}
use Rattle.source_reader.proofs.statement.read_setting.Goals as goal

pub returns-in_err-var-clause-halts : goal.returns-in_err-var-clause-halts
returns-in_err-var-clause-halts c = passes _ _ c.from_residual.ensures.1 (at_one (λ x. mark_then Becomes (λ u. set_tail _ x)) c.in_err-var.ensures.halts)

pub returns-in_err-at-clause-halts : goal.returns-in_err-at-clause-halts
returns-in_err-at-clause-halts c = passes _ _ c.from_residual-in_err-at.ensures.1 (past (past_name c.in_ok-var.ensures.read) (at_one (λ u. set_tail _ c.in_ok-var.var) c.in_err-at.ensures.halts))

pub returns-in_err-expr-clause-halts : goal.returns-in_err-expr-clause-halts
returns-in_err-expr-clause-halts c = passes _ _ c.from_residual-in_err-expr.ensures.1 (past (past_name c.in_ok-var.ensures.read) (past (past_mark c.in_ok-at.ensures.read) (past (to_set _ c.in_ok-var.var c.in_default.ensures.none) (past (as_leads _) (c.in_err-expr.ensures.halts)))))

pub returns-clause-reads : goal.returns-clause-reads
returns-clause-reads c = reads_past (past_name c.in_ok-var.ensures.read) (reads_past (past_mark c.in_ok-at.ensures.read) (reads_past (to_set _ c.in_ok-var.var c.in_default.ensures.none) (reads_past (as_leads _) (c.in_ok-expr.ensures.reads))))

pub returns-in-Some-clause-reads : goal.returns-in-Some-clause-reads
returns-in-Some-clause-reads c = hands_by statement_of c.read_host.result c.args.input.now.tokens.now.items (leads_on (past_name c.in_ok-var.ensures.read) (leads_on (past_mark c.in_ok-at.ensures.read) (to_host _ c.in_ok-var.var c.in-Some.ensures.found))) c.read_host.ensures.reads

pub returns-in-Some-clause-halts : goal.returns-in-Some-clause-halts
returns-in-Some-clause-halts c = hands_back c.read_host.result (leads_on (past_name c.in_ok-var.ensures.read) (leads_on (past_mark c.in_ok-at.ensures.read) (to_host _ c.in_ok-var.var c.in-Some.ensures.found))) c.read_host.ensures.halts
