use Rattle.source_grammar.proofs.Sequels.{past, leads_on}
use Rattle.chor_lexer.specs.declared.mark.Mark.TheVariants.{Colon}
use Rattle.source_grammar.proofs.Statements.{passes, name_then, mark_then, past_name, past_mark, at_one, session_tail}
use Rattle.source_grammar.proofs.StatementSteps.{past_role, to_label, to_give}
use Rattle.source_reader.specs.Reading.{statement_of}
use Rattle.source_reader.proofs.Readers.{hands_by, hands_back}
use Rattle.source_reader.proofs.statement.read_path.Goals as goal

pub returns-in_err-to-clause-halts : goal.returns-in_err-to-clause-halts
returns-in_err-to-clause-halts c = passes _ _ c.from_residual.ensures.1 (at_one (λ b. mark_then Colon (λ u. name_then (λ k. session_tail _ b k))) c.in_err-to.ensures.halts)

pub returns-in_err-at-clause-halts : goal.returns-in_err-at-clause-halts
returns-in_err-at-clause-halts c = passes _ _ c.from_residual-in_err-at.ensures.1 (past (past_role c.in_ok-to.ensures.reads) (at_one (λ u. name_then (λ k. session_tail _ _ k)) c.in_err-at.ensures.halts))

pub returns-in_err-session-clause-halts : goal.returns-in_err-session-clause-halts
returns-in_err-session-clause-halts c = passes _ _ c.from_residual-in_err-session.ensures.1 (past (past_role c.in_ok-to.ensures.reads) (past (past_mark c.in_ok-at.ensures.read) (at_one (λ k. session_tail _ _ k) c.in_err-session.ensures.halts)))

pub returns-in-Some-clause-reads : goal.returns-in-Some-clause-reads
returns-in-Some-clause-reads c = hands_by statement_of c.read_label.result c.args.input.now.tokens.now.items (leads_on (past_role c.in_ok-to.ensures.reads) (leads_on (past_mark c.in_ok-at.ensures.read) (leads_on (past_name c.in_ok-session.ensures.read) (to_label c.in-Some.ensures.found)))) c.read_label.ensures.reads

pub returns-in-Some-clause-halts : goal.returns-in-Some-clause-halts
returns-in-Some-clause-halts c = hands_back c.read_label.result (leads_on (past_role c.in_ok-to.ensures.reads) (leads_on (past_mark c.in_ok-at.ensures.read) (leads_on (past_name c.in_ok-session.ensures.read) (to_label c.in-Some.ensures.found)))) c.read_label.ensures.halts

pub returns-clause-reads : goal.returns-clause-reads
returns-clause-reads c = hands_by statement_of c.read_give.result c.args.input.now.tokens.now.items (leads_on (past_role c.in_ok-to.ensures.reads) (leads_on (past_mark c.in_ok-at.ensures.read) (leads_on (past_name c.in_ok-session.ensures.read) (to_give c.in_default.ensures.none)))) c.read_give.ensures.reads

pub returns-clause-halts : goal.returns-clause-halts
returns-clause-halts c = hands_back c.read_give.result (leads_on (past_role c.in_ok-to.ensures.reads) (leads_on (past_mark c.in_ok-at.ensures.read) (leads_on (past_name c.in_ok-session.ensures.read) (to_give c.in_default.ensures.none)))) c.read_give.ensures.halts
