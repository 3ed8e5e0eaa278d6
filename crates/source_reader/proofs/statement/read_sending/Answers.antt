use Rattle.source_grammar.proofs.Sequels.{past, leads_on}
use Rattle.chor_lexer.specs.declared.mark.Mark.TheVariants.{CloseBracket}
use Rattle.source_grammar.proofs.Statements.{passes, mark_then, past_name, past_mark, at_one, role_tail, path_tail}
use Rattle.source_grammar.proofs.StatementSteps.{to_value, to_path}
use Rattle.source_reader.specs.Reading.{statement_of}
use Rattle.source_reader.proofs.Readers.{hands_by, hands_back}
use Rattle.source_reader.proofs.statement.read_sending.Goals as goal

pub returns-in_err-role-clause-halts : goal.returns-in_err-role-clause-halts
returns-in_err-role-clause-halts c = passes _ _ c.from_residual.ensures.1 (at_one (λ r. mark_then CloseBracket (λ u. role_tail _)) c.in_err-role.ensures.halts)

pub returns-in_err-at-clause-halts : goal.returns-in_err-at-clause-halts
returns-in_err-at-clause-halts c = passes _ _ c.from_residual-in_err-at.ensures.1 (past (past_name c.in_ok-role.ensures.read) (at_one (λ u. role_tail _) c.in_err-at.ensures.halts))

pub returns-in_err-at-2-clause-halts : goal.returns-in_err-at-2-clause-halts
returns-in_err-at-2-clause-halts c = passes _ _ c.from_residual-in_err-at-2.ensures.1 (past (past_name c.in_ok-role.ensures.read) (past (past_mark c.in_ok-at.ensures.read) (past (to_path c.in_default.ensures.none) (at_one (λ u. path_tail _) c.in_err-at-2.ensures.halts))))

pub returns-in-Some-clause-reads : goal.returns-in-Some-clause-reads
returns-in-Some-clause-reads c = hands_by statement_of c.read_value.result c.args.input.now.tokens.now.items (leads_on (past_name c.in_ok-role.ensures.read) (leads_on (past_mark c.in_ok-at.ensures.read) (to_value c.in-Some.ensures.found))) c.read_value.ensures.reads

pub returns-in-Some-clause-halts : goal.returns-in-Some-clause-halts
returns-in-Some-clause-halts c = hands_back c.read_value.result (leads_on (past_name c.in_ok-role.ensures.read) (leads_on (past_mark c.in_ok-at.ensures.read) (to_value c.in-Some.ensures.found))) c.read_value.ensures.halts

pub returns-clause-reads : goal.returns-clause-reads
returns-clause-reads c = hands_by statement_of c.read_path.result c.args.input.now.tokens.now.items (leads_on (past_name c.in_ok-role.ensures.read) (leads_on (past_mark c.in_ok-at.ensures.read) (leads_on (to_path c.in_default.ensures.none) (past_mark c.in_ok-at-2.ensures.read)))) c.read_path.ensures.reads

pub returns-clause-halts : goal.returns-clause-halts
returns-clause-halts c = hands_back c.read_path.result (leads_on (past_name c.in_ok-role.ensures.read) (leads_on (past_mark c.in_ok-at.ensures.read) (leads_on (to_path c.in_default.ensures.none) (past_mark c.in_ok-at-2.ensures.read)))) c.read_path.ensures.halts
