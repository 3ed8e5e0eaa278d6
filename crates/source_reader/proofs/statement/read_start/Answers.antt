use Rattle.source_grammar.proofs.Sequels.{past, reads_past}
use Rattle.source_grammar.proofs.Values.{as_part, as_leads, after_part}
use Rattle.chor_lexer.specs.declared.mark.Mark.TheVariants.{OpenParen, CloseParen, Colon}
use Rattle.source_grammar.proofs.Statements.{passes, name_then, mark_then, past_name, past_mark, roles_part, new_roles_part, new_roles_apart, at_one}
use Rattle.source_grammar.proofs.StatementSteps.{past_roles, roles_halt}
use Rattle.source_reader.proofs.statement.read_start.Goals as goal

pub returns-in_err-channel-clause-halts : goal.returns-in_err-channel-clause-halts
returns-in_err-channel-clause-halts c = passes _ _ c.from_residual.ensures.1 (at_one (λ c. mark_then OpenParen (λ u. name_then (λ k. mark_then CloseParen (λ v. mark_then Colon (λ w. after_part roles_part (λ ps. as_part new_roles_part) (λ ps. new_roles_apart)))))) c.in_err-channel.ensures.halts)

pub returns-in_err-at-clause-halts : goal.returns-in_err-at-clause-halts
returns-in_err-at-clause-halts c = passes _ _ c.from_residual-in_err-at.ensures.1 (past (past_name c.in_ok-channel.ensures.read) (at_one (λ u. name_then (λ k. mark_then CloseParen (λ v. mark_then Colon (λ w. after_part roles_part (λ ps. as_part new_roles_part) (λ ps. new_roles_apart))))) c.in_err-at.ensures.halts))

pub returns-in_err-session-clause-halts : goal.returns-in_err-session-clause-halts
returns-in_err-session-clause-halts c = passes _ _ c.from_residual-in_err-session.ensures.1 (past (past_name c.in_ok-channel.ensures.read) (past (past_mark c.in_ok-at.ensures.read) (at_one (λ k. mark_then CloseParen (λ v. mark_then Colon (λ w. after_part roles_part (λ ps. as_part new_roles_part) (λ ps. new_roles_apart)))) c.in_err-session.ensures.halts)))

pub returns-in_err-at-2-clause-halts : goal.returns-in_err-at-2-clause-halts
returns-in_err-at-2-clause-halts c = passes _ _ c.from_residual-in_err-at-2.ensures.1 (past (past_name c.in_ok-channel.ensures.read) (past (past_mark c.in_ok-at.ensures.read) (past (past_name c.in_ok-session.ensures.read) (at_one (λ v. mark_then Colon (λ w. after_part roles_part (λ ps. as_part new_roles_part) (λ ps. new_roles_apart))) c.in_err-at-2.ensures.halts))))

pub returns-in_err-at-3-clause-halts : goal.returns-in_err-at-3-clause-halts
returns-in_err-at-3-clause-halts c = passes _ _ c.from_residual-in_err-at-3.ensures.1 (past (past_name c.in_ok-channel.ensures.read) (past (past_mark c.in_ok-at.ensures.read) (past (past_name c.in_ok-session.ensures.read) (past (past_mark c.in_ok-at-2.ensures.read) (at_one (λ w. after_part roles_part (λ ps. as_part new_roles_part) (λ ps. new_roles_apart)) c.in_err-at-3.ensures.halts)))))

pub returns-in_err-active-clause-halts : goal.returns-in_err-active-clause-halts
returns-in_err-active-clause-halts c = passes _ _ c.from_residual-in_err-active.ensures.1 (past (past_name c.in_ok-channel.ensures.read) (past (past_mark c.in_ok-at.ensures.read) (past (past_name c.in_ok-session.ensures.read) (past (past_mark c.in_ok-at-2.ensures.read) (past (past_mark c.in_ok-at-3.ensures.read) (roles_halt c.in_err-active.ensures.halts))))))

pub returns-in_err-serve-clause-halts : goal.returns-in_err-serve-clause-halts
returns-in_err-serve-clause-halts c = passes _ _ c.from_residual-in_err-serve.ensures.1 (past (past_name c.in_ok-channel.ensures.read) (past (past_mark c.in_ok-at.ensures.read) (past (past_name c.in_ok-session.ensures.read) (past (past_mark c.in_ok-at-2.ensures.read) (past (past_mark c.in_ok-at-3.ensures.read) (past (past_roles c.in_ok-active.ensures.reads) (past (as_leads _) (c.in_err-serve.ensures.halts))))))))

pub returns-clause-reads : goal.returns-clause-reads
returns-clause-reads c = reads_past (past_name c.in_ok-channel.ensures.read) (reads_past (past_mark c.in_ok-at.ensures.read) (reads_past (past_name c.in_ok-session.ensures.read) (reads_past (past_mark c.in_ok-at-2.ensures.read) (reads_past (past_mark c.in_ok-at-3.ensures.read) (reads_past (past_roles c.in_ok-active.ensures.reads) (reads_past (as_leads _) (c.in_ok-serve.ensures.reads)))))))
