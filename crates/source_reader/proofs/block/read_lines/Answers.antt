use Rattle.std.proofs.Common.{arith}
use Rattle.source_grammar.proofs.Sequels.{past}
use Rattle.source_grammar.proofs.Shorter.{statement_shorter, mark_shorter}
use Rattle.source_grammar.proofs.Statements.{passes}
use Rattle.source_grammar.proofs.Nested.{too_many_lines, into_line, statement_halts, past_statement, semicolon_halts}
use Rattle.source_reader.proofs.Lines.{no_lines, more_lines}
use Rattle.source_reader.proofs.block.read_lines.Goals as goal

pub loop-place-init : goal.loop-place-init
loop-place-init c = no_lines c.new-lines.ensures.items

pub returns-in_err-room_for_statement-clause-halts : goal.returns-in_err-room_for_statement-clause-halts
returns-in_err-room_for_statement-clause-halts c = passes _ _ c.from_residual.ensures.1 (past c.loop-place.invariant.leads (too_many_lines _ _ c.in_err-room_for_statement.ensures.full.0 c.in-Some.ensures.first c.in_err-room_for_statement.ensures.full.1))

pub returns-in_err-statement-clause-halts : goal.returns-in_err-statement-clause-halts
returns-in_err-statement-clause-halts c = passes _ _ c.from_residual-in_err-statement.ensures.1 (past c.loop-place.invariant.leads (past (into_line _ _ c.in_ok-room_for_statement.ensures.room c.in-Some.ensures.first c.in-Some.ensures.at) (statement_halts _ _ c.in_err-statement.ensures.halts)))

pub returns-in_err-at-clause-halts : goal.returns-in_err-at-clause-halts
returns-in_err-at-clause-halts c = passes _ _ c.from_residual-in_err-at.ensures.1 (past c.loop-place.invariant.leads (past (into_line _ _ c.in_ok-room_for_statement.ensures.room c.in-Some.ensures.first c.in-Some.ensures.at) (past (past_statement _ _ c.in_ok-statement.ensures.reads) (semicolon_halts _ _ c.in_err-at.ensures.halts))))

pub loop-place-preserved : goal.loop-place-preserved
loop-place-preserved c = more_lines _ c.loop-place.invariant c.in_ok-room_for_statement.ensures.room c.in-Some.ensures.first c.in-Some.ensures.at c.in_ok-statement.ensures.reads c.in_ok-at.ensures.read c.in_ok-push_line.ensures

pub loop-place-smaller : goal.loop-place-smaller
loop-place-smaller c = omega (arith, statement_shorter c.in_ok-statement.ensures.reads.is.is, mark_shorter c.in_ok-at.ensures.read)

pub returns-clause-leads : goal.returns-clause-leads
returns-clause-leads c = c.loop-place.invariant.leads

pub returns-clause-shorter : goal.returns-clause-shorter
returns-clause-shorter c = c.loop-place.invariant.shorter
