use Rattle.source_grammar.proofs.Sequels.{past, reads_past}
use Rattle.source_grammar.proofs.Terminals.{holds_if, fails_if}
use Rattle.source_grammar.proofs.Statements.{passes}
use Rattle.source_grammar.proofs.PassedNames.{to_passed, processes_halt, after_processes, nothing_is_passed}
use Rattle.source_reader.proofs.block.read_passed.Goals as goal

pub returns-then-not-has_name-clause-reads : goal.returns-then-not-has_name-clause-reads
returns-then-not-has_name-clause-reads c = rw (c.new.ensures, c.new-then-not-has_name.ensures) (nothing_is_passed (fails_if c.has_name.ensures c.if-not-has_name.true))

pub returns-in_err-processes-clause-halts : goal.returns-in_err-processes-clause-halts
returns-in_err-processes-clause-halts c = passes _ _ c.from_residual.ensures.1 (past (to_passed (holds_if c.has_name.ensures c.if-not-has_name.false)) (processes_halt c.in_err-processes.ensures.halts))

pub returns-in_err-sessions-clause-halts : goal.returns-in_err-sessions-clause-halts
returns-in_err-sessions-clause-halts c = passes _ _ c.from_residual-in_err-sessions.ensures.1 (past (to_passed (holds_if c.has_name.ensures c.if-not-has_name.false)) (past (after_processes c.in_ok-processes.ensures.reads) c.in_err-sessions.ensures.halts))

pub returns-clause-reads : goal.returns-clause-reads
returns-clause-reads c = reads_past (to_passed (holds_if c.has_name.ensures c.if-not-has_name.false)) (reads_past (after_processes c.in_ok-processes.ensures.reads) c.in_ok-sessions.ensures.reads)
