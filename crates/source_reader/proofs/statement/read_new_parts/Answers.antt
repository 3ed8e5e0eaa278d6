use Rattle.source_grammar.proofs.Sequels.{past, reads_past}
use Rattle.source_grammar.proofs.Statements.{to_new, no_new_roles}
use Rattle.source_grammar.proofs.StatementSteps.{on_ok, on_err}
use Rattle.source_reader.proofs.statement.read_new_parts.Goals as goal

pub returns-in-Some-clause-reads : goal.returns-in-Some-clause-reads
returns-in-Some-clause-reads c = on_ok c.read_parts.result _ _ c.read_parts.ensures.reads (λ x r. reads_past (to_new c.in-Some.ensures.found) r)

pub returns-in-Some-clause-halts : goal.returns-in-Some-clause-halts
returns-in-Some-clause-halts c = on_err c.read_parts.result _ _ c.read_parts.ensures.halts (λ d h. past (to_new c.in-Some.ensures.found) h)

pub returns-in-None-clause-reads : goal.returns-in-None-clause-reads
returns-in-None-clause-reads c = rw c.new.ensures (no_new_roles c.in-None.ensures.none)
