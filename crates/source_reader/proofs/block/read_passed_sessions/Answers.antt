use Rattle.source_grammar.proofs.Sequels.{past, reads_past}
use Rattle.source_grammar.proofs.StatementSteps.{on_ok, on_err}
use Rattle.source_grammar.proofs.PassedNames.{to_passed_sessions, no_passed_sessions}
use Rattle.source_reader.proofs.block.read_passed_sessions.Goals as goal

pub returns-in-Some-clause-reads : goal.returns-in-Some-clause-reads
returns-in-Some-clause-reads c = on_ok c.read_all_names.result _ _ c.read_all_names.ensures.reads (λ x r. reads_past (to_passed_sessions c.in-Some.ensures.found) r)

pub returns-in-Some-clause-halts : goal.returns-in-Some-clause-halts
returns-in-Some-clause-halts c = on_err c.read_all_names.result _ _ c.read_all_names.ensures.halts (λ d h. past (to_passed_sessions c.in-Some.ensures.found) h)

pub returns-in-None-clause-reads : goal.returns-in-None-clause-reads
returns-in-None-clause-reads c = rw c.new.ensures (no_passed_sessions c.in-None.ensures.none)
