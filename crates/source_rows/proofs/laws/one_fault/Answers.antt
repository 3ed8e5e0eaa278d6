use Rattle.grammar.proofs.OneFault.{one_place}
use Rattle.grammar.proofs.Singles.{one_fault_rule}
use Rattle.source_rows.specs.Sources.{file}
use Rattle.source_rows.proofs.Clear.{rules_clear, rules_single, file_clear, file_single}
use Rattle.source_rows.proofs.laws.one_fault.Goals as goal

pub returns-clause-place : goal.returns-clause-place
returns-clause-place c i ts e f p q a b = one_place a b

pub returns-clause-rule : goal.returns-clause-rule
returns-clause-rule c i ts e f p q a b = one_fault_rule _ (rules_single i) (rules_clear i) file ts e f p q (file_clear i) (file_single i) a b
