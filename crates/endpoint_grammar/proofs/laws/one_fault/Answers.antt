use Rattle.grammar.proofs.OneFault.{one_place}
use Rattle.grammar.proofs.Singles.{one_fault_rule}
use Rattle.endpoint_grammar.specs.Grammar.{endpoints}
use Rattle.endpoint_grammar.proofs.Clear.{rules_clear, rules_single, endpoints_clear, endpoints_single}
use Rattle.endpoint_grammar.proofs.laws.one_fault.Goals as goal

pub returns-clause-place : goal.returns-clause-place
returns-clause-place c ts e f p q a b = one_place a b

pub returns-clause-rule : goal.returns-clause-rule
returns-clause-rule c ts e f p q a b = one_fault_rule _ rules_single rules_clear endpoints ts e f p q endpoints_clear endpoints_single a b
