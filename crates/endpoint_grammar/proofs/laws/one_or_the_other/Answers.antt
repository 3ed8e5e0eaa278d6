use Rattle.grammar.proofs.Whole.{one_or_the_other}
use Rattle.endpoint_grammar.specs.Grammar.{endpoints}
use Rattle.endpoint_grammar.proofs.Clear.{rules_clear, rules_ending, endpoints_ending, endpoints_clear}
use Rattle.endpoint_grammar.proofs.laws.one_or_the_other.Goals as goal

pub returns : goal.returns
returns c ts h = one_or_the_other _ rules_clear rules_ending endpoints ts endpoints_ending endpoints_clear h
