use Rattle.source_grammar.proofs.Verdicts.{one_fault_is}
use Rattle.source_grammar.proofs.laws.one_fault.Goals as goal

pub returns : goal.returns
returns c = one_fault_is
