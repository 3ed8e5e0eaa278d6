use Rattle.source_grammar.proofs.FirstFaults.{one_source_is}
use Rattle.source_grammar.proofs.laws.one_source.Goals as goal

pub returns : goal.returns
returns c = one_source_is
