use Rattle.source_grammar.proofs.FirstFaults.{never_refused_is}
use Rattle.source_grammar.proofs.laws.never_refused.Goals as goal

pub returns : goal.returns
returns c = never_refused_is
