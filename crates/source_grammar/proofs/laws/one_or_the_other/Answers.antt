use Rattle.source_grammar.proofs.Verdicts.{one_or_the_other_is}
use Rattle.source_grammar.proofs.laws.one_or_the_other.Goals as goal

pub returns : goal.returns
returns c = one_or_the_other_is
