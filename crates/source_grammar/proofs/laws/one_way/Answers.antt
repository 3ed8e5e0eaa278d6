use Rattle.source_grammar.proofs.Ways.{one_way_is}
use Rattle.source_grammar.proofs.laws.one_way.Goals as goal

pub returns : goal.returns
returns c f i j a b id us vs = one_way_is f i j a b id us vs
