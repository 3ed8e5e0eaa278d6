use Rattle.chor_lexer.proofs.Longest.{derived_is_longest}
use Rattle.chor_lexer.proofs.laws.derived_is_longest.Goals as goal

pub returns : goal.returns
returns c = derived_is_longest
