use Rattle.chor_lexer.proofs.Sources.{derived_is_source}
use Rattle.chor_lexer.proofs.laws.derived_is_source.Goals as goal

pub returns : goal.returns
returns c = derived_is_source
