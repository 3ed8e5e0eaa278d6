use Rattle.endpoint_laws.proofs.Trees.{names_words}
use Rattle.endpoint_laws.proofs.names_are_words.Goals as goal

pub returns : goal.returns
returns c = names_words
