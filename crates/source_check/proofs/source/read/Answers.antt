use Rattle.source_grammar.proofs.KnownTexts.{texts_known}
use Rattle.source_check.proofs.source.read.Goals as goal

pub parse-requires : goal.parse-requires
parse-requires c = record { known = c.in_ok-list.ensures.known; texts = texts_known c.in_ok-list.ensures.found }
