use Rattle.canonical_laws.proofs.WrittenFiles.{text_has_symbols}
use Rattle.canonical_laws.proofs.laws.text_has_symbols.Goals as goal

pub returns : goal.returns
returns c = text_has_symbols
