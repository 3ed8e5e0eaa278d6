use Rattle.canonical_laws.proofs.Files.{symbols_read_back}
use Rattle.canonical_laws.proofs.laws.symbols_read_back.Goals as goal

pub returns : goal.returns
returns c = symbols_read_back
