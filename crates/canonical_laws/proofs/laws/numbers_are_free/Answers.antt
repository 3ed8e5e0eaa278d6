use Rattle.canonical_laws.proofs.Renumbered.{renumbered}
use Rattle.canonical_laws.proofs.laws.numbers_are_free.Goals as goal

pub returns : goal.returns
returns c = renumbered
