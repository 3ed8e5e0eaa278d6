use Rattle.typed_sources.proofs.Laws.{goes}
use Rattle.typed_sources.proofs.never_stuck.Goals as goal

pub returns : goal.returns
returns c = goes
