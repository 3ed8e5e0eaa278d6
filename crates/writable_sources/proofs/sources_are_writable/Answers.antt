use Rattle.writable_sources.proofs.Sources.{source_writable}
use Rattle.writable_sources.proofs.sources_are_writable.Goals as goal

pub returns : goal.returns
returns x e bytes ts s h d = source_writable e bytes ts s h d
