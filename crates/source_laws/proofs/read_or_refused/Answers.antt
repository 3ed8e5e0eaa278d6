use Rattle.source_laws.proofs.Sources.{is_read}
use Rattle.source_laws.proofs.read_or_refused.Goals as goal

pub returns : goal.returns
returns c = is_read
