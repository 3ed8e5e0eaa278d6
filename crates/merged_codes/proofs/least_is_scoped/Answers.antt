use Rattle.merged_codes.proofs.ScopedMerged.{least_scoped}
use Rattle.merged_codes.proofs.least_is_scoped.Goals as goal

pub returns : goal.returns
returns g e bs c cs q fine least = least_scoped e bs c cs q fine least
