use Rattle.merged_codes.proofs.AskedMerged.{least_asks}
use Rattle.merged_codes.proofs.least_asks_known.Goals as goal

pub returns : goal.returns
returns x known c cs q d w l = least_asks known c cs q d w l
