use Rattle.accepted_files.proofs.Whole.{is_faultless}
use Rattle.accepted_files.proofs.faultless.projection_is_faultless.Goals as goal

pub returns : goal.returns
returns c f words ok guarded e pr = is_faultless f words ok guarded e pr
