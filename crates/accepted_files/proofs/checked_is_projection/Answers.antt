use Rattle.accepted_files.proofs.Accepted.{sets, is_projection}
use Rattle.accepted_files.proofs.checked_is_projection.Goals as goal

pub returns : goal.returns
returns c f words checked e pr = (sets f words checked e pr, is_projection f words checked e pr)
