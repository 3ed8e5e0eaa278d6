use Rattle.writable_sources.proofs.Merged.{least_writable}
use Rattle.writable_sources.proofs.least_is_writable.Goals as goal

pub returns : goal.returns
returns x e n c cs q d w l = least_writable e n c cs q d w l
