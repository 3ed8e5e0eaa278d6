use Rattle.accepted_files.proofs.AboveTransitive.{above_trans}
use Rattle.accepted_files.proofs.above_stays_above.Goals as goal

pub returns : goal.returns
returns c f e r is above = record { projection = is.projection; projects = is.projects; above = above_trans is.projection e r is.above above }
