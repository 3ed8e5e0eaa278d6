use Rattle.well_formed.proofs.Instances.{fit_bodies}
use Rattle.well_formed.proofs.bodies_fit.Goals as goal

pub returns : goal.returns
returns c0 ks procs sources fit sc f d ps ss c b w = fit_bodies ks procs sources fit sc f d ps ss c b w
