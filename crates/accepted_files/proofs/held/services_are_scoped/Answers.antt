use Rattle.accepted_files.proofs.FromProjects.{has_units}
use Rattle.accepted_files.proofs.Services.{service_scoped}
use Rattle.accepted_files.proofs.held.services_are_scoped.Goals as goal

pub returns : goal.returns
returns o f e pr a r starts x some uses code = service_scoped f e (has_units f e pr) a r starts x some uses code
