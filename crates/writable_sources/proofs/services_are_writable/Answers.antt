use Rattle.writable_sources.proofs.Services.{service_writable}
use Rattle.writable_sources.proofs.services_are_writable.Goals as goal

pub returns : goal.returns
returns x e procs heads a r n starts t some named rests h = service_writable e procs heads a r n starts t some named rests h
