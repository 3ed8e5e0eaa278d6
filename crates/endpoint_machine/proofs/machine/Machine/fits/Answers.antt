use Rattle.endpoint_machine.proofs.Makings.{fits_there}
use Rattle.endpoint_machine.proofs.machine.Machine.fits.Goals as goal

pub returns-clause-waits : goal.returns-clause-waits
returns-clause-waits c = fits_there _ _ _ _ _ _ c.place-place.ensures.stands (c.fits_at.ensures _ _)
