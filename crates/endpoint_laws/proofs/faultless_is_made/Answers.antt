use Rattle.endpoint_laws.proofs.Unmade.{faultless_is_made}
use Rattle.endpoint_laws.proofs.faultless_is_made.Goals as goal

pub returns : goal.returns
returns c = faultless_is_made
