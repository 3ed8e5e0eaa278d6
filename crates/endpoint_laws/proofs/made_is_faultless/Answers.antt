use Rattle.endpoint_laws.proofs.Files.{made_is_faultless}
use Rattle.endpoint_laws.proofs.made_is_faultless.Goals as goal

pub returns : goal.returns
returns c = made_is_faultless
