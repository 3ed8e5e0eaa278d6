use Rattle.endpoint_laws.proofs.Asked.{made_asks_known}
use Rattle.endpoint_laws.proofs.made_asks_known.Goals as goal

pub returns : goal.returns
returns c = made_asks_known
