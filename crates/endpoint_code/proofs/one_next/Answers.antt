use Rattle.endpoint_code.proofs.OneNext.{next_one}
use Rattle.endpoint_code.proofs.one_next.Goals as goal

pub returns : goal.returns
returns c e hosts capacity n m k x h g = next_one e hosts capacity n m k x h g
