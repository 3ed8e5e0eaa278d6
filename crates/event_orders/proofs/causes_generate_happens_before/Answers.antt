use Rattle.event_orders.proofs.Causing.{happens_caused, caused_happens}
use Rattle.event_orders.proofs.causes_generate_happens_before.Goals as goal

pub returns : goal.returns
returns c h cap i j = (happens_caused h cap i j, caused_happens h cap i j)
