use Rattle.event_orders.proofs.Commuting.{same_leads}
use Rattle.event_orders.proofs.same_states_have_same_runs.Goals as goal

pub returns : goal.returns
returns c e hosts cap n n' m h same leads = same_leads e hosts cap h n n' m same leads
