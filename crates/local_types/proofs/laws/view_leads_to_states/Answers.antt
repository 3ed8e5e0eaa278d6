use Rattle.local_types.proofs.Numbers.{view_leads}
use Rattle.local_types.proofs.laws.view_leads_to_states.Goals as goal

pub returns : goal.returns
returns c = view_leads
