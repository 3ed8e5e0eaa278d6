use Rattle.accepted_orders.proofs.Networks.{past_runs}
use Rattle.accepted_orders.proofs.laws.pasts_are_runs.Goals as goal

pub returns : goal.returns
returns c f hosts cap h r j lt past is = past_runs c.networks.ensures f hosts cap h r c.causal_pasts_are_runs.ensures c.causal_pasts_begin_extensions.ensures j lt past is
