use Rattle.accepted_orders.proofs.Networks.{past_runs}
use Rattle.accepted_orders.proofs.Replayed.{past_replayed}
use Rattle.accepted_orders.proofs.laws.pasts_are_replayed.Goals as goal

pub returns : goal.returns
returns c f hosts cap bytes h spelled few has r number text told =
    let it = past_runs c.networks.ensures f hosts cap h r c.causal_pasts_are_runs.ensures c.causal_pasts_begin_extensions.ensures told.j told.number_is.within told.past told.is_past in
    past_replayed c.networks.ensures c.runs_end_together.ensures f hosts cap bytes h spelled few has r told.past it text told.text_is
