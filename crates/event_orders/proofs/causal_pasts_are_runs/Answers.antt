use Rattle.event_orders.proofs.OwnersAtStarts.{one_holder}
use Rattle.event_orders.proofs.Reversing.{lead_runs}
use Rattle.event_orders.proofs.causal_pasts_are_runs.Goals as goal

pub returns : goal.returns
returns c e hosts cap h last faultless run j lt lead is = lead_runs e hosts cap h (one_holder e faultless hosts cap) last run j lt lead is
