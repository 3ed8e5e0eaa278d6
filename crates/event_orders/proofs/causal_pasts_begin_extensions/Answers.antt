use Rattle.event_orders.proofs.OwnersAtStarts.{one_holder}
use Rattle.event_orders.proofs.Reversing.{lead_begins}
use Rattle.event_orders.proofs.causal_pasts_begin_extensions.Goals as goal

pub returns : goal.returns
returns c e hosts cap h last faultless run j lt lead is = lead_begins e hosts cap h (one_holder e faultless hosts cap) last run j lt lead is
