use Rattle.event_orders.proofs.OwnersAtStarts.{one_holder}
use Rattle.event_orders.proofs.Reversing.{shared}
use Rattle.event_orders.proofs.rearrangements_share_happens_before.Goals as goal

pub returns : goal.returns
returns c e hosts cap h last faultless run i j _ lt = shared e hosts cap h (one_holder e faultless hosts cap) last run i j lt
