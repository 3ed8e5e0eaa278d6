use Rattle.event_orders.proofs.OwnersAtStarts.{one_holder}
use Rattle.event_orders.proofs.roles_have_one_holder.Goals as goal

pub returns : goal.returns
returns c e hosts cap faultless h n run p q part differ a b = one_holder e faultless hosts cap h n run p q part differ a b
