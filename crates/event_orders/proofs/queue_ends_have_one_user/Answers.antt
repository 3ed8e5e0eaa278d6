use Rattle.event_orders.proofs.Commuting.{one_user}
use Rattle.event_orders.proofs.queue_ends_have_one_user.Goals as goal

pub returns : goal.returns
returns c e hosts cap n m k x y kind exclusive apart a b i j = one_user e hosts cap n m k x y kind exclusive apart a b i j
