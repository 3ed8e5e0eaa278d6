use Rattle.correspondence.proofs.Above.{follows_lift}
use Rattle.correspondence.proofs.offers.above_follows.Goals as goal

pub returns : goal.returns
returns c0 e e' procs units n p c q q' m o h = follows_lift e e' units procs p n c q q' m o h
