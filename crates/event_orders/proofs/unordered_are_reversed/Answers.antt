use Rattle.std.proofs.Common.{◌⊎◌, inl, inr, ◌≡◌}
use Rattle.event_orders.proofs.OwnersAtStarts.{one_holder}
use Rattle.event_orders.specs.HappensBefore.{HappensBefore}
use Rattle.event_orders.proofs.Reversing.{behind}
use Rattle.event_orders.proofs.unordered_are_reversed.Goals as goal

pub returns : goal.returns
returns c e hosts cap h last faultless run i j within lt differ apart = behind e hosts cap h (one_holder e faultless hosts cap) last run j lt i within neither
  where
    neither : (i ≡ j) ⊎ HappensBefore h cap i j → ⊥
    neither (inl same) = differ same
    neither (inr before) = apart before
