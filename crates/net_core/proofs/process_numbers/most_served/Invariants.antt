use Rattle.std.proofs.Common.{◌≡◌, max, drop}
use Rattle.net_core.specs.Steps.{most_served}
use Rattle.net_core.proofs.process_numbers.most_served.Given as goal

abbrev pub invariant-loop-channel : goal.invariant-loop-channel
invariant-loop-channel l = max l.most (most_served (drop l.channel-index l.channels)) ≡ most_served l.channels
