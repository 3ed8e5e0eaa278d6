use Rattle.std.proofs.Common.{length}
use Rattle.linear_check.proofs.checking.+first_in_groups.Given as goal

abbrev pub decreases-first_in_groups : goal.decreases-first_in_groups
decreases-first_in_groups l = length l.channels.now
