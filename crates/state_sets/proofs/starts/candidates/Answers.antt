use Rattle.std.proofs.Common.{length}
use Rattle.std.proofs.lemmas.List.Sorted.{IsNonDecreasingBy-from_sort}
use Rattle.state_sets.proofs.Allowed.{allowed_sorted, allowed_all, rising_all}
use Rattle.state_sets.proofs.starts.candidates.Goals as goal

pub returns-then-len-groups-clause-rising : goal.returns-then-len-groups-clause-rising
returns-then-len-groups-clause-rising c = rising_all (length c.args.groups.now) c.in_ok-every.every.items c.in_ok-every.ensures

pub returns-then-len-groups-clause-allowed : goal.returns-then-len-groups-clause-allowed
returns-then-len-groups-clause-allowed c = allowed_all c.args.groups.now c.args.still.now c.in_ok-every.every.items c.in_ok-every.ensures

pub returns-clause-rising : goal.returns-clause-rising
returns-clause-rising c = IsNonDecreasingBy-from_sort (λ x. x) c.sort_unstable.new.self.items c.sort_unstable.ensures.sorted

pub returns-clause-allowed : goal.returns-clause-allowed
returns-clause-allowed c = allowed_sorted c.args.groups.now c.args.still.now c.args.starts.now c.in_ok-numbers.numbers.items c.sort_unstable.new.self.items c.requires c.in_ok-numbers.ensures c.sort_unstable.ensures.permutation
