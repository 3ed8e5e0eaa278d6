use Rattle.std.proofs.Common.{◌≡◌, drop}
use Rattle.chor_tree.specs.Names.{names_in}
use Rattle.delegation.specs.Checks.{all_differ}
use Rattle.typing_steps.proofs.calls.all_differ.Given as goal

abbrev pub invariant-loop-index : goal.invariant-loop-index
invariant-loop-index l = all_differ (names_in (drop l.index l.names)) ≡ all_differ (names_in l.names)
