use Rattle.std.proofs.Common.{◌≡◌, drop}
use Rattle.std.specs.List.{list_all}
use Rattle.chor_tree.specs.Names.{names_in}
use Rattle.typing_rules.specs.Checks.{has_ended}
use Rattle.typing_steps.proofs.calls.all_ended.Given as goal

abbrev pub invariant-loop-standing : goal.invariant-loop-standing
invariant-loop-standing l = list_all (has_ended l.file (names_in l.passed)) (drop l.standing-index l.standings) ≡ list_all (has_ended l.file (names_in l.passed)) l.standings
