use Rattle.std.proofs.Common.{◌≡◌, drop}
use Rattle.std.specs.List.{list_any}
use Rattle.chor_tree.specs.Names.{is_among, names_in}
use Rattle.guard_check.proofs.nodes.has_one_of.Given as goal

abbrev pub invariant-loop-process : goal.invariant-loop-process
invariant-loop-process l = list_any (is_among l.processes) (names_in (drop l.process-index l.passed)) ≡ list_any (is_among l.processes) (names_in l.passed)
