use Rattle.std.proofs.Common.{◌≡◌, drop}
use Rattle.std.specs.List.{flat_map}
use Rattle.chor_tree.specs.Names.{unknown_process}
use Rattle.chor_base.specs.Faults.{earlier, first_of_all}
use Rattle.name_resolution.proofs.lists.unknown_processes.Given as goal

abbrev pub invariant-loop-process : goal.invariant-loop-process
invariant-loop-process l = earlier l.first (first_of_all (flat_map (unknown_process l.bound) (drop l.process-index (l.processes)))) ≡ first_of_all (flat_map (unknown_process l.bound) (l.processes))
