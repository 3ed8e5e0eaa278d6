use Rattle.std.proofs.Common.{◌≡◌, drop}
use Rattle.std.specs.List.{flat_map}
use Rattle.chor_tree.specs.Names.{unknown_process}
use Rattle.chor_base.specs.Faults.{earlier, first_of_all}
use Rattle.name_resolution.proofs.lists.unknown_in_parts.Given as goal

abbrev pub invariant-loop-part : goal.invariant-loop-part
invariant-loop-part l = earlier l.first (first_of_all (flat_map (λ q. unknown_process l.bound q.process) (drop l.part-index (l.parts)))) ≡ first_of_all (flat_map (λ q. unknown_process l.bound q.process) (l.parts))
