use Rattle.std.proofs.Common.{◌≡◌, drop}
use Rattle.std.specs.List.{flat_map}
use Rattle.chor_tree.specs.Names.{protocol_faults}
use Rattle.chor_base.specs.Faults.{earlier, first_of_all}
use Rattle.name_resolution.proofs.declared.Declared.first_in_protocols.Given as goal

abbrev pub invariant-loop-protocol : goal.invariant-loop-protocol
invariant-loop-protocol l = earlier l.first (first_of_all (flat_map (protocol_faults l.self.file.now) (drop l.protocol-index (l.self.file.now.protocols)))) ≡ first_of_all (flat_map (protocol_faults l.self.file.now) (l.self.file.now.protocols))
