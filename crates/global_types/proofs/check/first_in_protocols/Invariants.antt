use Rattle.std.proofs.Common.{◌≡◌, drop}
use Rattle.std.specs.List.{flat_map}
use Rattle.global_types.specs.Faults.{protocol_faults}
use Rattle.chor_base.specs.Faults.{earlier, first_of_all}
use Rattle.global_types.proofs.check.first_in_protocols.Given as goal

abbrev pub invariant-loop-protocol : goal.invariant-loop-protocol
invariant-loop-protocol l = earlier l.first (first_of_all (flat_map (protocol_faults l.protocols) (drop l.protocol-index l.protocols))) ≡ first_of_all (flat_map (protocol_faults l.protocols) l.protocols)
