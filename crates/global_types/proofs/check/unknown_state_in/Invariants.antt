use Rattle.std.proofs.Common.{◌≡◌, drop}
use Rattle.chor_tree.specs.Names.{protocol_named}
use Rattle.global_types.proofs.check.unknown_state_in.Given as goal

abbrev pub invariant-loop-candidate : goal.invariant-loop-candidate
invariant-loop-candidate l = protocol_named (drop l.candidate-index l.protocols) l.protocol ≡ protocol_named l.protocols l.protocol
