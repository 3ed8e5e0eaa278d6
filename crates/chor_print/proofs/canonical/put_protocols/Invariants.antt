use Rattle.std.proofs.Common.{◌≡◌, ◌++◌, drop}
use Rattle.std.specs.List.{flat_map}
use Rattle.chor_print.specs.Parts.{protocol_text}
use Rattle.chor_print.proofs.canonical.put_protocols.Given as goal

abbrev pub invariant-loop-protocol : goal.invariant-loop-protocol
invariant-loop-protocol l = l.out.items ++ flat_map (protocol_text l.file.names) (drop l.protocol-index l.file.protocols) ≡ l.fn.out.items ++ flat_map (protocol_text l.file.names) l.file.protocols
