use Rattle.std.proofs.Common.{take}
use Rattle.chor_tree.specs.Protocols.{Protocol}
use Rattle.global_types.specs.Moves.{IsIn}
use Rattle.local_types.specs.Reading.{HasFineRoles}
use Rattle.local_types.proofs.view.check_views.Given as goal

abbrev pub invariant-loop-protocol : goal.invariant-loop-protocol
invariant-loop-protocol l = (q : Protocol) → IsIn q (take l.protocol-index l.file.protocols) → HasFineRoles q q.roles
