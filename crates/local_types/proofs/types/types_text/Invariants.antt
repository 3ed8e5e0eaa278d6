use Rattle.std.proofs.Common.{take}
use Rattle.chor_tree.specs.Protocols.{Protocol}
use Rattle.global_types.specs.Moves.{IsIn}
use Rattle.local_types.specs.Reading.{HasFineRoles}
use Rattle.local_types.specs.Texts.{AreTexts, AreRoleTexts}
use Rattle.local_types.proofs.types.types_text.Given as goal

abbrev pub invariant-loop-protocol : goal.invariant-loop-protocol
invariant-loop-protocol l = record {
  texts : AreTexts (AreRoleTexts l.file.names) (take l.protocol-index l.file.protocols) l.text.items;
  fine : (q : Protocol) → IsIn q (take l.protocol-index l.file.protocols) → HasFineRoles q q.roles;
}
