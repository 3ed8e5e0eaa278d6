use Rattle.std.proofs.Common.{take}
use Rattle.local_types.specs.Reading.{HasFineRoles}
use Rattle.local_types.specs.Texts.{AreTexts, IsTypeText}
use Rattle.local_types.proofs.types.roles_text.Given as goal

abbrev pub invariant-loop-role : goal.invariant-loop-role
invariant-loop-role l = record {
  texts : AreTexts (IsTypeText l.names l.protocol) (take l.role-index l.protocol.roles) l.text.items;
  fine : HasFineRoles l.protocol (take l.role-index l.protocol.roles);
}
