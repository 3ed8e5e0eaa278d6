use Rattle.std.proofs.Common.{take}
use Rattle.local_types.specs.Reading.{HasFineRoles}
use Rattle.local_types.proofs.view.check_roles.Given as goal

abbrev pub invariant-loop-role : goal.invariant-loop-role
invariant-loop-role l = HasFineRoles l.protocol (take l.role-index l.protocol.roles)
