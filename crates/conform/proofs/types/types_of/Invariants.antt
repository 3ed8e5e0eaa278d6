use Rattle.std.proofs.Common.{take}
use Rattle.conform.specs.Progress.{OneByOne, IsRead}
use Rattle.conform.proofs.types.types_of.Given as goal

abbrev pub invariant-loop-role : goal.invariant-loop-role
invariant-loop-role l = OneByOne (IsRead l.protocol) (take l.role-index l.protocol.roles) l.types
