use Rattle.std.proofs.Common.{take}
use Rattle.conform.specs.Progress.{OneByOne, AreRead}
use Rattle.conform.proofs.types.all_types.Given as goal

abbrev pub invariant-loop-protocol : goal.invariant-loop-protocol
invariant-loop-protocol l = OneByOne AreRead (take l.protocol-index l.file.protocols) l.types
