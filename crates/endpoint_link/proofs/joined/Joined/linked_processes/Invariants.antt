use Rattle.std.proofs.Common.{take}
use Rattle.std.specs.List.{AllZip}
use Rattle.endpoint_link.specs.InTables.{IsProcessLinkedIn}
use Rattle.endpoint_link.proofs.joined.Joined.linked_processes.Given as goal

abbrev pub invariant-loop-unit : goal.invariant-loop-unit
invariant-loop-unit l = AllZip (IsProcessLinkedIn l.self l.given) (take l.unit-index l.base) l.list
