use Rattle.std.proofs.Common.{take}
use Rattle.std.specs.List.{AllZip}
use Rattle.endpoint_link.specs.InTables.{IsServiceLinkedIn}
use Rattle.endpoint_link.proofs.joined.Joined.linked_services.Given as goal

abbrev pub invariant-loop-unit : goal.invariant-loop-unit
invariant-loop-unit l = AllZip (IsServiceLinkedIn l.self l.given) (take l.unit-index l.base) l.list
