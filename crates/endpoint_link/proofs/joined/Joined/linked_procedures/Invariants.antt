use Rattle.std.proofs.Common.{take}
use Rattle.std.specs.List.{AllZip}
use Rattle.endpoint_link.specs.InTables.{IsProcedureLinkedIn}
use Rattle.endpoint_link.proofs.joined.Joined.linked_procedures.Given as goal

abbrev pub invariant-loop-unit : goal.invariant-loop-unit
invariant-loop-unit l = AllZip (IsProcedureLinkedIn l.self l.given) (take l.unit-index l.base) l.list
