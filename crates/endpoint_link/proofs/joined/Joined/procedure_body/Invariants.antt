use Rattle.std.proofs.Common.{take}
use Rattle.std.specs.Prelude.{All}
use Rattle.endpoint_link.specs.InTables.{ReplacesProcedureIn}
use Rattle.endpoint_link.proofs.joined.Joined.procedure_body.Given as goal

abbrev pub invariant-loop-other : goal.invariant-loop-other
invariant-loop-other l = All (λ x. ReplacesProcedureIn l.self x l.unit → ⊥) (take l.other-index l.part)
