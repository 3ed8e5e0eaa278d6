use Rattle.std.proofs.Common.{take}
use Rattle.std.specs.Prelude.{All}
use Rattle.endpoint_link.specs.InTables.{ReplacesProcessIn}
use Rattle.endpoint_link.proofs.joined.Joined.process_body.Given as goal

abbrev pub invariant-loop-other : goal.invariant-loop-other
invariant-loop-other l = All (λ x. ReplacesProcessIn l.self x l.unit → ⊥) (take l.other-index l.part)
