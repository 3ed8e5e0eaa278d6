use Rattle.std.proofs.Common.{take}
use Rattle.std.specs.Prelude.{All}
use Rattle.endpoint_link.specs.InTables.{ReplacesServiceIn}
use Rattle.endpoint_link.proofs.joined.Joined.service_body.Given as goal

abbrev pub invariant-loop-other : goal.invariant-loop-other
invariant-loop-other l = All (λ x. ReplacesServiceIn l.self x l.unit → ⊥) (take l.other-index l.part)
