use Rattle.std.proofs.Common.{◌≡◌, drop}
use Rattle.std.specs.List.{flat_map}
use Rattle.chor_base.specs.Faults.{earlier, first_of_all}
use Rattle.endpoint_names.specs.Bodies.{body_at}
use Rattle.endpoint_names.specs.Class.{opening_faults, begin_faults}
use Rattle.endpoint_check.proofs.check.first_beginning.Given as goal

abbrev pub invariant-loop-procedure : goal.invariant-loop-procedure
invariant-loop-procedure l =
    earlier l.first (first_of_all (flat_map (λ p. opening_faults (body_at l.written.lines.items p.body)) (drop l.procedure-index l.written.procedures))) ≡ first_of_all (begin_faults l.written)
