use Rattle.std.proofs.Common.{◌≡◌, drop}
use Rattle.std.specs.List.{flat_map}
use Rattle.chor_base.specs.Faults.{earlier, first_of_all}
use Rattle.typing_rules.specs.TypeFaults.{holder_fault}
use Rattle.type_check.proofs.heads.first_in_head.Given as goal

abbrev pub invariant-loop-session : goal.invariant-loop-session
invariant-loop-session l = earlier l.first (first_of_all (flat_map holder_fault (drop l.session-index l.procedure.sessions))) ≡ first_of_all (flat_map holder_fault l.procedure.sessions)
