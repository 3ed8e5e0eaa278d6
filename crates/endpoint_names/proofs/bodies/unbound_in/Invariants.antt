use Rattle.std.proofs.Common.{◌≡◌, drop}
use Rattle.std.specs.List.{flat_map}
use Rattle.chor_base.specs.Faults.{earlier, first_of_all}
use Rattle.endpoint_names.specs.Faults.{unbound}
use Rattle.endpoint_names.proofs.bodies.unbound_in.Given as goal

abbrev pub invariant-loop-session : goal.invariant-loop-session
invariant-loop-session l = earlier l.first (first_of_all (flat_map (unbound l.bound) (drop l.session-index l.sessions))) ≡ first_of_all (flat_map (unbound l.bound) l.sessions)
