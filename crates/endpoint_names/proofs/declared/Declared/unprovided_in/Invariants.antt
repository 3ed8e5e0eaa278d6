use Rattle.std.proofs.Common.{◌≡◌, drop}
use Rattle.std.specs.List.{flat_map}
use Rattle.chor_base.specs.Faults.{earlier, first_of_all}
use Rattle.endpoint_names.specs.Faults.{unprovided}
use Rattle.endpoint_names.proofs.declared.Declared.unprovided_in.Given as goal

abbrev pub invariant-loop-role : goal.invariant-loop-role
invariant-loop-role l = earlier l.first (first_of_all (flat_map (unprovided l.self.written.now l.channel) (drop l.role-index l.roles))) ≡ first_of_all (flat_map (unprovided l.self.written.now l.channel) l.roles)
