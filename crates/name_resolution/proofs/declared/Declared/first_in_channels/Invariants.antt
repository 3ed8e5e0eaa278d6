use Rattle.std.proofs.Common.{◌≡◌, drop}
use Rattle.std.specs.List.{flat_map}
use Rattle.chor_tree.specs.Names.{channel_faults}
use Rattle.chor_base.specs.Faults.{earlier, first_of_all}
use Rattle.name_resolution.proofs.declared.Declared.first_in_channels.Given as goal

abbrev pub invariant-loop-service : goal.invariant-loop-service
invariant-loop-service l = earlier l.first (first_of_all (flat_map (channel_faults l.self.file.now) (drop l.service-index (l.self.file.now.services)))) ≡ first_of_all (flat_map (channel_faults l.self.file.now) (l.self.file.now.services))
