use Rattle.std.proofs.Common.{◌≡◌, map, take}
use Rattle.std.specs.List.{filter}
use Rattle.projection.specs.Projects.{starts_of, is_some_start, channel_from}
use Rattle.file_codes.proofs.channels.channels.Given as goal

abbrev pub invariant-loop-service : goal.invariant-loop-service
invariant-loop-service l = l.channels ≡ map channel_from (filter (λ s. is_some_start (starts_of l.file s.name.name)) (take l.service-index l.service-items))
