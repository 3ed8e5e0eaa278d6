use Rattle.std.proofs.Common.{◌≡◌, drop}
use Rattle.chor_tree.specs.Names.{first_named}
use Rattle.conform.proofs.places.channel_named.Given as goal

abbrev pub invariant-loop-service : goal.invariant-loop-service
invariant-loop-service l = first_named (λ s. s.name) l.services l.name ≡ first_named (λ s. s.name) (drop l.service-index l.services) l.name
