use Rattle.std.proofs.Common.{◌≡◌, take}
use Rattle.std.specs.List.{flat_map}
use Rattle.delegation.specs.Owners.{listed}
use Rattle.typing_steps.proofs.known.declared_owners.Given as goal

abbrev pub invariant-loop-session : goal.invariant-loop-session
invariant-loop-session l = l.owners ≡ flat_map (λ k. listed k.name.name k.holders) (take l.session-index l.sessions)
