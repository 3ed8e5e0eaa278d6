use Rattle.std.proofs.Common.{◌≡◌, map, take}
use Rattle.typing_rules.specs.Environment.{stands}
use Rattle.typing_steps.proofs.known.declared_standings.Given as goal

abbrev pub invariant-loop-session : goal.invariant-loop-session
invariant-loop-session l = l.standings.items ≡ map (λ k. stands k.name.name k.protocol.name k.state.name) (take l.session-index l.sessions)
