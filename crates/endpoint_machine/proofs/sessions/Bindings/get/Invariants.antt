use Rattle.std.proofs.Common.{◌≡◌, drop}
use Rattle.endpoint_machine.proofs.Bound.{lookup}
use Rattle.endpoint_machine.proofs.sessions.Bindings.get.Given as goal

abbrev pub invariant-loop-binding : goal.invariant-loop-binding
invariant-loop-binding l = lookup l.binding-items l.name.0 ≡ lookup (drop l.binding-index l.binding-items) l.name.0
