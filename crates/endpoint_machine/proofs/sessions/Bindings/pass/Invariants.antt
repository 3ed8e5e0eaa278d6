use Rattle.std.proofs.Common.{◌≡◌, ◌≤◌, ◌+◌, drop, length}
use Rattle.endpoint_code.specs.Network.{passed}
use Rattle.endpoint_machine.proofs.sessions.Bindings.pass.Given as goal

abbrev pub invariant-loop-left : goal.invariant-loop-left
invariant-loop-left l = record {
  made : l.self.map ≡ passed (drop l.left l.params) (drop l.left l.names) l.from.map;
  within : l.left ≤ length l.names;
  room : l.initial.self.spare + l.left ≤ l.self.spare + length l.names;
}

abbrev pub decreases-loop-left : goal.decreases-loop-left
decreases-loop-left l = l.left
