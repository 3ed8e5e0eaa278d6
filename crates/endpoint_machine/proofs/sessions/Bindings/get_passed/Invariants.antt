use Rattle.std.proofs.Common.{◌≡◌, drop}
use Rattle.std.specs.FinMap as fin
use Rattle.endpoint_code.specs.Network.{passed}
use Rattle.endpoint_machine.proofs.sessions.Bindings.get_passed.Given as goal

abbrev pub invariant-loop-i : goal.invariant-loop-i
invariant-loop-i l = fin.get (passed l.params l.names l.self.map) l.name.0 ≡ fin.get (passed (drop l.i l.params) (drop l.i l.names) l.self.map) l.name.0
