use Rattle.std.proofs.Common.{◌≡◌, drop}
use Rattle.delegation.specs.Spans.{role_holder}
use Rattle.delegation.proofs.owners.holder_in.Given as goal

abbrev pub invariant-loop-held : goal.invariant-loop-held
invariant-loop-held l = role_holder (drop l.held-index l.entries) l.role ≡ role_holder l.entries l.role
