use Rattle.std.proofs.Common.{◌≡◌, ◌++◌, take}
use Rattle.delegation.specs.Owners.{started}
use Rattle.delegation.proofs.owners.started.Given as goal

abbrev pub invariant-loop-part : goal.invariant-loop-part
invariant-loop-part l = l.entries.items ≡ started l.session (take l.part-index l.active)

abbrev pub invariant-loop-part-2 : goal.invariant-loop-part-2
invariant-loop-part-2 l = l.entries.items ≡ started l.session l.active ++ started l.session (take l.part-index l.serve)
