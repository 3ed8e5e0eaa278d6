use Rattle.std.proofs.Common.{◌≡◌, take}
use Rattle.delegation.specs.Owners.{listed}
use Rattle.delegation.proofs.owners.listed.Given as goal

abbrev pub invariant-loop-role : goal.invariant-loop-role
invariant-loop-role l = l.entries.items ≡ listed l.session (take l.role-index l.holders)
