use Rattle.std.proofs.Common.{◌≡◌, ◌++◌, map, take, drop}
use Rattle.delegation.specs.Spans.{passed_role}
use Rattle.delegation.proofs.owners.set_holder_in.Given as goal

abbrev pub invariant-loop-held : goal.invariant-loop-held
invariant-loop-held l = l.entries ≡ map (passed_role l.role l.to) (take l.held-index l.fn.entries) ++ drop l.held-index l.fn.entries
