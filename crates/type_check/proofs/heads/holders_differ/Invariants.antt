use Rattle.std.proofs.Common.{◌≡◌, map, take}
use Rattle.type_check.proofs.heads.holders_differ.Given as goal

abbrev pub invariant-loop-holder : goal.invariant-loop-holder
invariant-loop-holder l = l.processes.items ≡ map (λ h. h.1.name) (take l.holder-index l.holders)
