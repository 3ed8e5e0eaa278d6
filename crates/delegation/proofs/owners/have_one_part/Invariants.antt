use Rattle.std.proofs.Common.{◌≡◌, ◌++◌, map, take}
use Rattle.delegation.proofs.owners.have_one_part.Given as goal

abbrev pub invariant-loop-part : goal.invariant-loop-part
invariant-loop-part l = l.processes.items ≡ map (λ q. q.process.name) (take l.part-index l.active)

abbrev pub invariant-loop-part-2 : goal.invariant-loop-part-2
invariant-loop-part-2 l = l.processes.items ≡ map (λ q. q.process.name) l.active ++ map (λ q. q.process.name) (take l.part-index l.serve)
