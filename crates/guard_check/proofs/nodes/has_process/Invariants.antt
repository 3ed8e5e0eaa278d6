use Rattle.std.proofs.Common.{◌≡◌, drop, map}
use Rattle.chor_tree.specs.Names.{is_among}
use Rattle.guard_check.proofs.nodes.has_process.Given as goal

abbrev pub invariant-loop-part : goal.invariant-loop-part
invariant-loop-part l = is_among (map (λ q. q.process.name) (drop l.part-index l.parts)) l.process ≡ is_among (map (λ q. q.process.name) l.parts) l.process
