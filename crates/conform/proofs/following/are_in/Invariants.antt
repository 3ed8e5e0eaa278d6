use Rattle.std.proofs.Common.{◌≡◌, map, take}
use Rattle.chor_tree.specs.Names.{names_in}
use Rattle.conform.proofs.following.are_in.Given as goal

abbrev pub invariant-loop-place : goal.invariant-loop-place
invariant-loop-place l = map (λ q. q.0) (take l.place l.parts) ≡ names_in (take l.place l.roles)
