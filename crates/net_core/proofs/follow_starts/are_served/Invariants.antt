use Rattle.std.proofs.Common.{◌≡◌, ◌+◌, drop}
use Rattle.net_core.specs.Follows.{served_by}
use Rattle.net_core.proofs.follow_starts.are_served.Given as goal

abbrev pub invariant-loop-place : goal.invariant-loop-place
invariant-loop-place l = served_by (drop l.place l.roles) (l.first + l.place) (drop l.place l.parts) ≡ served_by l.roles l.first l.parts
