use Rattle.std.proofs.Common.{◌≡◌, ◌++◌, ◌+◌, drop}
use Rattle.endpoint_code.specs.Network.{served_parts}
use Rattle.post_office.proofs.parts.add_served.Given as goal

abbrev pub invariant-loop-place : goal.invariant-loop-place
invariant-loop-place l = l.parts ++ served_parts (drop l.place l.roles) (l.first + l.place) ≡ l.fn.parts ++ served_parts l.roles l.first
