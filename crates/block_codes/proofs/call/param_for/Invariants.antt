use Rattle.std.proofs.Common.{◌≡◌, length, map}
use Rattle.chor_semantics.specs.Sources.{name_ref}
use Rattle.projection.specs.Codes.{param_for}
use Rattle.block_codes.proofs.call.param_for.Given as goal

abbrev pub invariant-loop-param : goal.invariant-loop-param
invariant-loop-param l = param_for l.process l.params (map name_ref l.passed) ≡ param_for l.process l.fn.params (map name_ref l.fn.passed)

abbrev pub decreases-loop-param : goal.decreases-loop-param
decreases-loop-param l = length l.params
