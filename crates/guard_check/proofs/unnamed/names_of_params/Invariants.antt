use Rattle.std.proofs.Common.{◌≡◌, ◌++◌, drop, map}
use Rattle.guard_check.proofs.unnamed.names_of_params.Given as goal

abbrev pub invariant-loop-param : goal.invariant-loop-param
invariant-loop-param l = l.list ++ map (λ q. q.name.name) (drop l.param-index l.params) ≡ map (λ q. q.name.name) l.params
