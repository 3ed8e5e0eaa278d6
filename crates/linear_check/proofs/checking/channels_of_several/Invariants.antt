use Rattle.std.proofs.Common.{◌≡◌, ◌++◌, drop}
use Rattle.linear_check.specs.Several.{several}
use Rattle.linear_check.proofs.checking.channels_of_several.Given as goal

abbrev pub invariant-loop-service : goal.invariant-loop-service
invariant-loop-service l = l.list ++ several (drop l.service-index l.services) ≡ several l.services
