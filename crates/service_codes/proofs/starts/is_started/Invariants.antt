use Rattle.std.proofs.Common.{◌≡◌, [], take}
use Rattle.service_codes.specs.Starts.{nodes_of}
use Rattle.service_codes.proofs.starts.is_started.Given as goal

abbrev pub invariant-loop-start : goal.invariant-loop-start
invariant-loop-start l = nodes_of l.channel (take l.start-index l.started.starts.now) ≡ []
