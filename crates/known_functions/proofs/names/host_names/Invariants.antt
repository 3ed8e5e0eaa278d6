use Rattle.std.proofs.Common.{◌≡◌, take}
use Rattle.chor_host.specs.Functions.{names_of}
use Rattle.chor_host.specs.Tables.{functions_of}
use Rattle.known_functions.proofs.names.host_names.Given as goal

abbrev pub invariant-loop-place : goal.invariant-loop-place
invariant-loop-place g l = l.names ≡ take l.place (names_of (functions_of l.hosts))
