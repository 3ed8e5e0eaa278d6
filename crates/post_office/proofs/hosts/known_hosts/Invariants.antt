use Rattle.std.proofs.Common.{◌≡◌, take}
use Rattle.chor_host.specs.Functions.{hosts_in}
use Rattle.chor_host.specs.Tables.{functions_of}
use Rattle.post_office.proofs.hosts.known_hosts.Given as goal

abbrev pub invariant-loop-place : goal.invariant-loop-place
invariant-loop-place g l = l.known.items ≡ hosts_in l.names (take l.place (functions_of l.hosts))
