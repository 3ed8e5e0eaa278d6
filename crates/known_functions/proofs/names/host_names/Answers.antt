use Rattle.chor_host.specs.Functions.{function_of}
use Rattle.chor_host.specs.Tables.{functions_of}
use Rattle.known_functions.proofs.HostNames.{names_turn}
use Rattle.known_functions.proofs.names.host_names.Goals as goal

pub loop-place-preserved : goal.loop-place-preserved
loop-place-preserved g c =
    names_turn (functions_of c.args.hosts.now) c.loop-place.place (function_of c.at-host.result.now) c.loop-place.names c.push.new.self c.in_ok-name.name c.at-host.ensures c.in_ok-name.ensures c.loop-place.invariant c.in_ok-push.ensures.ok
