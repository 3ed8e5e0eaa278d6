use Rattle.std.proofs.Common.{arith}
use Rattle.std.specs.Prelude.{bytes_eq}
use Rattle.std.specs.List.{list_any}
use Rattle.chor_host.specs.Functions.{names_of}
use Rattle.chor_host.specs.Tables.{functions_of}
use Rattle.endpoint_names.proofs.Walks.{looked_up}
use Rattle.endpoint_names.proofs.functions.Functions.new.Goals as goal

pub loop-number-preserved : goal.loop-number-preserved
loop-number-preserved g c =
    looked_up (λ w. list_any (bytes_eq w) (names_of (functions_of c.args.hosts.now))) c.args.names.now c.loop-number.number c.at-word.result.now c.has_function.result c.loop-number.known.items _
    (omega (arith, c.loop-number-test.true, c.len-number-end.ensures.len)) c.at-word.ensures c.has_function.ensures c.loop-number.invariant c.in_ok-push.ensures.items
