use Rattle.std.proofs.Common.{ap, ◌∙◌}
use Rattle.chor_host.specs.Functions.{hosts_in}
use Rattle.chor_host.specs.Tables.{functions_of}
use Rattle.type_check.specs.declared.typed.Typed.{Typed}
use Rattle.accepted_orders.proofs.Telling.{told_of}
use Rattle.accepted_orders.proofs.ordering.order_accepted.Goals as goal

pub returns-clause-told : goal.returns-clause-told
returns-clause-told g c =
    let f = c.args.accepted.now.typed.file in
    told_of f c.file-file.result.now (hosts_in f.names (functions_of c.args.hosts.now)) c.args.capacity c.args.form c.args.bytes.now c.in_ok-events.events c.as_slice.result.now c.as_slice-2.result.now c.in_ok-order.order.causes c.told.result
    (c.file-file.ensures.file ∙ ap (λ (t : Typed). t.file) c.typed.ensures) c.as_slice.ensures c.as_slice-2.ensures c.in_ok-events.ensures c.in_ok-order.ensures c.told.ensures.text c.told.ensures.beyond
