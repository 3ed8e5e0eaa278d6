use Rattle.accepted_orders.proofs.ordering.order_of.Goals as goal

pub order-requires : goal.order-requires
order-requires c =
    let source = c.checked.ensures in
    let run = c.checked_runs.ensures.back c.args.accepted.now.typed.file source.functions source.checked source.programs source.above c.requires.0 c.args.capacity c.args.events.now c.requires.1 in
    (source.programs, c.requires.0, run.0, run.1)
