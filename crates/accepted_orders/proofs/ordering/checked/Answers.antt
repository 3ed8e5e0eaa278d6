use Rattle.simulation.proofs.Runs.{checked}
use Rattle.accepted_orders.proofs.ordering.checked.Goals as goal

pub returns : goal.returns
returns c =
    let typed = c.args.accepted.now.typed in
    let e = c.endpoints-endpoints.result.now in
    let a = c.endpoints-endpoints.ensures.accepted in
    record {
      functions = typed.hosts;
      checked = checked typed.hosts typed.file e typed.fine a;
      programs = e;
      above = a.above;
    }
