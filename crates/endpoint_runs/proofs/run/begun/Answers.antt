use Rattle.std.proofs.Common.{arith}
use Rattle.net_core.proofs.Runs.{fits_first}
use Rattle.endpoint_runs.proofs.run.begun.Goals as goal

pub returns-clause-fits : goal.returns-clause-fits
returns-clause-fits c =
    let n = c.in_ok-network.ensures in
    fits_first c.args.endpoints.now c.in_ok-network.network c.args.steps n.endpoints n.state (let few = c.requires.few in omega (arith, few)) (c.are_few.ensures.0 (search))
