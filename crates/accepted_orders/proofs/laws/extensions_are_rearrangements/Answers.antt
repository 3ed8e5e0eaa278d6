use Rattle.accepted_orders.proofs.Networks.{extension}
use Rattle.accepted_orders.proofs.laws.extensions_are_rearrangements.Goals as goal

pub returns : goal.returns
returns c f hosts cap h r order it = extension c.networks.ensures f hosts cap h r c.linear_extensions_are_runs.ensures order it
