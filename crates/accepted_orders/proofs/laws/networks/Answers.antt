use Rattle.accepted_orders.proofs.laws.networks.Goals as goal

pub returns : goal.returns
returns c = record {
  faultless = c.projection_is_faultless.ensures;
  above = c.projection_is_above.ensures;
  to = c.checked_runs.ensures.to;
  back = c.checked_runs.ensures.back;
}
