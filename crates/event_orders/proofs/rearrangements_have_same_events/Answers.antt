use Rattle.event_orders.proofs.Numbering.{same_rearrange}
use Rattle.event_orders.proofs.Renumbering.{rearranged_same}
use Rattle.event_orders.proofs.rearrangements_have_same_events.Goals as goal

pub returns-clause-to : goal.returns-clause-to
returns-clause-to c = rearranged_same

pub returns-clause-back : goal.returns-clause-back
returns-clause-back c e hosts cap h other last last' run run' same = same_rearrange e hosts cap h last run other last' run' same
