use Rattle.event_orders.proofs.OwnersAtStarts.{one_holder}
use Rattle.event_orders.proofs.Extending.{PermutedRun, whole_permuted_run, extension_closed}
use Rattle.event_orders.proofs.linear_extensions_are_runs.Goals as goal

pub returns : goal.returns
returns c e hosts cap h last faultless run o ext =
    let by : PermutedRun e hosts cap h (one_holder e faultless hosts cap) last run last o = whole_permuted_run e hosts cap h (one_holder e faultless hosts cap) last run o ext.whole (extension_closed h cap o ext) in
    record { state = by.state; run = by.leads; same = by.same }
