use Rattle.std.proofs.Common.{◌≡◌, take}
use Rattle.chor_host.specs.Functions.{hosts_in}
use Rattle.chor_host.specs.Tables.{functions_of}
use Rattle.post_office.specs.Views.{events_of}
use Rattle.office_runs.proofs.Ahead.{Ahead}
use Rattle.office_runs.specs.Told.{AllBusy, AreAlike}
use Rattle.office_runs.proofs.told.office_of.Given as goal

abbrev pub invariant-loop-event : goal.invariant-loop-event
invariant-loop-event g l =
    Ahead l.endpoints l.fn.capacity l.events l.event-index l.network × AreAlike (hosts_in l.endpoints.names (functions_of l.hosts)) l.network l.office
    × (events_of l.office.history ≡ take l.event-index l.events) × AllBusy l.office
