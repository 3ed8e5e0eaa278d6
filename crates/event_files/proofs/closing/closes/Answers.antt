use Rattle.event_files.proofs.ClosingLines.{end_closes, limit_closes, nothing_closes}
use Rattle.event_files.proofs.closing.closes.Goals as goal

pub returns-then-replayed : goal.returns-then-replayed
returns-then-replayed c =
    let read = rw c.in-Some-End.field-0-is at c.in-Some-End.ensures in
    end_closes c.args.replayed c.args.line.now c.in-Some-End.count c.requires read.0 c.if-replayed.true read.1

pub returns-in-Some-Limit : goal.returns-in-Some-Limit
returns-in-Some-Limit c =
    let read = rw c.in-Some-Limit.field-0-is at c.in-Some-Limit.ensures in
    limit_closes c.args.replayed c.args.line.now c.in-Some-Limit.count c.requires read.0 read.1

pub returns-in-None : goal.returns-in-None
returns-in-None c = nothing_closes c.args.replayed c.args.line.now c.requires c.in-None.ensures
