use Rattle.office_runs.proofs.Received.{can_receive, not_empty, got_noted, got_busy}
use Rattle.office_runs.proofs.making.make_received.Goals as goal

pub recv-requires-clause-stands : goal.recv-requires-clause-stands
recv-requires-clause-stands c = can_receive c.args.office.now c.reserve_notes.new.self c.args.pid c.args.lane.0 c.args.lane.1 c.args.lane.2 c.args.load c.history.ensures.kept c.requires c.reserve_notes.ensures.same

pub unreachable-requires : goal.unreachable-requires
unreachable-requires c =
    not_empty c.args.office.now c.reserve_notes.new.self c.args.pid c.args.lane.0 c.args.lane.1 c.args.lane.2 c.args.load c.history.ensures.kept c.requires c.reserve_notes.ensures.same c.recv.new.self c.in-Empty.ensures

pub returns-clause-noted : goal.returns-clause-noted
returns-clause-noted c =
    got_noted c.args.office.now c.reserve_notes.new.self c.args.pid c.args.lane.0 c.args.lane.1 c.args.lane.2 c.args.load c.history.ensures.kept c.requires c.reserve_notes.ensures.same c.in-Got.field-0 c.recv.new.self c.in-Got.ensures

pub returns-clause-busy : goal.returns-clause-busy
returns-clause-busy c =
    got_busy c.args.office.now c.reserve_notes.new.self c.args.pid c.args.lane.0 c.args.lane.1 c.args.lane.2 c.args.load c.history.ensures.kept c.requires c.reserve_notes.ensures.same c.in-Got.field-0 c.recv.new.self c.in-Got.ensures
