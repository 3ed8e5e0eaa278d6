use Rattle.std.proofs.Common.{subst}
use Rattle.post_office.specs.Views.{CanMake}
use Rattle.office_runs.specs.Told.{MayCome}
use Rattle.office_runs.proofs.Alike.{can_come, not_full_there}
use Rattle.office_runs.proofs.making.make.Goals as goal

pub make_sent-requires-clause-can : goal.make_sent-requires-clause-can
make_sent-requires-clause-can c = subst (CanMake c.args.office.now) c.in-Send.is (can_come c.args.office.now c.args.count c.args.event.now c.requires.may)

pub make_sent-requires-clause-room : goal.make_sent-requires-clause-room
make_sent-requires-clause-room c =
    let may = subst (MayCome c.args.office.now c.args.count) c.in-Send.is c.requires.may in
    not_full_there c.args.office.now c.args.count c.in-Send.pid c.in-Send.sid c.in-Send.from c.in-Send.to c.in-Send.load may c.history.ensures.kept

pub make_received-requires : goal.make_received-requires
make_received-requires c = subst (CanMake c.args.office.now) c.in-Recv.is (can_come c.args.office.now c.args.count c.args.event.now c.requires.may)

pub make_local-requires-clause-can : goal.make_local-requires-clause-can
make_local-requires-clause-can c = can_come c.args.office.now c.args.count c.args.event.now c.requires.may
