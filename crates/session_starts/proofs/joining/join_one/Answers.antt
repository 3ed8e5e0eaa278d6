use Rattle.std.proofs.Common.{get_or}
use Rattle.session_starts.specs.Machines.{number_of}
use Rattle.session_starts.proofs.Places.{reserved_is}
use Rattle.session_starts.proofs.Joins.{one_joins, one_bound, room_within, mapped_get, bound_here, joins_here, reserved_here}
use Rattle.session_starts.proofs.joining.join_one.Goals as goal

pub joined-requires : goal.joined-requires
joined-requires c =
    let e = c.args.endpoints.now in
    let ms = c.args.machines.now in
    let p = c.args.part.1 in
    let d = c.index-machines-part.result in
    let within = room_within e ms p c.requires.room in
    record {
      faultless = c.requires.faultless;
      bound = bound_here e ms p d c.requires.bound within;
      joins = joins_here e ms p d c.args.channel c.args.part.0 within c.requires.joins;
      room = reserved_is e (get_or ms p d) (reserved_here e ms p d c.requires.room);
    }

pub returns-clause-put : goal.returns-clause-put
returns-clause-put c =
    one_joins c.args.endpoints.now c.args.machines.now c.args.part.1 c.index-machines-part.result c.joined.new.self c.args.channel c.args.part.0 c.args.sid
    (room_within c.args.endpoints.now c.args.machines.now c.args.part.1 c.requires.room) c.requires.joins c.joined.ensures.joined

pub returns-clause-bound : goal.returns-clause-bound
returns-clause-bound c = one_bound c.args.endpoints.now c.args.machines.now c.args.part.1 c.joined.new.self c.requires.bound c.joined.ensures.bound

pub returns-clause-numbers : goal.returns-clause-numbers
returns-clause-numbers c =
    mapped_get number_of c.args.machines.now c.args.part.1 c.index-machines-part.result c.joined.new.self
    (room_within c.args.endpoints.now c.args.machines.now c.args.part.1 c.requires.room) c.joined.ensures.number
