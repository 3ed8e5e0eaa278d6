use Rattle.std.proofs.Common.{◌∙◌, map}
use Rattle.session_starts.specs.Machines.{standing_of}
use Rattle.session_starts.proofs.Joins.{to_join_more, to_join_here, to_join_all}
use Rattle.session_starts.proofs.joining.join_all.Goals as goal

pub loop-part-preserved : goal.loop-part-preserved
loop-part-preserved c = record {
  left =
      to_join_more c.args.endpoints.now c.args.channel c.args.sid (map standing_of c.args.machines.now) c.args.parts.now c.loop-part.machines c.join_one.new.machines c.loop-part.part-index
      (record { 0 = 0 }, 0) c.loop-part-test.true c.loop-part.invariant.left c.join_one.ensures.put;
  bound = c.join_one.ensures.bound;
  numbers = c.join_one.ensures.numbers ∙ c.loop-part.invariant.numbers;
}

pub join_one-requires-clause-joins : goal.join_one-requires-clause-joins
join_one-requires-clause-joins c =
    (to_join_here c.args.endpoints.now c.args.channel c.args.sid (map standing_of c.args.machines.now) c.args.parts.now c.loop-part.machines c.loop-part.part-index
    (record { 0 = 0 }, 0) c.loop-part-test.true c.loop-part.invariant.left).0

pub join_one-requires-clause-room : goal.join_one-requires-clause-room
join_one-requires-clause-room c =
    (to_join_here c.args.endpoints.now c.args.channel c.args.sid (map standing_of c.args.machines.now) c.args.parts.now c.loop-part.machines c.loop-part.part-index
    (record { 0 = 0 }, 0) c.loop-part-test.true c.loop-part.invariant.left).1

pub returns-clause-joined : goal.returns-clause-joined
returns-clause-joined c =
    to_join_all c.args.endpoints.now c.args.channel c.args.sid (map standing_of c.args.machines.now) c.args.parts.now c.loop-part.machines c.loop-part.part-index c.loop-part-test.false c.loop-part.invariant.left
