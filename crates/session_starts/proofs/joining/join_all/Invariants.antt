use Rattle.std.proofs.Common.{◌≡◌, drop, map}
use Rattle.std.specs.Prelude.{All}
use Rattle.endpoint_machine.specs.Bound.{IsBound}
use Rattle.session_starts.specs.Machines.{standing_of}
use Rattle.session_starts.specs.Machines.{number_of}
use Rattle.session_starts.proofs.Joins.{ToJoin}
use Rattle.session_starts.proofs.joining.join_all.Given as goal

abbrev pub invariant-loop-part : goal.invariant-loop-part
invariant-loop-part l = record {
  left : ToJoin l.endpoints l.channel l.sid (map standing_of l.fn.machines) l.parts l.machines (drop l.part-index l.parts);
  bound : All (IsBound l.endpoints) (map standing_of l.machines);
  numbers : map number_of l.machines ≡ map number_of l.fn.machines;
}
