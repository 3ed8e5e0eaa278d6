use Rattle.std.proofs.Common.{◌≡◌, take, map}
use Rattle.endpoint_code.specs.Network.{standing_all}
use Rattle.session_starts.specs.Machines.{standing_of}
use Rattle.session_starts.specs.Machines.{AreCounted}
use Rattle.net_core.proofs.parts.standing_all.Given as goal

abbrev pub invariant-loop-process : goal.invariant-loop-process
invariant-loop-process l = record {
  standing : map standing_of l.machines.items ≡ standing_all (take l.process-index l.process-items);
  counted : AreCounted l.machines.items;
}
