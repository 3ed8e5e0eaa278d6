use Rattle.std.proofs.Common.{◌≡◌, ◌++◌, ◌+◌, drop, map}
use Rattle.endpoint_code.specs.Network.{served, served_parts}
use Rattle.session_starts.specs.Machines.{standing_of, number_of}
use Rattle.session_starts.proofs.services.serve.Given as goal

abbrev pub invariant-loop-place : goal.invariant-loop-place
invariant-loop-place l = record {
  standing :
      map standing_of l.machines.items ++ served l.endpoints l.channel.name l.sid (drop l.place l.channel.serve) ≡ served l.endpoints l.channel.name l.sid l.channel.serve;
  numbers :
      map number_of l.machines.items ++ map (λ q. q.1) (served_parts (drop l.place l.channel.serve) (l.first + l.place)) ≡ map (λ q. q.1) (served_parts l.channel.serve l.first);
}
