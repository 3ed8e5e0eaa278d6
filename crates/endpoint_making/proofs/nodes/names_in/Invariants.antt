use Rattle.std.proofs.Common.{◌≡◌, ◌++◌, drop}
use Rattle.endpoint_names.specs.Faults.{names_in}
use Rattle.endpoint_making.proofs.nodes.names_in.Given as goal

abbrev pub invariant-loop-name : goal.invariant-loop-name
invariant-loop-name l = l.list ++ names_in (drop l.name-index l.names) ≡ names_in l.names
