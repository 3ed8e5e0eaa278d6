use Rattle.std.proofs.Common.{length}
use Rattle.endpoint_reader.specs.Known.{AreThere}
use Rattle.endpoint_reader.specs.Tokens.{from}
use Rattle.endpoint_reader.proofs.RoleLists.{ActiveSoFar}
use Rattle.endpoint_reader.proofs.roles.read_roles.Given as goal

abbrev pub invariant-roles : goal.invariant-roles
invariant-roles l = record { so_far : ActiveSoFar l.input l.fn.room (from l.input l.fn.at) l.active l.left (from l.input l.at); known : AreThere l.input l.active }

abbrev pub decreases-roles : goal.decreases-roles
decreases-roles l = length (from l.input l.at)
