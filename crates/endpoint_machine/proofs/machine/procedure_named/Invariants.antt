use Rattle.std.proofs.Common.{◌≡◌, drop}
use Rattle.endpoint_code.specs.Network.{procedure_of}
use Rattle.endpoint_machine.proofs.machine.procedure_named.Given as goal

abbrev pub invariant-loop-procedure : goal.invariant-loop-procedure
invariant-loop-procedure l = procedure_of l.procedures l.name l.param ≡ procedure_of (drop l.procedure-index l.procedures) l.name l.param
