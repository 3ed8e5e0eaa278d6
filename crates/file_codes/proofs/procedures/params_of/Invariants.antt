use Rattle.std.proofs.Common.{◌≡◌, take}
use Rattle.file_codes.specs.Units.{params_of}
use Rattle.file_codes.proofs.procedures.params_of.Given as goal

abbrev pub invariant-loop-param : goal.invariant-loop-param
invariant-loop-param l = l.names ≡ params_of (take l.param-index l.params)
