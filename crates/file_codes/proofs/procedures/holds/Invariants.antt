use Rattle.std.proofs.Common.{◌≡◌, drop}
use Rattle.projection.specs.Codes.{holds}
use Rattle.file_codes.proofs.procedures.holds.Given as goal

abbrev pub invariant-loop-holder : goal.invariant-loop-holder
invariant-loop-holder l = holds l.param (drop l.holder-index l.holders) ≡ holds l.param l.holders
