use Rattle.std.proofs.Common.{◌≡◌, take}
use Rattle.endpoint_link.proofs.making.copied_channels.Given as goal

abbrev pub invariant-loop-unit : goal.invariant-loop-unit
invariant-loop-unit l = l.list ≡ take l.unit-index l.base
