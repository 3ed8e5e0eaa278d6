use Rattle.std.proofs.Common.{◌≡◌, drop}
use Rattle.chor_semantics.specs.Sources.{parts_of}
use Rattle.projection.specs.Codes.{role_in}
use Rattle.block_codes.proofs.part.role_in.Given as goal

abbrev pub invariant-loop-part : goal.invariant-loop-part
invariant-loop-part l = role_in l.process (parts_of (drop l.part-index l.parts)) ≡ role_in l.process (parts_of l.parts)
