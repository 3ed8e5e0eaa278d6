use Rattle.std.proofs.Common.{◌≡◌, drop}
use Rattle.chor_semantics.specs.Sources.{served_of}
use Rattle.projection.specs.Projects.{serving}
use Rattle.service_codes.proofs.start.serving.Given as goal

abbrev pub invariant-loop-part : goal.invariant-loop-part
invariant-loop-part l = serving l.role (served_of (drop l.part-index l.serve)) ≡ serving l.role (served_of l.serve)
