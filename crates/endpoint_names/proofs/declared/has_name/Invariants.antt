use Rattle.std.proofs.Common.{◌≡◌, drop}
use Rattle.endpoint_code.specs.Faults.{is_among}
use Rattle.endpoint_names.specs.Faults.{names_in}
use Rattle.endpoint_names.proofs.declared.has_name.Given as goal

abbrev pub invariant-loop-named : goal.invariant-loop-named
invariant-loop-named l = is_among l.name (names_in (drop l.named-index l.names)) ≡ is_among l.name (names_in l.names)
