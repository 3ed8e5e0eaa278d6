use Rattle.std.proofs.Common.{◌≡◌, drop}
use Rattle.chor_tree.specs.Names.{is_among, names_in}
use Rattle.typing_steps.proofs.calls.is_among.Given as goal

abbrev pub invariant-loop-other : goal.invariant-loop-other
invariant-loop-other l = is_among (names_in (drop l.other-index l.names)) l.name ≡ is_among (names_in l.names) l.name
