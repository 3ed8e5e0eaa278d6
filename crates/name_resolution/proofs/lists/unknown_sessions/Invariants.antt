use Rattle.std.proofs.Common.{◌≡◌, drop}
use Rattle.std.specs.List.{flat_map}
use Rattle.chor_tree.specs.Names.{unknown_session}
use Rattle.chor_base.specs.Faults.{earlier, first_of_all}
use Rattle.name_resolution.proofs.lists.unknown_sessions.Given as goal

abbrev pub invariant-loop-session : goal.invariant-loop-session
invariant-loop-session l = earlier l.first (first_of_all (flat_map (unknown_session l.bound) (drop l.session-index (l.sessions)))) ≡ first_of_all (flat_map (unknown_session l.bound) (l.sessions))
