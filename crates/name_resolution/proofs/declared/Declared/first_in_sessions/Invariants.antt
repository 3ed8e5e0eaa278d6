use Rattle.std.proofs.Common.{◌≡◌, drop, map}
use Rattle.std.specs.List.{flat_map}
use Rattle.chor_tree.specs.Names.{session_faults}
use Rattle.chor_base.specs.Faults.{earlier, first_of_all}
use Rattle.name_resolution.proofs.declared.Declared.first_in_sessions.Given as goal

abbrev pub invariant-loop-session : goal.invariant-loop-session
invariant-loop-session l = earlier l.first (first_of_all (flat_map (session_faults l.self.file.now (map (λ q. q.name.name) l.procedure.params)) (drop l.session-index (l.procedure.sessions)))) ≡ first_of_all (flat_map (session_faults l.self.file.now (map (λ q. q.name.name) l.procedure.params)) (l.procedure.sessions))
