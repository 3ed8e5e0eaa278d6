use Rattle.std.proofs.Common.{◌≡◌, ◌++◌, map, drop}
use Rattle.chor_tree.specs.Names.{repeated}
use Rattle.chor_base.specs.Faults.{earlier, first_of_all}
use Rattle.name_resolution.specs.Places.{names_of}
use Rattle.name_resolution.specs.Sets.{AreAlike, Grows}
use Rattle.name_resolution.proofs.scope.Bound.bind_processes.Given as goal

abbrev pub invariant-loop-part : goal.invariant-loop-part
invariant-loop-part l = record {
  fault : earlier l.first (first_of_all (repeated (l.self.processes ++ l.self.sessions) (map (λ q. q.process) (drop l.part-index l.serve)))) ≡ first_of_all (repeated (l.fn.self.processes ++ l.fn.self.sessions) (map (λ q. q.process) l.serve));
  processes : AreAlike (l.self.processes ++ names_of (λ q. q.process) (drop l.part-index l.serve)) (l.fn.self.processes ++ names_of (λ q. q.process) l.serve);
  sessions : l.self.sessions ≡ l.fn.self.sessions;
  grows : Grows l.fn.self.processes l.self.processes;
}
