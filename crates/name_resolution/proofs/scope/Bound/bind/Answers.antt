use Rattle.std.proofs.Common.{ap, ◌∙◌, map, ◌∷◌, ◌++◌}
use Rattle.chor_base.specs.declared.rule.Rule.TheVariants.{N2}
use Rattle.chor_tree.specs.Names.{repeated, fault_at, is_among}
use Rattle.chor_base.specs.Faults.{first_of_all}
use Rattle.chor_base.proofs.Faults.{first_of_two}
use Rattle.name_resolution.proofs.Repeats.{repeated_alike, alike_second, bound_on, begins_bound}
use Rattle.name_resolution.proofs.scope.Bound.bind.Goals as goal

pub returns-clause-fault : goal.returns-clause-fault
returns-clause-fault c =
    let s = c.args.self.now in
    let k = c.args.session.now in
    let qs = map (λ q. q.process) c.args.serve.now in
    first_of_two (fault_at (is_among (s.processes ++ s.sessions) k.name) N2 k) (repeated (k.name ∷ (s.processes ++ s.sessions)) qs) _ _ _ c.earlier.ensures c.twice-first.ensures
    (c.in_ok-rest.ensures.fault ∙ ap first_of_all (repeated_alike _ _ qs (alike_second s _ _ k.name c.self.view_is c.in_ok-add.ensures.names)))

pub returns-clause-bound : goal.returns-clause-bound
returns-clause-bound c = bound_on c.args.self.now _ _ _ c.args.session.now c.args.serve.now c.self.view_is c.in_ok-add.ensures.names c.in_ok-rest.ensures.bound

pub returns-clause-begins : goal.returns-clause-begins
returns-clause-begins c = begins_bound c.args.self.now _ _ _ c.args.session.now c.self.view_is c.in_ok-add.ensures.names c.in_ok-rest.ensures.begins
