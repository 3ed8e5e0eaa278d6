use Rattle.std.proofs.Common.{ap, ◌∙◌, map, [], ◌++◌}
use Rattle.std.specs.List.{flat_map}
use Rattle.chor_tree.specs.Names.{repeated, step_faults}
use Rattle.chor_base.specs.Faults.{first_of_all}
use Rattle.chor_base.proofs.Faults.{first_of_two}
use Rattle.name_resolution.proofs.Members.{map_itself}
use Rattle.name_resolution.proofs.declared.Declared.first_in_protocol.Goals as goal

pub returns : goal.returns
returns c =
    let f = c.args.self.now.file.now in
    let p = c.args.protocol.now in
    let states = repeated [] (map (λ s. s.name) p.states) in
    first_of_two (repeated [] p.roles ++ states) (flat_map (λ s. step_faults f p s.step) p.states) _ _ _ c.earlier-2.ensures
    (first_of_two (repeated [] p.roles) states _ _ _ c.earlier.ensures (c.in_ok-roles.ensures ∙ ap (λ l. first_of_all (repeated [] l)) (map_itself c.protocol.inside.roles) ∙ ap (λ q. first_of_all (repeated [] q.roles)) c.protocol.view_is) (c.in_ok-states.ensures ∙ ap (λ q. first_of_all (repeated [] (map (λ s. s.name) q.states))) c.protocol.view_is))
    c.in_ok-steps.ensures
