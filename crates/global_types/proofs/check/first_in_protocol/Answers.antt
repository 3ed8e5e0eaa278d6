use Rattle.std.proofs.Common.{ap, ◌∙◌}
use Rattle.std.specs.List.{flat_map}
use Rattle.global_types.specs.Faults.{unused_role, step_faults}
use Rattle.chor_base.specs.Faults.{first_of_all}
use Rattle.chor_base.proofs.Faults.{first_of_two}
use Rattle.global_types.proofs.check.first_in_protocol.Goals as goal

pub returns : goal.returns
returns c =
    let ps = c.args.protocols.now in
    let p = c.protocol.inside in
    rw (← c.protocol.view_is) (first_of_two (flat_map (unused_role p.states) p.roles) (flat_map (λ s. step_faults ps p.states s.step) p.states) _ _ _
    c.earlier.ensures
    (c.first_in_roles.ensures ∙ ap (λ l. first_of_all (flat_map (unused_role c.as_slice-states.result.now) l)) c.as_slice.ensures ∙ ap (λ ss. first_of_all (flat_map (unused_role ss) p.roles)) c.as_slice-states.ensures)
    (c.first_in_states.ensures ∙ ap (λ ss. first_of_all (flat_map (λ s. step_faults ps ss s.step) ss)) c.as_slice-states.ensures))
