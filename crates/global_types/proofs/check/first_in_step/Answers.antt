use Rattle.std.proofs.Common.{ap, ◌∙◌}
use Rattle.std.specs.List.{flat_map}
use Rattle.global_types.specs.Faults.{own_receiver, unknown_state}
use Rattle.chor_base.specs.Faults.{first_of_all}
use Rattle.chor_base.proofs.Faults.{first_of_two}
use Rattle.global_types.proofs.check.first_in_step.Goals as goal

pub returns-in-Choice : goal.returns-in-Choice
returns-in-Choice c =
    let states = c.args.states.now in
    let arms = ap (λ l. first_of_all (flat_map (λ arm. unknown_state states arm.next) l)) c.as_slice.ensures in
    rw c.in-Choice.is (first_of_two (own_receiver c.in-Choice.from c.in-Choice.to) (flat_map (λ arm. unknown_state states arm.next) c.in-Choice.arms) _ _ _
    c.earlier-in-Choice.ensures c.own_receiver-in-Choice.ensures (c.first_in_arms.ensures ∙ arms))
