use Rattle.std.proofs.Common.{[], ◌++◌, map}
use Rattle.chor_tree.specs.Names.{names_in, unknown, repeated, payload_faults}
use Rattle.chor_base.proofs.Faults.{first_of_two}
use Rattle.name_resolution.proofs.declared.Declared.first_in_step.Goals as goal

pub returns-in-Value : goal.returns-in-Value
returns-in-Value c =
    let roles = names_in c.protocol.inside.roles in
    let from = unknown roles c.in-Value.from in
    let to = unknown roles c.in-Value.to in
    rw (← c.protocol.view_is, c.in-Value.is)
    (first_of_two (from ++ to) (payload_faults c.args.self.now.file.now c.in-Value.payload) _ _ _ c.earlier-in-Value.ensures (first_of_two from to _ _ _ c.earlier.ensures c.unknown_in.ensures c.unknown_in-in-Value.ensures) c.first_in_payload.ensures)

pub returns-in_ok-labels-in-Choice : goal.returns-in_ok-labels-in-Choice
returns-in_ok-labels-in-Choice c =
    let roles = names_in c.protocol.inside.roles in
    let from = unknown roles c.in-Choice.from in
    let to = unknown roles c.in-Choice.to in
    rw (← c.protocol.view_is, c.in-Choice.is)
    (first_of_two (from ++ to) (repeated [] (map (λ arm. arm.label) c.in-Choice.arms)) _ _ _ c.earlier-in-Choice-2.ensures (first_of_two from to _ _ _ c.earlier-in-Choice.ensures c.unknown_in-in-Choice.ensures c.unknown_in-in-Choice-2.ensures) c.in_ok-labels-in-Choice.ensures)
