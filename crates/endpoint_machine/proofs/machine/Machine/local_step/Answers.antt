use Rattle.std.proofs.Common.{◌<◌, ◌∙◌, ℕ, sym, subst, w64, to_z, of_z}
use Rattle.chor_host.specs.Functions.{names_of}
use Rattle.chor_host.specs.Tables.{functions_of}
use Rattle.endpoint_machine.specs.Acts.{node_acted}
use Rattle.endpoint_machine.specs.Bound.{IsBound}
use Rattle.endpoint_machine.specs.Views.{MachineView}
use Rattle.endpoint_machine.proofs.Actings.{alone_there, known_there, numbered_there}
use Rattle.endpoint_machine.proofs.Goings.{bound_acted, entered}
use Rattle.endpoint_machine.proofs.machine.Machine.local_step.Goals as goal

pub answer_at-answer-requires-clause-there : goal.answer_at-answer-requires-clause-there
answer_at-answer-requires-clause-there g c = numbered_there c.args.endpoints.now c.args.self.now.machine c.place-place.result.node.now _ c.place-place.ensures.stands

pub answer_at-answer-requires-clause-known : goal.answer_at-answer-requires-clause-known
answer_at-answer-requires-clause-known g c =
    known_there (names_of (functions_of c.args.hosts.now)) c.args.endpoints.now c.args.self.now.machine c.place-place.result.node.now _ c.requires.faultless c.place-place.ensures.stands

pub event_at-event-requires : goal.event_at-event-requires
event_at-event-requires g c = alone_there c.args.endpoints.now c.args.self.now.machine c.place-place.result.node.now _ c.place-place.ensures.stands c.requires.alone

pub act_at-requires-clause-alone : goal.act_at-requires-clause-alone
act_at-requires-clause-alone g c = alone_there c.args.endpoints.now c.args.self.now.machine c.place-place.result.node.now _ c.place-place.ensures.stands c.requires.alone

pub act_at-requires-clause-variables : goal.act_at-requires-clause-variables
act_at-requires-clause-variables g c = subst (λ (n : ℕ). 0 < n) (sym c.enter.ensures.variables) c.requires.room.variables

pub enter-requires-clause-beyond : goal.enter-requires-clause-beyond
enter-requires-clause-beyond g c = subst (λ (n : ℕ). n < c.args.self.now.room.beyond) (sym c.place-place.ensures.call) c.requires.room.beyond

pub returns-clause-bound : goal.returns-clause-bound
returns-clause-bound g c =
    let node = c.place-place.result.node.now in
    let answer = to_z w64 (of_z w64 c.answer_at-answer.result) in
    subst (λ (v : MachineView). IsBound c.args.endpoints.now v.machine) (sym c.look_ahead.ensures)
    (bound_acted _ _ _ _ answer _ c.place-place.ensures.stands (entered (λ v m. node_acted answer v m node) _ _ _ _ c.enter.ensures.vars c.enter.ensures.sessions ∙ c.act_at.ensures.acted))
