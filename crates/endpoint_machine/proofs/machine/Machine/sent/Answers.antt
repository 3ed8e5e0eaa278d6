use Rattle.std.proofs.Common.{◌∙◌, sym, subst}
use Rattle.endpoint_machine.specs.Acts.{node_sent}
use Rattle.endpoint_machine.specs.Bound.{IsBound}
use Rattle.endpoint_machine.specs.Views.{MachineView}
use Rattle.endpoint_machine.proofs.Goings.{bound_sent, entered}
use Rattle.endpoint_machine.proofs.machine.Machine.sent.Goals as goal

pub returns-clause-bound : goal.returns-clause-bound
returns-clause-bound c =
    let node = c.place-place.result.node.now in
    subst (λ (v : MachineView). IsBound c.args.endpoints.now v.machine) (sym c.look_ahead.ensures)
    (bound_sent _ _ _ _ _ c.place-place.ensures.stands (entered (λ v m. node_sent v m node) _ _ _ _ c.enter.ensures.vars c.enter.ensures.sessions ∙ c.send_at.ensures.sent))
