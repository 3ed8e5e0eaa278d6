use Rattle.std.proofs.Common.{◌∙◌, sym, subst}
use Rattle.endpoint_machine.specs.Acts.{node_takes}
use Rattle.endpoint_machine.specs.Bound.{IsBound}
use Rattle.endpoint_machine.specs.Views.{MachineView}
use Rattle.endpoint_machine.proofs.Goings.{bound_taken, entered}
use Rattle.endpoint_machine.proofs.machine.Machine.receive.Goals as goal

pub returns-clause-bound : goal.returns-clause-bound
returns-clause-bound c =
    let node = c.place-place.result.node.now in
    subst (λ (v : MachineView). IsBound c.args.endpoints.now v.machine) (sym c.look_ahead.ensures)
    (bound_taken _ _ _ _ _ _ _ _ c.place-place.ensures.stands (entered (λ v m. node_takes v m node c.args.load) _ _ _ _ c.enter.ensures.vars c.enter.ensures.sessions ∙ c.take_at.ensures.taken))
