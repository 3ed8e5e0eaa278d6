use Rattle.std.proofs.Common.{◌∙◌, sym, subst, ap}
use Rattle.endpoint_code.specs.Network.{node_joins}
use Rattle.endpoint_machine.specs.Heads.{node_head}
use Rattle.endpoint_machine.specs.Bound.{IsBound}
use Rattle.endpoint_machine.specs.Views.{MachineView}
use Rattle.endpoint_machine.proofs.Goings.{bound_joined, entered}
use Rattle.endpoint_machine.proofs.Makings.{joins_there}
use Rattle.endpoint_machine.proofs.machine.Machine.joined.Goals as goal

pub returns-clause-bound : goal.returns-clause-bound
returns-clause-bound c =
    let node = c.place-place.result.node.now in
    subst (λ (v : MachineView). IsBound c.args.endpoints.now v.machine) (sym c.look_ahead.ensures)
    (bound_joined _ _ _ _ c.args.sid _ c.place-place.ensures.stands (joins_there _ _ _ _ c.place-place.ensures.stands c.requires.joins) (λ d r h.
    entered (λ v m. node_joins node v m d r c.args.sid) _ _ _ _ c.enter.ensures.vars c.enter.ensures.sessions
    ∙ c.join_at.ensures.joined d r (ap (λ m. node_head m node) c.enter.ensures.sessions ∙ h)))
