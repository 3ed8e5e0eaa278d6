use Rattle.std.proofs.Common.{◌≡◌, ◌<◌, ◌∙◌, ℕ, ℤ, sym, ap, subst, w64, to_z, of_z, rules}
use Rattle.chor_host.specs.Functions.{hosts_in}
use Rattle.chor_host.specs.Tables.{functions_of}
use Rattle.endpoint_machine.specs.Acts.{node_acted}
use Rattle.endpoint_machine.specs.Bound.{IsBound}
use Rattle.endpoint_machine.specs.Places.{sessions_at}
use Rattle.endpoint_machine.specs.Steps.{HasBeenTold}
use Rattle.endpoint_machine.specs.Views.{MachineView}
use Rattle.endpoint_machine.proofs.Actings.{asking_there, told_there}
use Rattle.endpoint_machine.proofs.Goings.{bound_acted, entered}
use Rattle.endpoint_machine.proofs.machine.Machine.told.Goals as goal

pub act_at-requires-clause-alone : goal.act_at-requires-clause-alone
act_at-requires-clause-alone g c = asking_there c.args.endpoints.now c.args.self.now.machine c.place-place.result.node.now _ c.place-place.ensures.stands c.requires.asks

pub act_at-requires-clause-variables : goal.act_at-requires-clause-variables
act_at-requires-clause-variables g c = subst (λ (n : ℕ). 0 < n) (sym c.enter.ensures.variables) c.requires.room.variables

pub enter-requires-clause-beyond : goal.enter-requires-clause-beyond
enter-requires-clause-beyond g c = subst (λ (n : ℕ). n < c.args.self.now.room.beyond) (sym c.place-place.ensures.call) c.requires.room.beyond

pub returns-clause-bound : goal.returns-clause-bound
returns-clause-bound g c =
    let node = c.place-place.result.node.now in
    let answer = to_z w64 (of_z w64 c.args.value) in
    subst (λ (v : MachineView). IsBound c.args.endpoints.now v.machine) (sym c.look_ahead.ensures)
    (bound_acted _ _ _ _ answer _ c.place-place.ensures.stands (entered (λ v m. node_acted answer v m node) _ _ _ _ c.enter.ensures.vars c.enter.ensures.sessions ∙ c.act_at.ensures.acted))

pub returns-clause-told : goal.returns-clause-told
returns-clause-told g c =
    let e = c.args.endpoints.now in
    let hosts = hosts_in e.names (functions_of c.args.hosts.now) in
    let m = c.args.self.now.machine in
    let node = c.place-place.result.node.now in
    let st = c.place-place.ensures.stands in
    let back : to_z w64 (of_z w64 c.args.value) ≡ c.args.value = search rules in
    let acted = ap (λ (w : ℤ). node_acted w m.vars (sessions_at c.place-place.result.call m.sessions) node) (sym back) ∙ entered (λ v k. node_acted (to_z w64 (of_z w64 c.args.value)) v k node) _ _ _ _ c.enter.ensures.vars c.enter.ensures.sessions ∙ c.act_at.ensures.acted in
    subst (λ (v : MachineView). HasBeenTold e hosts c.args.self.now.number m c.args.value v.machine) (sym c.look_ahead.ensures)
    (told_there e hosts c.args.self.now.number m node _ c.args.value _ st (asking_there e m node _ st c.requires.asks) c.requires.allowed acted)
