use Rattle.std.proofs.Common.{◌≡◌, ◌∙◌, sym, ap, subst, length, List, Some}
use Rattle.std.specs.Option.{option_copied}
use Rattle.chor_base.specs.declared.names.NameId.{NameId}
use Rattle.endpoint_code.specs.declared.code.CodeNode.TheVariants.{Call}
use Rattle.endpoint_code.specs.declared.endpoints.Procedure.{Procedure}
use Rattle.endpoint_code.specs.Network.{node_at, procedure_of, passed}
use Rattle.endpoint_machine.specs.Views.{MachineView}
use Rattle.endpoint_machine.specs.Places.{StandsAt}
use Rattle.endpoint_machine.proofs.Scopes.{stands_beyond, called, body_within}
use Rattle.endpoint_machine.proofs.machine.Machine.place.Goals as goal

pub at-requires : goal.at-requires
at-requires c =
    let e = c.args.endpoints.now in
    let named : procedure_of e.procedures c.in-Call.name c.in-Call.param ≡ Some c.in-Some.procedure.now =
    ap (λ (l : List Procedure). procedure_of l c.in-Call.name c.in-Call.param) (sym c.as_slice-procedures.ensures) ∙ sym c.procedure_at.ensures ∙ ap option_copied c.in-Some.is in
    body_within e c.in-Call.name c.in-Call.param c.in-Some.procedure.now c.requires.faultless named

pub returns-clause-stands : goal.returns-clause-stands
returns-clause-stands c =
    let e = c.args.endpoints.now in
    let named : procedure_of e.procedures c.in-Call.name c.in-Call.param ≡ Some c.in-Some.procedure.now =
    ap (λ (l : List Procedure). procedure_of l c.in-Call.name c.in-Call.param) (sym c.as_slice-procedures.ensures) ∙ sym c.procedure_at.ensures ∙ ap option_copied c.in-Some.is in
    let found : node_at e c.args.self.now.machine.at ≡ Some (Call c.in-Call.name c.in-Call.param c.in-Call.names) =
    ap (λ (v : MachineView). node_at e v.machine.at) (sym c.self.view_is) ∙ c.at-node.ensures ∙ ap Some c.in-Call.is in
    let m = c.args.self.now.machine in
    let at_body = stands_beyond e m c.in-Call.name c.in-Call.param c.in-Call.names c.in-Some.procedure.now c.at.result.now c.requires.faultless c.requires.bound found named c.at.ensures in
    let first = subst (λ (ps : List NameId). StandsAt e m c.at.result.now (passed ps c.in-Call.names m.sessions)) (sym c.as_slice.ensures) at_body in
    subst (λ (ss : List NameId). StandsAt e m c.at.result.now (passed c.as_slice.result.now ss m.sessions)) (sym c.as_slice-2.ensures) first

pub returns-clause-even : goal.returns-clause-even
returns-clause-even c =
    let e = c.args.endpoints.now in
    let named : procedure_of e.procedures c.in-Call.name c.in-Call.param ≡ Some c.in-Some.procedure.now =
    ap (λ (l : List Procedure). procedure_of l c.in-Call.name c.in-Call.param) (sym c.as_slice-procedures.ensures) ∙ sym c.procedure_at.ensures ∙ ap option_copied c.in-Some.is in
    let found : node_at e c.args.self.now.machine.at ≡ Some (Call c.in-Call.name c.in-Call.param c.in-Call.names) =
    ap (λ (v : MachineView). node_at e v.machine.at) (sym c.self.view_is) ∙ c.at-node.ensures ∙ ap Some c.in-Call.is in
    let q = called e c.args.self.now.machine c.in-Call.name c.in-Call.param c.in-Call.names c.requires.bound found in
    let same : q.0 ≡ c.in-Some.procedure.now = cc (q.1, named) in
    ap length c.as_slice.ensures ∙ ap (λ (r : Procedure). length r.sessions) (sym same) ∙ sym q.2 ∙ sym (ap length c.as_slice-2.ensures)
