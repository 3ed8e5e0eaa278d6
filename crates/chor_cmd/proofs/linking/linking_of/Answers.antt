use Rattle.std.proofs.Common.{◌∙◌, ap, subst}
use Rattle.std.specs.Prelude.{Result, Err, IfErr}
use Rattle.endpoint_link.specs.declared.fault.LinkFault.{LinkFault}
use Rattle.endpoint_link.specs.Judged.{IsLinkFault}
use Rattle.simulation.specs.Accepted.{AcceptedView}
use Rattle.chor_cmd.proofs.linking.linking_of.Goals as goal

pub returns-in-Ok : goal.returns-in-Ok
returns-in-Ok c = (c.in-Ok.ensures.typed, c.in-Ok.ensures.linked)

pub returns-in_ok-line-in-Err-Refused : goal.returns-in_ok-line-in-Err-Refused
returns-in_ok-line-in-Err-Refused c =
    let before = c.args.accepted.endpoints in
    let given = c.args.given.now in
    let first = subst (λ (r : Result AcceptedView LinkFault). IfErr r (IsLinkFault before given)) (c.in-Err-Refused.is ∙ ap Err c.in-Err-Refused.field-0-is) c.link_accepted.ensures.refused in
    record { rule = c.in-Err-Refused.rule; unit = c.in-Err-Refused.unit; first = first; line_is = c.in_ok-line-in-Err-Refused.ensures }
