use Rattle.std.proofs.Common.{◌∙◌, ◌≡◌, [], ◌∷◌, ap, sym}
use Rattle.delegation.specs.Checks.{first_failed}
use Rattle.typing_rules.specs.Allowed.{endpoint_sent}
use Rattle.typing_rules.specs.Checks.{parties, endpoint_checks}
use Rattle.typing_rules.specs.Environment.{step_at}
use Rattle.typing_steps.specs.Known.{environment_of}
use Rattle.typing_steps.proofs.CheckOrder.{first_append}
use Rattle.typing_steps.proofs.known.Known.give.Goals as goal

pub returns-in-Some-clause-rule : goal.returns-in-Some-clause-rule
returns-in-Some-clause-rule c =
    let e = environment_of c.args.self.now in
    let m = c.args.message in
    let sent = endpoint_sent m.from.role.name m.to.role.name (step_at c.args.file.now e m.session.name) in
    let is_endpoint : c.endpoint_rule-fit.result ≡ first_failed (endpoint_checks e m.from m.to c.args.given sent) =
    c.endpoint_rule-fit.ensures ∙ ap (λ o. first_failed (endpoint_checks e m.from m.to c.args.given o)) (c.endpoint_sent.ensures ∙ ap (endpoint_sent m.from.role.name m.to.role.name) c.step_at-step.ensures) in
    sym (c.in-Some.ensures ∙ (λ i. first_failed (c.parties.ensures i ∷ is_endpoint i ∷ [])) ∙ first_append (parties e m.session m.from m.to) (endpoint_checks e m.from m.to c.args.given sent))
