use Rattle.std.proofs.Common.{◌∙◌, ◌≡◌, [], ◌∷◌, ap, sym}
use Rattle.delegation.specs.Checks.{first_failed}
use Rattle.typing_rules.specs.Allowed.{labels_sent}
use Rattle.typing_rules.specs.Checks.{parties, label_checks}
use Rattle.typing_rules.specs.Environment.{step_at}
use Rattle.typing_steps.specs.Known.{environment_of}
use Rattle.typing_steps.proofs.CheckOrder.{first_append}
use Rattle.typing_steps.proofs.known.Known.select.Goals as goal

pub returns-in-Some-clause-rule : goal.returns-in-Some-clause-rule
returns-in-Some-clause-rule c =
    let e = environment_of c.args.self.now in
    let m = c.args.message in
    let arms = labels_sent m.from.role.name m.to.role.name (step_at c.args.file.now e m.session.name) in
    let is_label : c.label_rule.result ≡ first_failed (label_checks arms c.args.label) =
    c.label_rule.ensures ∙ ap (λ o. first_failed (label_checks o c.args.label)) (c.labels_sent-arms.ensures ∙ ap (labels_sent m.from.role.name m.to.role.name) c.step_at-step.ensures) in
    sym (c.in-Some.ensures ∙ (λ i. first_failed (c.parties.ensures i ∷ is_label i ∷ [])) ∙ first_append (parties e m.session m.from m.to) (label_checks arms c.args.label))
