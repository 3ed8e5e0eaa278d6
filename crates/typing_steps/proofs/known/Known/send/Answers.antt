use Rattle.std.proofs.Common.{◌∙◌, ◌≡◌, [], ◌∷◌, ap, sym}
use Rattle.delegation.specs.Checks.{first_failed}
use Rattle.chor_base.specs.Expr.{term_of}
use Rattle.typing_rules.specs.Allowed.{value_sent}
use Rattle.typing_rules.specs.Checks.{parties, value_checks, sort_at}
use Rattle.typing_rules.specs.Environment.{step_at}
use Rattle.typing_steps.specs.Known.{environment_of}
use Rattle.typing_steps.proofs.CheckOrder.{first_append}
use Rattle.typing_steps.proofs.known.Known.send.Goals as goal

pub returns-in-Some-clause-rule : goal.returns-in-Some-clause-rule
returns-in-Some-clause-rule c =
    let e = environment_of c.args.self.now in
    let m = c.args.message in
    let sent = value_sent m.from.role.name m.to.role.name (step_at c.args.file.now e m.session.name) in
    let sort = sort_at e m.from.process (term_of c.args.expr.now) in
    let is_sent : c.value_sent-sent.result ≡ sent = c.value_sent-sent.ensures ∙ ap (value_sent m.from.role.name m.to.role.name) c.step_at-step.ensures in
    let is_value : c.value_rule.result ≡ first_failed (value_checks sent sort) = c.value_rule.ensures ∙ (λ i. first_failed (value_checks (is_sent i) (c.sort_of-sort.ensures i))) in
    sym (c.in-Some.ensures ∙ (λ i. first_failed (c.parties.ensures i ∷ is_value i ∷ [])) ∙ first_append (parties e m.session m.from m.to) (value_checks sent sort))
