use Rattle.std.proofs.Common.{◌∙◌, sym, ap, Option, Some}
use Rattle.chor_base.specs.declared.event.Why.{Why}
use Rattle.post_office.proofs.Standings.{ended_after, stuck_after}
use Rattle.post_office.proofs.office.Office.standing.Goals as goal

pub returns-in-None-clause-after : goal.returns-in-None-clause-after
returns-in-None-clause-after c = ended_after c.args.self.now c.first_resting.ensures.kept (sym c.first_resting.ensures.first ∙ c.in-None.is)

pub returns-in-Some-default-Some-clause-after : goal.returns-in-Some-default-Some-clause-after
returns-in-Some-default-Some-clause-after c =
    let some = c.in-Some-default-Some in
    stuck_after c.args.self.now c.first_resting.ensures.kept some.pid some.why (sym c.all_rest.ensures ∙ c.if-not-all_rest.false)
    (sym c.first_resting.ensures.first ∙ some.is ∙ ap (λ (o : Option Why). Some (some.pid, o)) some.field-0-1-is)
