use Rattle.std.proofs.Common.{◌∙◌, sym}
use Rattle.std.proofs.lemmas.Option.{none-some}
use Rattle.endpoint_code.specs.Scheduled.{ended, limit}
use Rattle.net_core.proofs.Runs.{stuck_so, goes_on_so}
use Rattle.net_core.proofs.network.Network.closed.Goals as goal

pub returns-then-finished : goal.returns-then-finished
returns-then-finished c = ended (sym c.finished.ensures ∙ c.if-finished.true)

pub returns-then-events-steps : goal.returns-then-events-steps
returns-then-events-steps c = limit (sym c.finished.ensures ∙ c.if-finished.false) (sym c.events.ensures.events ∙ c.if-events-steps.true)

pub returns-in-Some : goal.returns-in-Some
returns-in-Some c =
    let v = c.args.self.now in
    goes_on_so v.endpoints v.capacity c.args.steps v.state _ (sym c.finished.ensures ∙ c.if-finished.false) (λ h. c.if-events-steps.false (c.events.ensures.events ∙ h)) (λ none. none-some _ (sym (c.pick.ensures.none.1 none) ∙ c.in-Some.is))

pub returns-in-None : goal.returns-in-None
returns-in-None c =
    let v = c.args.self.now in
    stuck_so v.endpoints v.capacity c.args.steps v.state _ c.stuck.result c.stuck.ensures (λ h. c.if-events-steps.false (c.events.ensures.events ∙ h)) (c.pick.ensures.none.0 c.in-None.is)
