use Rattle.std.proofs.Common.{◌≡◌, ◌≤◌, ◌∙◌, true, Bool, List, length, sym, ap, subst}
use Rattle.std.specs.Prelude.{All}
use Rattle.std.proofs.lemmas.List.{take_all}
use Rattle.endpoint_runs.specs.declared.run.Closed.TheVariants.{Ended}
use Rattle.workers.specs.Views.{RunView, origin_of, history_of, IsClosedBy}
use Rattle.workers.proofs.Kept.{origin, all_marked}
use Rattle.workers.proofs.run.SharedRun.all_ended.Goals as goal

pub returns : goal.returns
returns c given =
    let i = c.self.inside in
    let same = c.deref-ended-items.ensures.value ∙ ap (λ (v : RunView). v.ended) c.self.view_is in
    let le : length c.args.self.now.ended ≤ c.loop-ended.ended-index = subst (λ (l : List Bool). length l ≤ c.loop-ended.ended-index) same c.loop-ended-test.false in
    let all = subst (All (λ b. b ≡ true)) (take_all c.loop-ended.ended-index c.args.self.now.ended le ∙ sym (ap (λ (v : RunView). v.ended) c.self.view_is)) c.loop-ended.invariant in
    subst (λ (v : RunView). IsClosedBy (origin_of v) (history_of v) Ended) c.self.view_is (all_marked (origin i.office i.task.workers i.task.steps) i.office.history i.progress i.ended.items c.self.invariant all)
