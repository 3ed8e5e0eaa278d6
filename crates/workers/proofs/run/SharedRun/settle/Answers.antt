use Rattle.std.proofs.Common.{◌∙◌, true, false, sym, ap, subst}
use Rattle.std.specs.Prelude.{slice_set}
use Rattle.endpoint_runs.specs.declared.run.Closed.TheVariants as closing
use Rattle.crew.specs.declared.turn.Turned.TheVariants as found
use Rattle.workers.specs.declared.run.Progress.TheVariants.{Closed}
use Rattle.workers.specs.Views.{RunView, run_of, IsKeptBy}
use Rattle.workers.proofs.Kept.{origin, kept_found, kept_marked, found_in, found_ended, found_stuck, found_limit, found_done}
use Rattle.workers.proofs.run.SharedRun.settle.Goals as goal

pub invariant_of-self : goal.invariant_of-self
invariant_of-self c =
    let i = c.self.inside in
    let v = run_of i.office i.task i.progress i.ended.items in
    let o = origin i.office i.task.workers i.task.steps in
    kept_found o i.office.history i.progress (Closed closing.Ended) i.ended.items
    (found_ended i.office i.task.workers i.task.steps c.args.crew.now (found_in v c.args.self.now c.args.crew.now c.args.turned found.Ended c.self.view_is c.in-Ended.is c.requires.finds)) c.self.invariant

pub invariant_of-self-in-Stuck : goal.invariant_of-self-in-Stuck
invariant_of-self-in-Stuck c =
    let i = c.self.inside in
    let v = run_of i.office i.task i.progress i.ended.items in
    let o = origin i.office i.task.workers i.task.steps in
    let p = c.in-Stuck.pid in
    let why = c.in-Stuck.why in
    kept_found o i.office.history i.progress (Closed (closing.Stuck p why)) i.ended.items
    (found_stuck i.office i.task.workers i.task.steps c.args.crew.now p why (found_in v c.args.self.now c.args.crew.now c.args.turned (found.Stuck p why) c.self.view_is c.in-Stuck.is c.requires.finds)) c.self.invariant

pub invariant_of-self-in-Full-false : goal.invariant_of-self-in-Full-false
invariant_of-self-in-Full-false c =
    let i = c.self.inside in
    let v = run_of i.office i.task i.progress i.ended.items in
    let o = origin i.office i.task.workers i.task.steps in
    kept_found o i.office.history i.progress (Closed closing.Limit) i.ended.items
    (found_limit i.office i.task.workers i.task.steps c.args.crew.now (found_in v c.args.self.now c.args.crew.now c.args.turned (found.Full false) c.self.view_is (c.in-Full-false.is ∙ ap (λ b. found.Full b) c.in-Full-false.field-0-test) c.requires.finds)) c.self.invariant

pub invariant_of-self-in-Full-true : goal.invariant_of-self-in-Full-true
invariant_of-self-in-Full-true c =
    let i = c.self.inside in
    let v = run_of i.office i.task i.progress i.ended.items in
    let o = origin i.office i.task.workers i.task.steps in
    let own = c.requires.workers ∙ ap (λ (u : RunView). u.workers) (sym c.self.view_is) in
    subst (λ w. IsKeptBy o i.office.history i.progress (slice_set i.ended.items w true)) (sym c.worker.ensures.worker)
    (kept_marked o i.office.history i.progress i.ended.items c.args.crew.now.share.worker
    (found_done i.office i.task.workers i.task.steps c.args.crew.now own (found_in v c.args.self.now c.args.crew.now c.args.turned (found.Full true) c.self.view_is (c.in-Full-true.is ∙ ap (λ b. found.Full b) c.in-Full-true.field-0-test) c.requires.finds)) c.self.invariant)
