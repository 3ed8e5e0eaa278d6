use Rattle.std.proofs.Common.{sym, subst, take, get_or, List, ℕ, ◌||◌}
use Rattle.std.proofs.lemmas.List.{take_more}
use Rattle.std.proofs.lemmas.Option.{slice_get-get_or}
use Rattle.net_core.specs.Candidates.{Enters}
use Rattle.net_core.proofs.Anew.{entered_more, entered_none}
use Rattle.std.proofs.lemmas.Result.{IfOk-from_err}
use Rattle.net_core.proofs.Counts.{whole_list}
use Rattle.net_core.proofs.candidates.Candidates.enter_all.Goals as goal

pub enter-requires-clause-there : goal.enter-requires-clause-there
enter-requires-clause-there c = let i = c.loop-pid.pid-index in c.requires.there (get_or c.args.pids.now i 0) (i, slice_get-get_or c.args.pids.now i 0 c.loop-pid-test.true)

pub loop-pid-preserved : goal.loop-pid-preserved
loop-pid-preserved c =
    let v = c.args.network.now in
    let i = c.loop-pid.pid-index in
    let ps = c.args.pids.now in
    subst (λ (l : List ℕ). Enters v.endpoints v.capacity v.state c.args.self.now l (c.loop-pid.joins || c.in_ok-also.also) c.enter.new.self) (sym (take_more ps i 0 c.loop-pid-test.true))
    (entered_more v.endpoints v.capacity v.state c.args.self.now c.loop-pid.self c.enter.new.self (take i ps) (get_or ps i 0) c.loop-pid.joins c.in_ok-also.also c.loop-pid.invariant c.in_ok-also.ensures)

pub loop-pid-init : goal.loop-pid-init
loop-pid-init c = let v = c.args.network.now in entered_none v.endpoints v.capacity v.state c.args.self.now c.requires.places

pub enter-requires-clause-places : goal.enter-requires-clause-places
enter-requires-clause-places c = c.loop-pid.invariant.places

pub returns-in_err-also : goal.returns-in_err-also
returns-in_err-also c = IfOk-from_err c.from_residual.result _ c.from_residual.ensures.0

pub returns : goal.returns
returns c =
    let v = c.args.network.now in
    subst (λ (l : List ℕ). Enters v.endpoints v.capacity v.state c.args.self.now l c.loop-pid.joins c.loop-pid.self) (whole_list c.loop-pid.pid-index c.args.pids.now c.loop-pid-test.false) c.loop-pid.invariant
