use Rattle.std.proofs.Common.{◌≤◌, ◌∙◌, sym, ap, ◌&&◌, ◌++◌, List, ℕ, drop, ◌+◌, ◌<◌, length, subst, arith}
use Rattle.std.proofs.lemmas.List.{drop_all, append-nil}
use Rattle.endpoint_code.specs.Network.{Machine}
use Rattle.endpoint_code.specs.NetworkRuns.{all_ended}
use Rattle.endpoint_code.specs.Scheduled.{listed_from}
use Rattle.net_core.proofs.Turns.{ended_turn, listed_turn, ended_more, listed_more, and_true}
use Rattle.net_core.specs.Shown.{ShowsAll}
use Rattle.net_core.proofs.Shown.{shown_at}
use Rattle.std.proofs.lemmas.Result.{IfOk-from_err}
use Rattle.net_core.proofs.few.Few.survey.Goals as goal

pub is_listed-requires-clause-shows : goal.is_listed-requires-clause-shows
is_listed-requires-clause-shows c =
    let v = c.args.network.now in
    let within : c.loop-pid.pid < length v.state.machines = omega (arith, c.count-pid-end.ensures.count) in
    let all = subst (ShowsAll v.endpoints v.state) (sym c.loop-pid.invariant.kept) c.requires in
    shown_at v.endpoints v.state c.loop-pid.pid c.loop-pid.self.heads.items c.index-head.result.now c.count-pid-end.ensures.stand all within c.index-head.ensures

pub loop-pid-preserved : goal.loop-pid-preserved
loop-pid-preserved c =
    let v = c.args.network.now in
    let e = v.endpoints in
    let cap = v.capacity in
    let n = v.state in
    let i = c.loop-pid.pid in
    let within : i < length n.machines = omega (arith, c.count-pid-end.ensures.count) in
    let rest = listed_from e cap n (i + 1) (drop (i + 1) n.machines) in
    let all = subst (ShowsAll e n) (sym c.loop-pid.invariant.kept) c.requires in
    record {
      kept = c.loop-pid.invariant.kept;
      ended = ended_more c.loop-pid.ended c.has_ended-ended.result (all_ended e (drop (i + 1) n.machines)) (all_ended e n.machines)
          (ap (λ b. c.loop-pid.ended && b) (sym (ended_turn e n i c.has_ended-ended.result within (c.has_ended-ended.ensures ∙ sym (shown_at e n i c.loop-pid.self.heads.items c.index-head.result.now c.count-pid-end.ensures.stand all within c.index-head.ensures).ended))) ∙ c.loop-pid.invariant.ended);
      listed = listed_more c.is_listed.result c.loop-pid.self.pids.items i rest c.add_if.new.pids.items _ c.in_ok-add_if.ensures
          (ap (λ (l : List ℕ). c.loop-pid.self.pids.items ++ l) (sym (listed_turn e cap n i c.is_listed.result within c.is_listed.ensures)) ∙ c.loop-pid.invariant.listed);
    }

pub returns : goal.returns
returns c =
    let v = c.args.network.now in
    let e = v.endpoints in
    let cap = v.capacity in
    let n = v.state in
    let i = c.loop-pid.pid in
    let past : length n.machines ≤ i = (let a = c.count-pid-end.ensures.count in let b = c.loop-pid-test.false in omega arith) in
    let none = drop_all i n.machines past in
    record {
      ended = sym (and_true c.loop-pid.ended) ∙ ap (λ (ms : List Machine). c.loop-pid.ended && all_ended e ms) (sym none) ∙ c.loop-pid.invariant.ended;
      listed = sym (append-nil c.loop-pid.self.pids.items) ∙ ap (λ (ms : List Machine). c.loop-pid.self.pids.items ++ listed_from e cap n i ms) (sym none) ∙ c.loop-pid.invariant.listed;
      kept = c.loop-pid.invariant.kept;
      stand = c.count-pid-end.ensures.stand;
    }

pub returns-in_err-add_if-clause-ended : goal.returns-in_err-add_if-clause-ended
returns-in_err-add_if-clause-ended c = IfOk-from_err c.from_residual.result _ c.from_residual.ensures.0

pub returns-in_err-add_if-clause-listed : goal.returns-in_err-add_if-clause-listed
returns-in_err-add_if-clause-listed c = IfOk-from_err c.from_residual.result _ c.from_residual.ensures.0
