use Rattle.std.proofs.Common.{◌∙◌, sym, subst, take, get_or, List, ℕ}
use Rattle.std.proofs.lemmas.List.{take_more}
use Rattle.std.proofs.lemmas.Option.{slice_get-get_or}
use Rattle.net_core.specs.Candidates.{Judges}
use Rattle.net_core.proofs.Anew.{judged_more, judged_none}
use Rattle.net_core.proofs.Counts.{whole_list}
use Rattle.net_core.proofs.candidates.judge_all.Goals as goal

pub head-requires : goal.head-requires
head-requires c = let i = c.loop-pid.pid-index in c.requires.there (get_or c.args.pids.now i 0) (i, slice_get-get_or c.args.pids.now i 0 c.loop-pid-test.true)

pub judge-requires-clause-there : goal.judge-requires-clause-there
judge-requires-clause-there c = let i = c.loop-pid.pid-index in c.requires.there (get_or c.args.pids.now i 0) (i, slice_get-get_or c.args.pids.now i 0 c.loop-pid-test.true)

pub loop-pid-preserved : goal.loop-pid-preserved
loop-pid-preserved c =
    let v = c.args.network.now in
    let i = c.loop-pid.pid-index in
    let ps = c.args.pids.now in
    subst (λ (l : List ℕ). Judges v.endpoints v.capacity v.state c.args.listed.now l c.judge.new.listed) (sym (take_more ps i 0 c.loop-pid-test.true))
    (judged_more v.endpoints v.capacity v.state c.args.listed.now c.loop-pid.listed c.judge.new.listed (take i ps) (get_or ps i 0) c.loop-pid.invariant c.judge.ensures)

pub loop-pid-init : goal.loop-pid-init
loop-pid-init c = let v = c.args.network.now in judged_none v.endpoints v.capacity v.state c.args.listed.now

pub judge-requires-clause-places : goal.judge-requires-clause-places
judge-requires-clause-places c = c.loop-pid.invariant.count ∙ c.requires.places

pub judge-requires-clause-lists : goal.judge-requires-clause-lists
judge-requires-clause-lists c = c.requires.lists

pub returns : goal.returns
returns c =
    let v = c.args.network.now in
    subst (λ (l : List ℕ). Judges v.endpoints v.capacity v.state c.args.listed.now l c.loop-pid.listed) (whole_list c.loop-pid.pid-index c.args.pids.now c.loop-pid-test.false) c.loop-pid.invariant
