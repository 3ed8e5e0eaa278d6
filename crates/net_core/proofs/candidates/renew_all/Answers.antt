use Rattle.std.proofs.Common.{◌∙◌, sym, subst, take, get_or, List, ℕ}
use Rattle.std.proofs.lemmas.List.{take_more}
use Rattle.std.proofs.lemmas.Option.{slice_get-get_or}
use Rattle.net_core.specs.Candidates.{Renews}
use Rattle.net_core.proofs.Anew.{renewed_more, renewed_none}
use Rattle.net_core.proofs.Counts.{whole_list}
use Rattle.net_core.proofs.candidates.renew_all.Goals as goal

pub renew-requires-clause-there : goal.renew-requires-clause-there
renew-requires-clause-there c = let i = c.loop-pid.pid-index in c.requires.there (get_or c.args.pids.now i 0) (i, slice_get-get_or c.args.pids.now i 0 c.loop-pid-test.true)

pub loop-pid-preserved : goal.loop-pid-preserved
loop-pid-preserved c =
    let v = c.args.network.now in
    let i = c.loop-pid.pid-index in
    let ps = c.args.pids.now in
    subst (λ (l : List ℕ). Renews v.endpoints v.capacity v.state c.args.done c.args.listed.now l c.renew.new.listed) (sym (take_more ps i 0 c.loop-pid-test.true))
    (renewed_more v.endpoints v.capacity v.state c.args.done c.args.listed.now c.loop-pid.listed c.renew.new.listed (take i ps) (get_or ps i 0) c.loop-pid.invariant c.renew.ensures)

pub loop-pid-init : goal.loop-pid-init
loop-pid-init c = let v = c.args.network.now in renewed_none v.endpoints v.capacity v.state c.args.done c.args.listed.now

pub renew-requires-clause-places : goal.renew-requires-clause-places
renew-requires-clause-places c = c.loop-pid.invariant.judges.count ∙ c.requires.places

pub renew-requires-clause-lists : goal.renew-requires-clause-lists
renew-requires-clause-lists c = c.requires.lists

pub returns : goal.returns
returns c =
    let v = c.args.network.now in
    subst (λ (l : List ℕ). Renews v.endpoints v.capacity v.state c.args.done c.args.listed.now l c.loop-pid.listed) (whole_list c.loop-pid.pid-index c.args.pids.now c.loop-pid-test.false) c.loop-pid.invariant
