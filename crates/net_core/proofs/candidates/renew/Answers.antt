use Rattle.std.proofs.Common.{◌≡◌, ◌∙◌, sym, ap, subst, Option, Some, List, ℕ}
use Rattle.waiting_processes.specs.declared.waits.Awaited.{Awaited}
use Rattle.waiting_processes.specs.declared.waits.Awaited.TheVariants.{Channel}
use Rattle.waiting_processes.specs.Waits.{awaited_at, awaited_by}
use Rattle.waiting_processes.specs.Taken.{IsIn}
use Rattle.net_core.specs.Candidates.{Judges}
use Rattle.net_core.proofs.Anew.{awaits, renewed_channel}
use Rattle.net_core.proofs.candidates.renew.Goals as goal

pub judge_all-requires-clause-there : goal.judge_all-requires-clause-there
judge_all-requires-clause-there c q i = c.requires.lists.within (Channel c.in-Some-Channel.channel) q (subst (λ (l : List ℕ). IsIn l q) c.get-joiners.ensures i)

pub returns-in-Some-Channel : goal.returns-in-Some-Channel
returns-in-Some-Channel c =
    let v = c.args.network.now in
    let e = v.endpoints in
    let cap = v.capacity in
    let n = v.state in
    let p = c.args.pid in
    let is : awaited_at e cap n p ≡ Some (Channel c.in-Some-Channel.channel) = awaits e cap n p c.head-head.result c.head-head.ensures ∙ ap (λ (k : Option ℕ). awaited_by k c.head-head.result) (sym c.capacity.ensures) ∙ sym c.in-Some-Channel.ensures ∙ ap (λ (a : Awaited). Some a) c.in-Some-Channel.field-0-is in
    renewed_channel e cap n c.args.done c.args.waiting.now c.args.listed.now c.judge.new.listed c.judge_all.new.listed p c.in-Some-Channel.channel c.requires.lists c.judge.ensures is
    (subst (λ (l : List ℕ). Judges e cap n c.judge.new.listed l c.judge_all.new.listed) c.get-joiners.ensures c.judge_all.ensures)

pub head-head-requires : goal.head-head-requires
head-head-requires c = c.requires.there

pub judge-requires-clause-there : goal.judge-requires-clause-there
judge-requires-clause-there c = c.requires.there

pub judge-requires-clause-places : goal.judge-requires-clause-places
judge-requires-clause-places c = c.requires.places

pub judge-requires-clause-lists : goal.judge-requires-clause-lists
judge-requires-clause-lists c = c.requires.lists

pub judge-requires-clause-shows : goal.judge-requires-clause-shows
judge-requires-clause-shows c = c.head-head.ensures

pub judge_all-requires-clause-places : goal.judge_all-requires-clause-places
judge_all-requires-clause-places c = c.judge.ensures.count ∙ c.requires.places

pub judge_all-requires-clause-lists : goal.judge_all-requires-clause-lists
judge_all-requires-clause-lists c = c.requires.lists
