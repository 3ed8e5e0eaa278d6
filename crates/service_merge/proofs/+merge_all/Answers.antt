use Rattle.std.proofs.Common.{◌≡◌, ℕ, ◌/◌, ◌-◌, arith, length, take, drop, List, ap, ◌∙◌, length-drop}
use Rattle.std.proofs.lemmas.List.{take_rest}
use Rattle.endpoint_code.specs.declared.code.CodeId.{CodeId}
use Rattle.branch_merge.proofs.ArmTables.{keeps_all}
use Rattle.branch_merge.proofs.Merges.{same_fault}
use Rattle.service_merge.proofs.Lists.{parts_of, merged_one, inside_later, distinct_later, front_clash, back_clash, first_distinct, last_clash, last_merged}
use Rattle.service_merge.proofs.+merge_all.Goals as goal

length_back : (list : List CodeId) (h : ℕ) → length (take (length list - h) (drop h list)) ≡ length list - h
length_back list h = ap length (take_rest list h) ∙ length-drop h list

pub returns-then-list-eq1-clause-merged : goal.returns-then-list-eq1-clause-merged
returns-then-list-eq1-clause-merged t c = merged_one c.args.code.now.nodes c.args.list.now _ c.if-list-eq1.true c.requires.inside c.requires.distinct

pub returns-in_err-first-clause-clash : goal.returns-in_err-first-clause-clash
returns-in_err-first-clause-clash t c e =
    front_clash (keeps_all c.args.code.now.nodes) c.args.list.now _ _ (parts_of c.args.list.now (length c.args.list.now / 2)) c.requires.inside
    (c.in_err-first.ensures.clash (same_fault CodeId c.from_residual.result _ _ c.from_residual.ensures.1 e))

pub merge_all-requires-2 : goal.merge_all-requires-2
merge_all-requires-2 t c =
    let k = c.in_ok-first.ensures.kept in
    let p = parts_of c.args.list.now (length c.args.list.now / 2) in
    let n = length_back c.args.list.now (length c.args.list.now / 2) in
    let some = c.requires.some in
    let more = c.if-list-eq1.false in
    (omega arith, (omega arith, (inside_later k c.args.list.now _ _ p c.requires.inside, distinct_later k c.args.list.now _ _ p c.requires.inside c.requires.distinct)))

pub returns-in_err-second-clause-clash : goal.returns-in_err-second-clause-clash
returns-in_err-second-clause-clash t c e =
    back_clash c.in_ok-first.ensures.kept c.args.list.now _ _ (parts_of c.args.list.now (length c.args.list.now / 2)) c.requires.inside
    (c.in_err-second.ensures.clash (same_fault CodeId c.from_residual-in_err-second.result _ _ c.from_residual-in_err-second.ensures.1 e))

pub merge-requires-clause-distinct_a : goal.merge-requires-clause-distinct_a
merge-requires-clause-distinct_a t c =
    first_distinct c.in_ok-first.ensures.kept c.args.list.now _ _ (parts_of c.args.list.now (length c.args.list.now / 2)) c.requires.inside
    c.in_ok-second.ensures.kept c.in_ok-first.first c.in_ok-second.second c.in_ok-first.ensures.merged c.in_ok-second.ensures.merged

pub returns-clause-merged : goal.returns-clause-merged
returns-clause-merged t c =
    last_merged c.in_ok-first.ensures.kept c.args.list.now _ _ (parts_of c.args.list.now (length c.args.list.now / 2)) c.requires.inside
    c.in_ok-second.ensures.kept c.in_ok-first.first c.in_ok-second.second c.in_ok-first.ensures.merged c.in_ok-second.ensures.merged c.merge.new.code.nodes c.merge.result c.merge.ensures.merged

pub returns-clause-clash : goal.returns-clause-clash
returns-clause-clash t c e =
    last_clash c.in_ok-first.ensures.kept c.args.list.now _ _ (parts_of c.args.list.now (length c.args.list.now / 2)) c.requires.inside
    c.in_ok-second.ensures.kept c.in_ok-first.first c.in_ok-second.second c.in_ok-first.ensures.merged c.in_ok-second.ensures.merged (c.merge.ensures.clash e)
