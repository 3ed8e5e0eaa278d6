use Rattle.std.proofs.Common.{◌≡◌, ◌<◌, ◌∙◌, List, sym, ap, subst, length, arith}
use Rattle.std.specs.Prelude.{Vec}
use Rattle.std.specs.declared.alloc.Global.{Global}
use Rattle.state_sets.specs.declared.moves.Move.{Move}
use Rattle.std.proofs.lemmas.Result.{IfOk-weaker}
use Rattle.state_sets.specs.Ascending.{Ascend}
use Rattle.state_sets.specs.Graph.{AreParts, AreGroups, AreGroupsOf}
use Rattle.state_sets.specs.Table.{group_words}
use Rattle.state_sets.proofs.Parts.{part_of}
use Rattle.state_sets.proofs.Gathered.{acts_begin, acts_add, acts_all, groups_are, groups_ascend}
use Rattle.state_sets.proofs.graph.groups.Goals as goal

parts_handed : (ms : List Move) (parts seen : List (Vec Move Global)) → seen ≡ parts → AreParts (length parts) ms parts → AreParts (length seen) ms seen
parts_handed ms parts seen e are = subst (λ (l : List (Vec Move Global)). AreParts (length l) ms l) (sym e) are

pub loop-part-init : goal.loop-part-init
loop-part-init c = acts_begin (length c.as_slice-part-items.result.now) c.args.moves.now c.new-all.result.items c.new-all.ensures.items

pub loop-part-preserved : goal.loop-part-preserved
loop-part-preserved c =
    let seen = c.as_slice-part-items.result.now in
    let are = parts_handed c.args.moves.now c.in_ok-parts.parts.items seen c.as_slice-part-items.ensures.value c.in_ok-parts.ensures.parts in
    let part = c.part-item.result in
    acts_add (length seen) c.args.moves.now c.loop-part.part-index part.items c.as_slice.result.now c.loop-part.all.items c.in_ok-more.more.items c.append.new.self.items c.loop-part.invariant
    (part_of (length seen) c.args.moves.now seen c.loop-part.part-index part are c.loop-part-test.true c.part-item.is)
    c.as_slice.ensures.value c.in_ok-more.ensures c.in_ok-append.ensures.items

pub groups_of-requires : goal.groups_of-requires
groups_of-requires c =
    let e : length c.as_slice-3.result.now ≡ length c.in_ok-parts.parts.items = ap (λ (l : List (Vec Move Global)). length l) c.as_slice-3.ensures.value in
    let s = c.in_ok-parts.ensures.some in
    omega (arith, e, s)

pub returns-clause-are : goal.returns-clause-are
returns-clause-are c =
    let moves = c.args.moves.now in
    let seen = c.as_slice-part-items.result.now in
    let value = c.as_slice-part-items.ensures.value in
    let some : 0 < length seen = (let e : length seen ≡ length c.in_ok-parts.parts.items = ap (λ (l : List (Vec Move Global)). length l) value in let s = c.in_ok-parts.ensures.some in omega (arith, e, s)) in
    let are = acts_all (length seen) moves c.loop-part.part-index c.loop-part.all.items c.as_slice-2.result.now c.in_ok-sorted.sorted.items some c.loop-part-test.false c.loop-part.invariant c.as_slice-2.ensures.value c.in_ok-sorted.ensures.order in
    IfOk-weaker c.groups_of.result (λ v. AreGroupsOf c.as_slice-3.result.now c.as_slice-4.result.now v.items) (λ v. AreGroups moves v.items)
    (λ v. groups_are (length seen) moves seen c.as_slice-3.result.now c.in_ok-sorted.sorted.items c.as_slice-4.result.now v.items
    (parts_handed moves c.in_ok-parts.parts.items seen value c.in_ok-parts.ensures.parts) (c.as_slice-3.ensures.value ∙ sym value) are c.as_slice-4.ensures.value)
    c.groups_of.ensures

pub returns-clause-ascend : goal.returns-clause-ascend
returns-clause-ascend c =
    let names = c.args.names.now in
    IfOk-weaker c.groups_of.result (λ v. AreGroupsOf c.as_slice-3.result.now c.as_slice-4.result.now v.items) (λ v. Ascend (group_words names v.items))
    (λ v of. groups_ascend names c.as_slice-3.result.now c.in_ok-sorted.sorted.items c.as_slice-4.result.now v.items c.as_slice-4.ensures.value of c.in_ok-sorted.ensures.ascend)
    c.groups_of.ensures
