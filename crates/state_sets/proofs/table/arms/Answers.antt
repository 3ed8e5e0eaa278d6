use Rattle.std.proofs.Common.{ℕ, List, ◌≡◌, ◌+◌, ◌<◌, ◌≤◌, sym, refl, subst, ◌∙◌, inl, inr, length, arith}
use Rattle.std.specs.Prelude.{◌⊎◌, slice_index_or}
use Rattle.global_types.specs.Moves.{IsIn}
use Rattle.state_sets.specs.declared.graph.Edge.{Edge}
use Rattle.state_sets.specs.Sets.{Has}
use Rattle.state_sets.specs.Numbering.{leads_to, IsNumberOf}
use Rattle.state_sets.proofs.Tables.{word_longer, word_count}
use Rattle.state_sets.proofs.TableLoops.{group_among, sizes_more}
use Rattle.state_sets.proofs.Allowed.{IsTurn, found_grown, found_in, found_out, found_same, found_begin, found_end}
use Rattle.state_sets.proofs.Ascents.{arms_ascend_end}
use Rattle.state_sets.proofs.table.arms.Goals as goal
use Rattle.state_sets.proofs.table.arms.Goals.{then-place-number+then-number-groups+then-is_allowed+in_ok-next+else-len-most+in_ok-push, then-place-number+then-number-groups+else-is_allowed, else-place-number, else-place-number-via-then-place-number+else-number-groups, else-place-number-via-else-place-number}

-- the edges that are handed on are those of a group
abbrev Allowed : List ℕ → List Edge → Type 0
Allowed still es = (e : Edge) × IsIn e es × Has still e.from

number_of : (still : List ℕ) (seen es : List Edge) (old new : List (List ℕ)) (number : ℕ) → seen ≡ es → IsNumberOf (length still) (leads_to still seen) old new number → IsNumberOf (length still) (leads_to still es) old new number
number_of still seen es old new number e was = subst (λ (l : List Edge). IsNumberOf (length still) (leads_to still l) old new number) e was

pub number_after-requires-clause-inside : goal.number_after-requires-clause-inside
number_after-requires-clause-inside c = λ e m.
    (c.requires.inside c.index-groups-number.result (group_among c.args.groups.now _ c.index-groups-number.result c.if-number-groups.true c.index-groups-number.is) e
    (subst (λ l. IsIn e l) c.as_slice-then-is_allowed.ensures m)).1

pub number_after-requires-clause-allowed : goal.number_after-requires-clause-allowed
number_after-requires-clause-allowed c = subst (λ (l : List Edge). Allowed c.args.still.now l) (c.as_slice.ensures ∙ sym c.as_slice-then-is_allowed.ensures) c.if-is_allowed.ensures

pub number_after-requires-clause-distinct : goal.number_after-requires-clause-distinct
number_after-requires-clause-distinct c = c.loop-number.invariant.found.so_far.distinct

pub returns-then-len-most-clause-sizes : goal.returns-then-len-most-clause-sizes
returns-then-len-most-clause-sizes c =
    let still = c.args.still.now in
    let first = c.args.numbering.now.sets in
    let old = c.loop-number.numbering.sets in
    let new = c.number_after.new.numbering.sets in
    let n = number_of still c.as_slice-then-is_allowed.result.now c.index-groups-number.result.edges.items old new c.in_ok-next.next c.as_slice-then-is_allowed.ensures c.in_ok-next.ensures.number in
    sizes_more still first old new n.word n.added n.set.size c.loop-number.invariant.found.so_far.sizes

pub returns-then-len-most-clause-grown : goal.returns-then-len-most-clause-grown
returns-then-len-most-clause-grown c =
    let still = c.args.still.now in
    let first = c.args.numbering.now.sets in
    let old = c.loop-number.numbering.sets in
    let new = c.number_after.new.numbering.sets in
    let n = number_of still c.as_slice-then-is_allowed.result.now c.index-groups-number.result.edges.items old new c.in_ok-next.next c.as_slice-then-is_allowed.ensures c.in_ok-next.ensures.number in
    found_grown c.args.groups.now c.args.numbers.now still first c.loop-number.number-index c.loop-number.place _ old c.loop-number.arms.items c.index-groups-number.result n.word new
    (record { was = c.loop-number.invariant.found; rising = c.requires.rising; allowed = c.requires.allowed; short = c.loop-number-test.true; from = c.if-place-number.true; within = c.if-number-groups.true; is = c.index-groups-number.is })
    (subst (λ l. Allowed still l) c.as_slice.ensures c.if-is_allowed.ensures) n.set n.added

pub returns-then-len-most-clause-distinct : goal.returns-then-len-most-clause-distinct
returns-then-len-most-clause-distinct c = c.in_ok-next.ensures.distinct

pub returns-then-len-most-clause-singles : goal.returns-then-len-most-clause-singles
returns-then-len-most-clause-singles c = c.in_ok-next.ensures.singles

pub returns-then-len-most-clause-longer : goal.returns-then-len-most-clause-longer
returns-then-len-most-clause-longer c =
    let first = c.args.numbering.now.sets in
    let old = c.loop-number.numbering.sets in
    let new = c.number_after.new.numbering.sets in
    let n = number_of c.args.still.now c.as_slice-then-is_allowed.result.now c.index-groups-number.result.edges.items old new c.in_ok-next.next c.as_slice-then-is_allowed.ensures c.in_ok-next.ensures.number in
    word_longer first old new n.word n.added c.loop-number.invariant.found.so_far.longer

pub returns-then-len-most-clause-count : goal.returns-then-len-most-clause-count
returns-then-len-most-clause-count c =
    let old = c.loop-number.numbering.sets in
    let new = c.number_after.new.numbering.sets in
    let n = number_of c.args.still.now c.as_slice-then-is_allowed.result.now c.index-groups-number.result.edges.items old new c.in_ok-next.next c.as_slice-then-is_allowed.ensures c.in_ok-next.ensures.number in
    let one_more : length new ≤ length old + 1 = subst (λ l. length l ≤ length old + 1) (sym n.added) (word_count old n.word) in
    let few = c.loop-number.invariant.few in
    let above = c.if-len-most.true in
    let count = c.len.ensures.len in
    omega (arith, one_more, few, above, count)

pub loop-number-init : goal.loop-number-init
loop-number-init c = rw c.new-arms.ensures.items (record {
  found = found_begin c.args.groups.now c.args.numbers.now c.args.still.now c.args.numbering.now.sets c.requires.distinct;
  few = c.requires.few;
  singles = c.requires.singles;
})

pub loop-number-preserved : goal.loop-number-preserved
loop-number-preserved c =
    let gs = c.args.groups.now in
    let numbers = c.args.numbers.now in
    let still = c.args.still.now in
    let first = c.args.numbering.now.sets in
    let k = c.loop-number.number-index in
    let place = c.loop-number.place in
    let sets = c.loop-number.numbering.sets in
    let arms = c.loop-number.arms.items in
    elim c.if-place-number.branch [
      | then-place-number+then-number-groups+then-is_allowed+in_ok-next+else-len-most+in_ok-push w ↦
          let g = w.index-groups-number.result in
          let new = w.number_after.new.numbering.sets in
          let n = number_of still w.as_slice-then-is_allowed.result.now g.edges.items sets new w.in_ok-next.next w.as_slice-then-is_allowed.ensures w.in_ok-next.ensures.number in
          let few : length new ≤ c.args.most = (let a = w.if-len-most.false in let b = w.len.ensures.len in omega (arith, a, b)) in
          let turn : IsTurn gs numbers still first k place 0 sets arms g = record { was = c.loop-number.invariant.found; rising = c.requires.rising; allowed = c.requires.allowed; short = c.loop-number-test.true; from = w.if-place-number.true; within = w.if-number-groups.true; is = w.index-groups-number.is } in
          rw (w.place-is, w.numbering-is, w.arms-is) (record {
            found = found_in gs numbers still first k place 0 sets arms g n.word new _ w.push.new.self.items
                turn (subst (λ l. Allowed still l) w.as_slice.ensures w.if-is_allowed.ensures) n.set n.added w.in_ok-next.ensures.distinct refl n.at w.in_ok-push.ensures.items;
            few = few;
            singles = w.in_ok-next.ensures.singles;
          })
      | then-place-number+then-number-groups+else-is_allowed w ↦
          let g = w.index-groups-number.result in
          let turn : IsTurn gs numbers still first k place 0 sets arms g = record { was = c.loop-number.invariant.found; rising = c.requires.rising; allowed = c.requires.allowed; short = c.loop-number-test.true; from = w.if-place-number.true; within = w.if-number-groups.true; is = w.index-groups-number.is } in
          rw (w.place-is, w.numbering-is, w.arms-is) (record {
            found = found_out gs numbers still first k place 0 sets arms g turn (subst (λ l. (e : Edge) → IsIn e l → Has still e.from → ⊥) w.as_slice.ensures w.if-is_allowed.ensures);
            few = c.loop-number.invariant.few;
            singles = c.loop-number.invariant.singles;
          })
      | else-place-number w ↦ rw (w.place-is, w.numbering-is, w.arms-is) (record {
        found = found_same gs numbers still first k place 0 sets arms c.loop-number.invariant.found c.loop-number-test.true
            (elim w.else-place-number.branch as (λ v. (slice_index_or numbers k 0 < place) ⊎ (length gs ≤ slice_index_or numbers k 0)) [
              | else-place-number-via-then-place-number+else-number-groups v ↦ inr v.if-number-groups.false
              | else-place-number-via-else-place-number v ↦ inl v.if-place-number.false
            ]);
        few = c.loop-number.invariant.few;
        singles = c.loop-number.invariant.singles;
      })
    ]

pub returns-clause-arms : goal.returns-clause-arms
returns-clause-arms c = found_end c.args.groups.now c.args.numbers.now c.args.still.now c.args.numbering.now.sets c.loop-number.number-index c.loop-number.place c.loop-number.numbering.sets c.loop-number.arms.items c.loop-number.invariant.found c.requires.allowed c.loop-number-test.false

pub returns-clause-ascend : goal.returns-clause-ascend
returns-clause-ascend c = λ names up. arms_ascend_end names c.args.groups.now c.loop-number.place c.loop-number.arms.items (c.loop-number.invariant.found.so_far.ascend names up)

pub returns-clause-distinct : goal.returns-clause-distinct
returns-clause-distinct c = c.loop-number.invariant.found.so_far.distinct

pub returns-clause-singles : goal.returns-clause-singles
returns-clause-singles c = c.loop-number.invariant.singles

pub returns-clause-longer : goal.returns-clause-longer
returns-clause-longer c = c.loop-number.invariant.found.so_far.longer

pub returns-clause-sizes : goal.returns-clause-sizes
returns-clause-sizes c = c.loop-number.invariant.found.so_far.sizes

pub returns-clause-count : goal.returns-clause-count
returns-clause-count c = c.loop-number.invariant.few

pub returns-clause-grown : goal.returns-clause-grown
returns-clause-grown c = c.loop-number.invariant.found.so_far.grown

pub returns-clause-numbered : goal.returns-clause-numbered
returns-clause-numbered c = c.loop-number.invariant.found.so_far.numbered
