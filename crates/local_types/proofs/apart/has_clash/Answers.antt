use Rattle.std.proofs.Common.{ℕ, ◌∙◌, sym, subst, inl, inr, arith}
use Rattle.state_sets.specs.Sets.{Has, row_at}
use Rattle.state_sets.specs.Table.{Meets}
use Rattle.state_sets.proofs.Sets.{same_or_not, row_is, row_within, tested_in, tested_out}
use Rattle.state_sets.proofs.TableLoops.{is_true, is_false}
use Rattle.local_types.proofs.apart.has_clash.Goals as goal
use Rattle.local_types.proofs.apart.has_clash.Goals.{else-has-via-then-has+else-meets, else-has-via-else-has}

pub loop-state-init : goal.loop-state-init
loop-state-init c = λ i less has meets. absurd (omega (arith, less))

pub returns-then-meets : goal.returns-then-meets
returns-then-meets c =
    let marks = c.args.marks.now in
    let apart = c.args.apart.now in
    let k = c.loop-state.state in
    let seen = c.as_slice.result.now in
    let row = row_is apart k c.index-apart-state.result c.loop-state-test.true c.index-apart-state.is in
    let both : Meets marks seen = is_true c.meets.result ((x : ℕ) × Has marks x × Has seen x) ((x : ℕ) → Has marks x → Has seen x → ⊥) c.meets.ensures c.if-meets.true in
    (k, tested_in marks k c.has.result c.has.ensures c.if-has.true, subst (λ l. Meets marks l) (c.as_slice.ensures.value ∙ sym row) both)

pub loop-state-preserved : goal.loop-state-preserved
loop-state-preserved c =
    let marks = c.args.marks.now in
    let apart = c.args.apart.now in
    let k = c.loop-state.state in
    let row = row_is apart k c.index-apart-state.result c.loop-state-test.true c.index-apart-state.is in
    let here : Has marks k → Meets marks (row_at apart k) → ⊥ =
    elim c.else-has.branch as (λ v. Has marks k → Meets marks (row_at apart k) → ⊥) [
      | else-has-via-then-has+else-meets w ↦ λ has meets.
          let seen = w.as_slice.result.now in
          let m : Meets marks seen = subst (λ l. Meets marks l) (row ∙ sym w.as_slice.ensures.value) meets in
          is_false w.meets.result ((x : ℕ) × Has marks x × Has seen x) ((x : ℕ) → Has marks x → Has seen x → ⊥) w.meets.ensures w.if-meets.false m.0 m.1 m.2
      | else-has-via-else-has w ↦ λ has meets. tested_out marks k c.has.result c.has.ensures w.if-has.false has
    ] in
    λ i less. elim (same_or_not i k) as (λ v. Has marks i → Meets marks (row_at apart i) → ⊥) [
      | inl e ↦ subst (λ j. Has marks j → Meets marks (row_at apart j) → ⊥) (sym e) here
      | inr d ↦ c.loop-state.invariant i (omega (arith, less, d))
    ]

pub returns : goal.returns
returns c = λ t. let b = row_within c.args.apart.now t.0 t.2.0 t.2.2 in let h = c.loop-state-test.false in c.loop-state.invariant t.0 (omega (arith, b, h)) t.1 t.2
