use Rattle.std.proofs.Common.{ℕ, length, ◌≡◌, ◌<◌, sym, subst, ap, ◌∙◌, arith}
use Rattle.std.specs.Prelude.{◌⊎◌, ◌==◌, slice_index_or, if◌then◌else◌, Vec, vec_len}
use Rattle.std.specs.declared.alloc.Global.{Global}
use Rattle.state_sets.specs.Sets.{Has, row_at, IsSetFor}
use Rattle.state_sets.proofs.Sets.{rows_put, through_in, through_out, row_is, tested_in, tested_out}
use Rattle.state_sets.proofs.graph.go_through.Goals as goal
use Rattle.state_sets.proofs.graph.go_through.Goals.{then-has, else-has}

pub loop-number-preserved : goal.loop-number-preserved
loop-number-preserved c =
    let first = c.args.rows.now.items in
    let n = length first in
    let s = c.args.state in
    let k = c.loop-number.number in
    let old = c.loop-number.rows.items in
    let inv = c.loop-number.invariant in
    let size : length old ≡ n = inv.size in
    let test = c.loop-number-test.true in
    let count = c.len-number-end.ensures in
    let within : k < length old = (let v : vec_len c.args.rows.now ≡ n = c.args.rows.now.ok.0 in omega (arith, test, count, size, v)) in
    let row = c.index_mut-row.result.now in
    let own : row_at first k ≡ row.items = sym (inv.left k (omega arith)) ∙ row_is old k row within c.index_mut-row.ensures.value in
    let mine : IsSetFor n (Has row.items) row.items = subst (λ l. IsSetFor n (Has l) l) own (c.requires.sizes k (omega (arith, within, size))) in
    let more : IsSetFor n (Has (row_at first s)) (row_at first s) = c.requires.sizes s c.requires.state in
    let through : row_at first s ≡ c.in_ok-through.through.items = row_is first s c.index.result.now c.requires.state c.index.ensures ∙ sym c.as_slice.ensures.value ∙ sym c.in_ok-through.ensures.items in
    let R : ℕ → ℕ → Type 0 = λ i j. Has (row_at first i) j ⊎ (Has (row_at first i) s × Has (row_at first s) j) in
    elim c.if-has.branch [
      | then-has w ↦
          let to = tested_in row.items s c.has.result (c.has.ensures ∙ ap (λ l. slice_index_or l s 0 == 1) c.as_slice-in-loop-number.ensures.value) w.if-has.true in
          let bytes : (i : ℕ) → i < length row.items → slice_index_or w.put_all.new.marks.items i 0 ≡ (if slice_index_or (row_at first s) i 0 == 1 then 1 else slice_index_or row.items i 0) =
          λ i h. w.put_all.ensures.bytes i h ∙ ap (λ l. if slice_index_or l i 0 == 1 then 1 else slice_index_or row.items i 0) (w.as_slice-then-has.ensures.value ∙ sym through) in
          let there = through_in n row.items (row_at first s) w.put_all.new.marks.items s mine more to w.put_all.ensures.len bytes in
          let there_too : IsSetFor n (R k) w.put_all.new.marks.items = subst (λ l. IsSetFor n (λ j. Has l j ⊎ (Has l s × Has (row_at first s) j)) w.put_all.new.marks.items) (sym own) there in
          rows_put n R first old c.if-has.rows.items k w.put_all.new.marks size inv.done inv.left (ap (λ (v : Vec (Vec ℕ Global) Global). v.items) w.rows-is) within there_too
      | else-has w ↦
          let out = tested_out row.items s c.has.result (c.has.ensures ∙ ap (λ l. slice_index_or l s 0 == 1) c.as_slice-in-loop-number.ensures.value) w.if-has.false in
          let there = through_out n row.items (row_at first s) s mine out in
          let there_too : IsSetFor n (R k) row.items = subst (λ l. IsSetFor n (λ j. Has l j ⊎ (Has l s × Has (row_at first s) j)) row.items) (sym own) there in
          rows_put n R first old c.if-has.rows.items k row size inv.done inv.left (ap (λ (v : Vec (Vec ℕ Global) Global). v.items) w.rows-is) within there_too
    ]
