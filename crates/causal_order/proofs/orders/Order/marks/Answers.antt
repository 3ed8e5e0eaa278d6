use Rattle.std.proofs.Common.{◌≡◌, ℕ, ◌<◌, ◌+◌, ◌-◌, ◌||◌, true, false, arith, ap, sym, ◌∙◌, length, get_or, vec_len, subst, List, Bool}
use Rattle.std.proofs.lemmas.List.{get_or_read}
use Rattle.event_orders.specs.EventKinds.{is_in}
use Rattle.causal_order.proofs.Marked.{IsSound, IsDone, passed_by, kept, grown_sound, grown_done, marks_tell}
use Rattle.causal_order.proofs.orders.Order.marks.Goals.{then-index, else-index}
use Rattle.causal_order.proofs.orders.Order.marks.Goals as goal

pub loop-back-preserved : goal.loop-back-preserved
loop-back-preserved c =
    let old = c.loop-back.marks.items in
    let causes = c.args.self.now.causes in
    let count = c.len-count.result in
    let back = c.loop-back.back in
    let kept_so = c.loop-back.invariant in
    let within : count - 1 - back < length old = (let a = c.loop-back-test.true in let b = c.loop-back.marks.ok in let d = kept_so.len in omega arith) in
    let read : c.index.result.now ≡ get_or old (count - 1 - back) false = get_or_read old (count - 1 - back) c.index.result.now within c.index.ensures false in
    elim c.if-index.branch [
      | then-index w ↦ (
          let new = c.if-index.marks.items in
          let list = w.at.result.now in
          let marked : get_or old (count - 1 - back) false ≡ true = sym read ∙ w.if-index.true in
          let grown : (i : ℕ) → i < count → get_or new i false ≡ (get_or old i false || is_in i list) = λ i lt.
          ap (λ v. get_or v.items i false) w.marks-is ∙ w.mark_all.ensures.marked i (let d = kept_so.len in omega arith) ∙ ap (λ l. get_or old i false || is_in i l) w.as_slice.ensures in
          let early = c.args.self.now.earlier in
          record {
            len = ap vec_len w.marks-is ∙ w.mark_all.ensures.len ∙ kept_so.len;
            own = kept causes early c.args.event count back c.len-count.ensures c.loop-back-test.true old kept_so.sound kept_so.done list w.at.ensures marked new grown c.args.event (let a = c.requires in let b = c.len-count.ensures in omega arith) kept_so.own;
            sound = grown_sound causes early c.args.event count back c.len-count.ensures c.loop-back-test.true old kept_so.sound kept_so.done list w.at.ensures marked new grown;
            done = grown_done causes early c.args.event count back c.len-count.ensures c.loop-back-test.true old kept_so.sound kept_so.done list w.at.ensures marked new grown;
          })
      | else-index w ↦ (
          let same : c.loop-back.marks.items ≡ c.if-index.marks.items = ap (λ v. v.items) (sym w.marks-is) in
          let no_mark : get_or old (count - 1 - back) false ≡ false = sym read ∙ w.if-index.false in
          let early = c.args.self.now.earlier in
          record {
            len = ap vec_len w.marks-is ∙ kept_so.len;
            own = subst (λ (z : List Bool). get_or z c.args.event false ≡ true) same kept_so.own;
            sound = subst (IsSound causes c.args.event count) same kept_so.sound;
            done = subst (IsDone causes count (back + 1)) same (passed_by causes early c.args.event count back c.len-count.ensures c.loop-back-test.true old kept_so.sound kept_so.done no_mark);
          })
    ]

pub returns-clause-marked : goal.returns-clause-marked
returns-clause-marked c =
    marks_tell c.args.self.now.causes c.args.event c.len-count.result c.loop-back.back c.loop-back.marks.items c.len-count.ensures c.loop-back-test.false c.loop-back.auto.back-end c.loop-back.invariant.own c.loop-back.invariant.sound c.loop-back.invariant.done
