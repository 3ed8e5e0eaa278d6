use Rattle.std.proofs.Common.{ℕ, ◌≡◌, sym, ap, ◌∙◌, subst, length}
use Rattle.std.specs.Prelude.{Some, slice_get}
use Rattle.std.proofs.lemmas.Option.{slice_get-get_or, slice_get_within}
use Rattle.chor_tree.specs.declared.protocol.State.{State}
use Rattle.global_types.specs.Views.{IsApart}
use Rattle.state_sets.proofs.Sets.{picked_in, picked_out, picked_all}
use Rattle.local_types.proofs.Labels.{not_both}
use Rattle.local_types.proofs.apart.apart_row.Goals as goal
use Rattle.local_types.proofs.apart.apart_row.Goals.{then-is_apart, else-is_apart}

same_some : (s t : State) → Some s ≡ Some t → s ≡ t
same_some s t e = cc

pub loop-number-preserved : goal.loop-number-preserved
loop-number-preserved c =
    let ss = c.args.states.now in
    let k = c.loop-number.number in
    let s = c.index-states-number.result in
    let at : slice_get ss k ≡ Some s = slice_get-get_or ss k s c.loop-number-test.true ∙ ap (λ (v : State). Some v) (sym c.index-states-number.is) in
    let P : ℕ → Type 0 = λ j. (t : State) × (slice_get ss j ≡ Some t) × IsApart c.args.role c.args.step.now t.step in
    elim c.if-is_apart.branch [
      | then-is_apart w ↦ rw (w.row-is, w.put.ensures) (picked_in (length ss) k P c.loop-number.row.items c.loop-number-test.true (s, at, c.is_apart.ensures.0 w.if-is_apart.true) c.loop-number.invariant)
      | else-is_apart w ↦ rw w.row-is (picked_out (length ss) k P c.loop-number.row.items
          (λ p. not_both c.is_apart.result (c.is_apart.ensures.1 (subst (λ (v : State). IsApart c.args.role c.args.step.now v.step) (same_some p.0 s (sym p.1 ∙ at)) p.2)) w.if-is_apart.false) c.loop-number.invariant)
    ]

pub returns : goal.returns
returns c =
    let ss = c.args.states.now in
    let P : ℕ → Type 0 = λ j. (t : State) × (slice_get ss j ≡ Some t) × IsApart c.args.role c.args.step.now t.step in
    picked_all (length ss) c.loop-number.number P c.loop-number.row.items c.loop-number-test.false (λ j p. slice_get_within ss j p.0 p.1) c.loop-number.invariant
