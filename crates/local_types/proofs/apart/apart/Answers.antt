use Rattle.std.proofs.Common.{ℕ, ◌≡◌, sym, ap, ◌∙◌, subst, length}
use Rattle.std.specs.Prelude.{Some, slice_get}
use Rattle.std.proofs.lemmas.Option.{slice_get-get_or}
use Rattle.chor_tree.specs.declared.protocol.State.{State}
use Rattle.global_types.specs.Views.{IsApart}
use Rattle.state_sets.specs.Table.{ApartAt}
use Rattle.state_sets.proofs.Sets.{rows_more, set_same}
use Rattle.local_types.proofs.apart.apart.Goals as goal

same_some : (s t : State) → Some s ≡ Some t → s ≡ t
same_some s t e = cc

pub loop-state-preserved : goal.loop-state-preserved
loop-state-preserved c =
    let ss = c.args.states.now in
    let r = c.args.role in
    let k = c.loop-state.state-index in
    let s = c.state-item.result in
    let at : slice_get ss k ≡ Some s = slice_get-get_or ss k s c.loop-state-test.true ∙ ap (λ (v : State). Some v) (sym c.state-item.is) in
    let there : (j : ℕ) → (t : State) × (slice_get ss j ≡ Some t) × IsApart r s.step t.step → ApartAt ss r k j = λ j p. record { one = s; other = p.0; is_one = at; is_other = p.1; is_apart = p.2 } in
    let back : (j : ℕ) → ApartAt ss r k j → (t : State) × (slice_get ss j ≡ Some t) × IsApart r s.step t.step =
    λ j a. (a.other, a.is_other, subst (λ (v : State). IsApart r v.step a.other.step) (same_some a.one s (sym a.is_one ∙ at)) a.is_apart) in
    rows_more (length ss) (ApartAt ss r) c.loop-state.rows.items c.push.new.self.items k c.in_ok-apart_row.field-0 c.loop-state.invariant.size c.in_ok-push.ensures.items
    (set_same (length ss) _ (ApartAt ss r k) c.in_ok-apart_row.field-0.items c.in_ok-apart_row.ensures there back) c.loop-state.invariant.row
