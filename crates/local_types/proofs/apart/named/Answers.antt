use Rattle.std.proofs.Common.{◌≡◌, sym, ap, ◌∙◌, subst, length, true}
use Rattle.std.specs.Prelude.{Some, slice_get}
use Rattle.std.proofs.lemmas.Option.{slice_get-get_or, slice_get_within}
use Rattle.chor_tree.specs.declared.protocol.State.{State}
use Rattle.global_types.specs.Moves.{is_named}
use Rattle.global_types.specs.Views.{NamesAt}
use Rattle.state_sets.proofs.Sets.{picked_in, picked_out, picked_all}
use Rattle.local_types.proofs.apart.named.Goals as goal
use Rattle.local_types.proofs.apart.named.Goals.{then-is_named, else-is_named}

same_some : (s t : State) → Some s ≡ Some t → s ≡ t
same_some s t e = cc

pub loop-number-preserved : goal.loop-number-preserved
loop-number-preserved c =
    let ss = c.args.states.now in
    let k = c.loop-number.number in
    let r = c.args.role in
    let s = c.index-states-number.result in
    let at : slice_get ss k ≡ Some s = slice_get-get_or ss k s c.loop-number-test.true ∙ ap (λ (v : State). Some v) (sym c.index-states-number.is) in
    elim c.if-is_named.branch [
      | then-is_named w ↦ rw (w.marks-is, w.put.ensures) (picked_in (length ss) k (NamesAt ss r) c.loop-number.marks.items c.loop-number-test.true (s, at, sym c.is_named.ensures ∙ w.if-is_named.true) c.loop-number.invariant)
      | else-is_named w ↦ rw w.marks-is (picked_out (length ss) k (NamesAt ss r) c.loop-number.marks.items
          (λ p. let e : is_named r s.step ≡ true = subst (λ (v : State). is_named r v.step ≡ true) (same_some p.0 s (sym p.1 ∙ at)) p.2 in let f = c.is_named.ensures ∙ e in let g = w.if-is_named.false in absurd (cc)) c.loop-number.invariant)
    ]

pub returns : goal.returns
returns c =
    let ss = c.args.states.now in
    picked_all (length ss) c.loop-number.number (NamesAt ss c.args.role) c.loop-number.marks.items c.loop-number-test.false (λ j p. slice_get_within ss j p.0 p.1) c.loop-number.invariant
