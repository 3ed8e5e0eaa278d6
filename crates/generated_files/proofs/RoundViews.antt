-- The views of the protocol of odd rounds, whose exchanges come one after another.
use Rattle.std.proofs.Common.{◌≡◌, ◌<◌, inl, inr, ℕ, zero, suc, List, [], ◌∷◌, ◌++◌, Some, refl, sym, ap, ◌∙◌, subst, arith}
use Rattle.std.specs.Prelude.{slice_get, codes}
use Rattle.chor_base.specs.declared.names.NameId.{NameId}
use Rattle.chor_base.specs.declared.value.Sort.TheVariants.{Int as Number}
use Rattle.chor_tree.specs.declared.protocol.State.{State}
use Rattle.chor_gen.specs.Generated.{round, passes, stops}
use Rattle.global_types.specs.Moves.{IsIn, Exchange, passes as exchange, plain, exchanges_of, state_named, Leads}
use Rattle.global_types.specs.Paths.{Action, action_in}
use Rattle.global_types.specs.Views.{IsApart, HasNoViewFault}
use Rattle.generated_files.proofs.Rounds.{at}
use Rattle.generated_files.proofs.Marks.{same_step, not_named, none_named, GoesOn, AreMarks, AreFew, no_view_fault}

module _ (count : ℕ) where
  abbrev n : List ℕ → NameId
  n x = (at count x).name

  abbrev pub states : List State
  states = (round (at count)).states

  -- the state at each place
  abbrev state : ℕ → State
  state zero = passes (at count) (codes "s") (codes "A") (codes "B") (codes "t")
  state (suc zero) = passes (at count) (codes "t") (codes "B") (codes "C") (codes "u")
  state (suc (suc zero)) = passes (at count) (codes "u") (codes "C") (codes "A") (codes "v")
  state (suc (suc (suc i))) = stops (at count) (codes "v")

  state_is : (i : ℕ) (s : State) → slice_get states i ≡ Some s → (i < 4) × (s ≡ state i)
  state_is zero s e = (omega arith, cc)
  state_is (suc zero) s e = (omega arith, cc)
  state_is (suc (suc zero)) s e = (omega arith, cc)
  state_is (suc (suc (suc zero))) s e = (omega arith, cc)
  state_is (suc (suc (suc (suc i)))) s e = absurd cc

  -- the exchange that leads on from it
  abbrev exchange_at : ℕ → Exchange
  exchange_at zero = exchange (n (codes "A")) (n (codes "B")) (plain Number)
  exchange_at (suc zero) = exchange (n (codes "B")) (n (codes "C")) (plain Number)
  exchange_at (suc (suc i)) = exchange (n (codes "C")) (n (codes "A")) (plain Number)

  -- an exchange leads to the next state
  pub record Goes (i : ℕ) (x : Exchange) (j : ℕ) : Type 0 where
    pub before_end : i < 3
    pub next : j ≡ suc i
    pub which : x ≡ exchange_at i

  -- the state after this exchange, which is the only one of its state
  only : (y x : Exchange) (m next : NameId) (k j : ℕ) → IsIn {A = Exchange × NameId} (x, next) ((y, m) ∷ []) → state_named states m ≡ Some k → state_named states next ≡ Some j → (x ≡ y) × (j ≡ k)
  only y x m next k j (inl e) f g =
      let same : m ≡ next = ap (λ (p : Exchange × NameId). p.1) e in
      let both : Some k ≡ Some j = sym f ∙ ap (state_named states) same ∙ g in
      (sym (ap (λ (p : Exchange × NameId). p.0) e), cc)
  only y x m next k j (inr o) f g = absurd o

  goes : (i : ℕ) (x : Exchange) (j : ℕ) → Leads states i x j → Goes i x j
  goes i x j l = let w = state_is i l.state l.here in from i w.0 (subst (λ (s : State). IsIn {A = Exchange × NameId} (x, l.next) (exchanges_of s.step)) w.1 l.allowed)
    where
      from : (i : ℕ) → i < 4 → IsIn {A = Exchange × NameId} (x, l.next) (exchanges_of (state i).step) → Goes i x j
      from zero lt a = let w = only (exchange_at 0) x (n (codes "t")) l.next 1 j a refl l.there in record { before_end = omega arith; next = w.1; which = w.0 }
      from (suc zero) lt a = let w = only (exchange_at 1) x (n (codes "u")) l.next 2 j a refl l.there in record { before_end = omega arith; next = w.1; which = w.0 }
      from (suc (suc zero)) lt a = let w = only (exchange_at 2) x (n (codes "v")) l.next 3 j a refl l.there in record { before_end = omega arith; next = w.1; which = w.0 }
      from (suc (suc (suc i))) lt a = absurd a

  goes_on : GoesOn states
  goes_on i j x l = let g = goes i x j l in let e = g.next in omega (arith, e)

  module _ (r : NameId) where
    -- the role's actions before each state
    abbrev before : ℕ → List Action
    before zero = []
    before (suc i) = before i ++ action_in r (exchange_at i)

    abbrev Marked : ℕ → List Action → Type 0
    Marked i w = (i < 4) × (w ≡ before i)

    marks : AreMarks states r Marked
    marks = record {
      begin = (omega arith, refl);
      next = λ i j w x m l.
          let g = goes i x j l in
          let lt = g.before_end in
          let e = g.next in
          (omega (arith, lt, e), (λ k. m.1 k ++ action_in r (g.which k)) ∙ ap before (sym e));
    }

    few : AreFew states r Marked
    few = record {
      number = λ i w m. i;
      below = λ i w m. m.0;
      same = λ i j v w m k e. m.1 ∙ ap before e ∙ sym k.1;
    }

    -- no two states with the same actions before them are apart
    abbrev AreTold : Type 0
    AreTold = (i j : ℕ) → i < 4 → j < 4 → before i ≡ before j → IsApart r (state i).step (state j).step → ⊥

    fine : AreTold → HasNoViewFault states r
    fine told = no_view_fault states r Marked marks few goes_on (λ i j w s t m k h g a.
        let e = state_is i s h in
        let f = state_is j t g in
        told i j m.0 k.0 (sym m.1 ∙ k.1) (subst (λ (o : State). IsApart r (state i).step o.step) f.1 (subst (λ (o : State). IsApart r o.step t.step) e.1 a)))

  -- ---- the three roles

  told_a : AreTold (n (codes "A"))
  told_a zero zero l h e a = same_step (n (codes "A")) (state 0).step a
  told_a zero (suc zero) l h e a = absurd cc
  told_a zero (suc (suc zero)) l h e a = absurd cc
  told_a zero (suc (suc (suc zero))) l h e a = absurd cc
  told_a zero (suc (suc (suc (suc j)))) l h e a = absurd (omega (arith, h))
  told_a (suc zero) j l h e a = not_named (n (codes "A")) (state 1).step (state j).step refl a
  told_a (suc (suc zero)) zero l h e a = absurd cc
  told_a (suc (suc zero)) (suc zero) l h e a = none_named (n (codes "A")) (state 2).step (state 1).step refl (λ k. absurd cc) a
  told_a (suc (suc zero)) (suc (suc zero)) l h e a = same_step (n (codes "A")) (state 2).step a
  told_a (suc (suc zero)) (suc (suc (suc zero))) l h e a = absurd cc
  told_a (suc (suc zero)) (suc (suc (suc (suc j)))) l h e a = absurd (omega (arith, h))
  told_a (suc (suc (suc i))) j l h e a = not_named (n (codes "A")) (state 3).step (state j).step refl a

  told_b : AreTold (n (codes "B"))
  told_b zero zero l h e a = same_step (n (codes "B")) (state 0).step a
  told_b zero (suc zero) l h e a = absurd cc
  told_b zero (suc (suc zero)) l h e a = absurd cc
  told_b zero (suc (suc (suc zero))) l h e a = absurd cc
  told_b zero (suc (suc (suc (suc j)))) l h e a = absurd (omega (arith, h))
  told_b (suc zero) zero l h e a = absurd cc
  told_b (suc zero) (suc zero) l h e a = same_step (n (codes "B")) (state 1).step a
  told_b (suc zero) (suc (suc zero)) l h e a = absurd cc
  told_b (suc zero) (suc (suc (suc zero))) l h e a = absurd cc
  told_b (suc zero) (suc (suc (suc (suc j)))) l h e a = absurd (omega (arith, h))
  told_b (suc (suc zero)) j l h e a = not_named (n (codes "B")) (state 2).step (state j).step refl a
  told_b (suc (suc (suc i))) j l h e a = not_named (n (codes "B")) (state 3).step (state j).step refl a

  told_c : AreTold (n (codes "C"))
  told_c zero j l h e a = not_named (n (codes "C")) (state 0).step (state j).step refl a
  told_c (suc zero) zero l h e a = none_named (n (codes "C")) (state 1).step (state 0).step refl (λ k. absurd cc) a
  told_c (suc zero) (suc zero) l h e a = same_step (n (codes "C")) (state 1).step a
  told_c (suc zero) (suc (suc zero)) l h e a = absurd cc
  told_c (suc zero) (suc (suc (suc zero))) l h e a = absurd cc
  told_c (suc zero) (suc (suc (suc (suc j)))) l h e a = absurd (omega (arith, h))
  told_c (suc (suc zero)) zero l h e a = absurd cc
  told_c (suc (suc zero)) (suc zero) l h e a = absurd cc
  told_c (suc (suc zero)) (suc (suc zero)) l h e a = same_step (n (codes "C")) (state 2).step a
  told_c (suc (suc zero)) (suc (suc (suc zero))) l h e a = absurd cc
  told_c (suc (suc zero)) (suc (suc (suc (suc j)))) l h e a = absurd (omega (arith, h))
  told_c (suc (suc (suc i))) j l h e a = not_named (n (codes "C")) (state 3).step (state j).step refl a

  pub round_fine : (HasNoViewFault states (n (codes "A"))) × (HasNoViewFault states (n (codes "B"))) × (HasNoViewFault states (n (codes "C")))
  round_fine = (fine (n (codes "A")) told_a, fine (n (codes "B")) told_b, fine (n (codes "C")) told_c)
