-- The views of the protocol of even rounds, in which one label is told.
use Rattle.std.proofs.Common.{◌≡◌, ◌<◌, ◌⊎◌, inl, inr, ℕ, zero, suc, List, [], ◌∷◌, ◌++◌, Some, refl, sym, ap, ◌∙◌, subst, arith}
use Rattle.std.specs.Prelude.{slice_get, codes}
use Rattle.chor_base.specs.declared.names.NameId.{NameId}
use Rattle.chor_tree.specs.declared.protocol.ProtoStep.TheVariants.{Choice}
use Rattle.chor_tree.specs.declared.protocol.State.{State}
use Rattle.chor_gen.specs.Generated.{fork, stops}
use Rattle.global_types.specs.Moves.{IsIn, Exchange, chooses, exchanges_of, state_named, Leads}
use Rattle.global_types.specs.Paths.{Action, action_in}
use Rattle.global_types.specs.Views.{IsApart, HasNoViewFault}
use Rattle.generated_files.proofs.Rounds.{at}
use Rattle.generated_files.proofs.Marks.{same_step, not_named, GoesOn, AreMarks, AreClear, no_view_fault}

module _ (count : ℕ) where
  abbrev n : List ℕ → NameId
  n x = (at count x).name

  abbrev pub states : List State
  states = (fork (at count)).states

  abbrev begin : State
  begin = record {
    name = at count (codes "s");
    step = Choice (at count (codes "A")) (at count (codes "B")) (
        record { label = at count (codes "more"); next = at count (codes "t") }
        ∷ record { label = at count (codes "less"); next = at count (codes "t") } ∷ []);
  }

  abbrev end : State
  end = stops (at count) (codes "t")

  -- one of the two labels is told
  abbrev tells : List ℕ → Exchange
  tells l = chooses (n (codes "A")) (n (codes "B")) (n l)

  -- a label leads from the first state to the end
  pub record Goes (i : ℕ) (x : Exchange) (j : ℕ) : Type 0 where
    pub from : i ≡ 0
    pub to : j ≡ 1
    pub which : (x ≡ tells (codes "more")) ⊎ (x ≡ tells (codes "less"))

  arrives : (next : NameId) (j : ℕ) → n (codes "t") ≡ next → state_named states next ≡ Some j → j ≡ 1
  arrives next j e g = let both : Some 1 ≡ Some j = ap (state_named states) e ∙ g in cc

  goes : (i : ℕ) (x : Exchange) (j : ℕ) → Leads states i x j → Goes i x j
  goes i x j l = from i l.here
    where
      first : IsIn {A = Exchange × NameId} (x, l.next) ((tells (codes "more"), n (codes "t")) ∷ (tells (codes "less"), n (codes "t")) ∷ []) → Goes 0 x j
      first (inl e) = record { from = refl; to = arrives l.next j (ap (λ (p : Exchange × NameId). p.1) e) l.there; which = inl (sym (ap (λ (p : Exchange × NameId). p.0) e)) }
      first (inr (inl e)) = record { from = refl; to = arrives l.next j (ap (λ (p : Exchange × NameId). p.1) e) l.there; which = inr (sym (ap (λ (p : Exchange × NameId). p.0) e)) }
      first (inr (inr o)) = absurd o

      from : (i : ℕ) → slice_get states i ≡ Some l.state → Goes i x j
      from zero e = let same : l.state ≡ begin = cc in first (subst (λ (s : State). IsIn {A = Exchange × NameId} (x, l.next) (exchanges_of s.step)) same l.allowed)
      from (suc zero) e = let same : l.state ≡ end = cc in absurd (subst (λ (s : State). IsIn {A = Exchange × NameId} (x, l.next) (exchanges_of s.step)) same l.allowed)
      from (suc (suc i)) e = absurd cc

  goes_on : GoesOn states
  goes_on i j x l = let g = goes i x j l in let e = g.from in let f = g.to in omega (arith, e, f)

  module _ (r : NameId) where
    -- the role's action at a label
    abbrev told : List ℕ → List Action
    told l = action_in r (tells l)

    abbrev Marked : ℕ → List Action → Type 0
    Marked zero w = w ≡ []
    Marked (suc zero) w = (w ≡ told (codes "more")) ⊎ (w ≡ told (codes "less"))
    Marked (suc (suc i)) w = ⊥

    marks : AreMarks states r Marked
    marks = record {
      begin = refl;
      next = λ i j w x m l.
          let g = goes i x j l in
          subst (λ (k : ℕ). Marked k (w ++ action_in r x)) (sym g.to) (after w x (subst (λ (k : ℕ). Marked k w) g.from m) g.which);
    }
      where
        after : (w : List Action) (x : Exchange) → w ≡ [] → (x ≡ tells (codes "more")) ⊎ (x ≡ tells (codes "less")) → Marked 1 (w ++ action_in r x)
        after w x e (inl k) = inl (λ o. e o ++ action_in r (k o))
        after w x e (inr k) = inr (λ o. e o ++ action_in r (k o))

    number : (i : ℕ) (w : List Action) → Marked i w → ℕ
    number zero w m = 0
    number (suc zero) w (inl e) = 1
    number (suc zero) w (inr e) = 2
    number (suc (suc i)) w m = absurd m

    below : (i : ℕ) (w : List Action) (m : Marked i w) → number i w m < 4
    unfolding number
    below zero w m = omega arith
    below (suc zero) w (inl e) = omega arith
    below (suc zero) w (inr e) = omega arith
    below (suc (suc i)) w m = absurd m

    same : (i j : ℕ) (v w : List Action) (m : Marked i v) (k : Marked j w) → number i v m ≡ number j w k → v ≡ w
    unfolding number
    same zero zero v w m k e = m ∙ sym k
    same zero (suc zero) v w m (inl k) e = absurd (omega arith)
    same zero (suc zero) v w m (inr k) e = absurd (omega arith)
    same (suc zero) zero v w (inl m) k e = absurd (omega arith)
    same (suc zero) zero v w (inr m) k e = absurd (omega arith)
    same (suc zero) (suc zero) v w (inl m) (inl k) e = m ∙ sym k
    same (suc zero) (suc zero) v w (inl m) (inr k) e = absurd (omega arith)
    same (suc zero) (suc zero) v w (inr m) (inl k) e = absurd (omega arith)
    same (suc zero) (suc zero) v w (inr m) (inr k) e = m ∙ sym k
    same (suc (suc i)) j v w m k e = absurd m
    same zero (suc (suc j)) v w m k e = absurd k
    same (suc zero) (suc (suc j)) v w m k e = absurd k

    -- the role takes part in each label
    abbrev Speaks : Type 0
    Speaks = (l : List ℕ) → told l ≡ [] → ⊥

    clear : Speaks → AreClear states r Marked
    clear speaks zero zero w s t m k h g a =
        let is_s : s ≡ begin = cc in
        let is_t : t ≡ begin = cc in
        same_step r begin.step (subst (λ (o : State). IsApart r begin.step o.step) is_t (subst (λ (o : State). IsApart r o.step t.step) is_s a))
    clear speaks zero (suc zero) w s t m (inl k) h g a = speaks (codes "more") (sym k ∙ m)
    clear speaks zero (suc zero) w s t m (inr k) h g a = speaks (codes "less") (sym k ∙ m)
    clear speaks zero (suc (suc j)) w s t m k h g a = absurd k
    clear speaks (suc zero) j w s t m k h g a = let is : s ≡ end = cc in not_named r end.step t.step refl (subst (λ (o : State). IsApart r o.step t.step) is a)
    clear speaks (suc (suc i)) j w s t m k h g a = absurd m

    fine : Speaks → HasNoViewFault states r
    fine speaks = no_view_fault states r Marked marks (record { number = number; below = below; same = same }) goes_on (clear speaks)

  pub fork_fine : (HasNoViewFault states (n (codes "A"))) × (HasNoViewFault states (n (codes "B")))
  fork_fine = (fine (n (codes "A")) (λ l e. absurd cc), fine (n (codes "B")) (λ l e. absurd cc))
