-- Where a role may stand after its actions, where that is known for each of them.
use Rattle.std.proofs.Common.{◌≡◌, ◌<◌, ◌≤◌, inl, inr, ℕ, false, List, [], ◌∷◌, ◌++◌, Some, refl, sym, ap, ◌∙◌, subst, arith, append_assoc}
use Rattle.std.specs.Prelude.{slice_get}
use Rattle.std.proofs.lemmas.List.{append-nil}
use Rattle.chor_base.specs.declared.names.NameId.{NameId}
use Rattle.chor_tree.specs.declared.protocol.ProtoStep.{ProtoStep}
use Rattle.chor_tree.specs.declared.protocol.ProtoStep.TheVariants.{End, Value, Choice}
use Rattle.chor_tree.specs.declared.protocol.State.{State}
use Rattle.global_types.specs.Moves.{Exchange, is_named, Leads}
use Rattle.global_types.specs.Paths.{IsPath, Action, action_in, actions_of, Still, At}
use Rattle.global_types.specs.Views.{Differ, HasTooMany, LeavesBehind, IsApart, HasNoViewFault}

-- a step is the same as itself
pub same_step : (r : NameId) (s : ProtoStep) → IsApart r s s → ⊥
same_step r End (n, o) = absurd cc
same_step r (Value a b c next) (n, inl e) = absurd cc
same_step r (Value a b c next) (n, inr (m, other)) = other (refl, refl, refl)
same_step r (Choice a b arms) (n, inl e) = absurd cc
same_step r (Choice a b arms) (n, inr (m, other)) = other (refl, refl, λ q l. (λ h. h, λ h. h))

-- a step that doesn't name the role is apart from none, and none from it but the end
pub not_named : (r : NameId) (s t : ProtoStep) → is_named r s ≡ false → IsApart r s t → ⊥
not_named r s t e (n, o) = absurd cc

pub none_named : (r : NameId) (s t : ProtoStep) → is_named r t ≡ false → (t ≡ End → ⊥) → IsApart r s t → ⊥
none_named r s t e goes_on (n, inl h) = goes_on h
none_named r s t e goes_on (n, inr (m, other)) = absurd cc

-- five numbers below four aren't all different
five : (a b c d e : ℕ) → a < 4 → b < 4 → c < 4 → d < 4 → e < 4 → (a ≡ b → ⊥) → (a ≡ c → ⊥) → (a ≡ d → ⊥) → (a ≡ e → ⊥) → (b ≡ c → ⊥) → (b ≡ d → ⊥) → (b ≡ e → ⊥) → (c ≡ d → ⊥) → (c ≡ e → ⊥) → (d ≡ e → ⊥) → ⊥
five a b c d e p q r s t i j k l m n o u v w = absurd (omega arith)

-- each exchange leads to a later state
abbrev pub GoesOn : List State → Type 0
GoesOn ss = (i j : ℕ) (x : Exchange) → Leads ss i x j → i < j

module _ (ss : List State) (r : NameId) (Marked : ℕ → List Action → Type 0) where
  -- after these actions a path may stand in the marked states alone
  pub record AreMarks : Type 0 where
    pub begin : Marked 0 []
    pub next : (i j : ℕ) (w : List Action) (x : Exchange) → Marked i w → Leads ss i x j → Marked j (w ++ action_in r x)

  -- there are few lists of actions, each with a number
  pub record AreFew : Type 0 where
    pub number : (i : ℕ) (w : List Action) → Marked i w → ℕ
    pub below : (i : ℕ) (w : List Action) (m : Marked i w) → number i w m < 4
    pub same : (i j : ℕ) (v w : List Action) (m : Marked i v) (n : Marked j w) → number i v m ≡ number j w n → v ≡ w

  -- no two of the states clash after the same actions
  abbrev pub AreClear : Type 0
  AreClear = (i j : ℕ) (w : List Action) (s t : State) → Marked i w → Marked j w → slice_get ss i ≡ Some s → slice_get ss j ≡ Some t → IsApart r s.step t.step → ⊥

  module _ (marks : AreMarks) where
    walked : (xs : List Exchange) (i k : ℕ) (w : List Action) → Marked i w → IsPath ss i xs k → Marked k (w ++ actions_of r xs)
    walked [] i k w m p = subst (λ (v : List Action). Marked k v) (sym (append-nil w)) (subst (λ (j : ℕ). Marked j w) p m)
    walked (x ∷ xs) i k w m (j, l, p) = subst (λ (v : List Action). Marked k v) (append_assoc w (action_in r x) (actions_of r xs)) (walked xs j k (w ++ action_in r x) (marks.next i j w x m l) p)

    still_marked : (w : List Action) (i : ℕ) → Still ss r w i → Marked i w
    still_marked w i s = subst (Marked i) s.actions (walked s.path 0 i [] marks.begin s.is_path)

    at_marked : (w : List Action) (j : ℕ) → At ss r w j → Marked j w
    at_marked w j (inl (e, z)) = subst (λ (i : ℕ). Marked i w) (sym z) (subst (Marked 0) (sym e) marks.begin)
    at_marked w j (inr a) =
        subst (Marked j) (ap (λ (v : List Action). a.before ++ v) a.does ∙ sym a.parts) (marks.next a.from j a.before a.exchange (still_marked a.before a.from a.still) a.leads)

    one_set : (S : ℕ → Type 0) → Differ S S → ⊥
    one_set S (i, inl (h, n)) = n h
    one_set S (i, inr (h, n)) = n h

    few_enough : AreFew → HasTooMany ss r → ⊥
    few_enough few many =
        five (number 0 (omega arith)) (number 1 (omega arith)) (number 2 (omega arith)) (number 3 (omega arith)) (number 4 (omega arith))
        (small 0 (omega arith)) (small 1 (omega arith)) (small 2 (omega arith)) (small 3 (omega arith)) (small 4 (omega arith))
        (apart 0 1 (omega arith) (omega arith) (omega arith)) (apart 0 2 (omega arith) (omega arith) (omega arith)) (apart 0 3 (omega arith) (omega arith) (omega arith)) (apart 0 4 (omega arith) (omega arith) (omega arith))
        (apart 1 2 (omega arith) (omega arith) (omega arith)) (apart 1 3 (omega arith) (omega arith) (omega arith)) (apart 1 4 (omega arith) (omega arith) (omega arith))
        (apart 2 3 (omega arith) (omega arith) (omega arith)) (apart 2 4 (omega arith) (omega arith) (omega arith)) (apart 3 4 (omega arith) (omega arith) (omega arith))
      where
        mark : (k : ℕ) (l : k < 1025) → Marked (many.somewhere k l).0 (many.actions k)
        mark k l = at_marked (many.actions k) (many.somewhere k l).0 (many.somewhere k l).1

        number : (k : ℕ) → k < 1025 → ℕ
        number k l = few.number (many.somewhere k l).0 (many.actions k) (mark k l)

        small : (k : ℕ) (l : k < 1025) → number k l < 4
        small k l = few.below (many.somewhere k l).0 (many.actions k) (mark k l)

        apart : (k m : ℕ) (l : k < 1025) (h : m < 1025) → k < m → number k l ≡ number m h → ⊥
        apart k m l h lt e =
            let same = few.same (many.somewhere k l).0 (many.somewhere m h).0 (many.actions k) (many.actions m) (mark k l) (mark m h) e in
            one_set (At ss r (many.actions m)) (subst (λ (v : List Action). Differ (At ss r v) (At ss r (many.actions m))) same (many.apart k m lt h))

    up : GoesOn ss → (xs : List Exchange) (i k : ℕ) → IsPath ss i xs k → i ≤ k
    up on [] i k p = omega (arith, p)
    up on (x ∷ xs) i k (j, l, p) = let lt = on i j x l in let le = up on xs j k p in omega arith

    no_circle : GoesOn ss → LeavesBehind ss r → ⊥
    no_circle on b = go b.is_circle
      where
        go : IsPath ss b.circling (b.first ∷ b.circle) b.circling → ⊥
        go (j, l, p) = let lt = on b.circling j b.first l in let le = up on b.circle j b.circling p in absurd (omega arith)

    pub no_view_fault : AreFew → GoesOn ss → AreClear → HasNoViewFault ss r
    no_view_fault few on clear = record {
      few = few_enough few;
      kept = no_circle on;
      clear = λ c. clear c.first c.second c.actions c.one c.other (still_marked c.actions c.first c.is_still) (still_marked c.actions c.second c.also_still) c.is_one c.is_other c.is_apart;
    }
