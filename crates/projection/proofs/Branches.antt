-- The least branch of two labels.
use Rattle.std.proofs.Common.{◌≡◌, ℕ, ◌==◌, ◌||◌, Bool, true, false, [], ◌∷◌, refl, sym, ap, ◌∙◌, ◌⊎◌, inl, inr, arith}
use Rattle.std.specs.Prelude.{All}
use Rattle.std.proofs.lemmas.List.Elements.{All-nil, All-cons, All-head, All-tail}
use Rattle.std.proofs.lemmas.Bool.Decides.{nat_tests}
use Rattle.chor_base.specs.declared.names.NameId.{NameId}
use Rattle.endpoint_code.specs.Trees.{Action, CodeTree, Does, Offers, Arms, NoArms, Arm}
use Rattle.endpoint_code.specs.Above.{IsAbove, does, offers, AreAbove, no_arm, one_arm, HasAbove, first, later}
use Rattle.endpoint_code.specs.Labels.{HasDistinctLabels}
use Rattle.endpoint_code.specs.LeastAbove.{IsLeastAbove}
use Rattle.endpoint_code.proofs.AboveOrder.{above_self}

-- two codes
pub both : (P : CodeTree → Type 0) (c d : CodeTree) → P c → P d → All P (c ∷ d ∷ [])
both P c d h g = All-cons P c (d ∷ []) h (All-cons P d [] g (All-nil P))

pub first_of_both : (P : CodeTree → Type 0) (c d : CodeTree) → All P (c ∷ d ∷ []) → P c
first_of_both P c d h = All-head P c (d ∷ []) h

pub second_of_both : (P : CodeTree → Type 0) (c d : CodeTree) → All P (c ∷ d ∷ []) → P d
second_of_both P c d h = All-head P d [] (All-tail P c (d ∷ []) h)

arms_of : {k a h b : NameId} {qs ps : Arms} → IsAbove (Offers k a qs) (Offers h b ps) → AreAbove qs ps
arms_of (offers x) = x

its_first : {qs ps : Arms} {l : NameId} {p : CodeTree} → AreAbove qs (Arm l p ps) → HasAbove qs l p
its_first (one_arm h x) = h

-- codes below one code begin with the same action
pub same_action : {x q p : CodeTree} {a b : Action} → IsAbove x (Does a q) → IsAbove x (Does b p) → a ≡ b
same_action (does u) v = begins v
  where
    begins : {a b : Action} {q p : CodeTree} → IsAbove (Does a q) (Does b p) → a ≡ b
    begins (does u) = refl

-- an arm's label is one of those above
one_label : {k l : NameId} {q p : CodeTree} → HasAbove (Arm k q NoArms) l p → k ≡ l
one_label (first a) = refl
one_label (later h) = elim h [ ]

only_label : {k a h b n l : NameId} {q p : CodeTree} → IsAbove (Offers k a (Arm n q NoArms)) (Offers h b (Arm l p NoArms)) → n ≡ l
only_label (offers (one_arm g x)) = one_label g

pub two_labels : {k m l : NameId} {q s p : CodeTree} → HasAbove (Arm k q (Arm m s NoArms)) l p → (k ≡ l) ⊎ (m ≡ l)
two_labels (first a) = inl refl
two_labels (later h) = inr (one_label h)

first_label : {k a h b m s n : NameId} {c d q : CodeTree} {qs : Arms} → IsAbove (Offers k a (Arm m c (Arm s d NoArms))) (Offers h b (Arm n q qs)) → (m ≡ n) ⊎ (s ≡ n)
first_label (offers (one_arm g x)) = two_labels g

same : (n : ℕ) → (n == n) ≡ true
same n = grind (arith, nat_tests)

-- a label that is there isn't absent
there : (n l : NameId) (b : Bool) → l ≡ n → ((n.0 == l.0) || b) ≡ false → ⊥
there n l b e h = clash (ap (λ k. (n.0 == k.0) || b) (sym e) ∙ h)
  where
    clash : ((n.0 == n.0) || b) ≡ false → ⊥
    clash h = let t : (n.0 == n.0) ≡ true = same n.0 in let f : true ≡ false = sym (ap (λ u. u || b) t) ∙ h in cc

elsewhere : (n l : NameId) (b : Bool) → ((n.0 == l.0) || b) ≡ false → b ≡ false
elsewhere n l b h = go (n.0 == l.0) h
  where
    go : (u : Bool) → (u || b) ≡ false → b ≡ false
    go true g = absurd cc
    go false g = g

-- labels l and m of one session and sender, each with its code
module _ (k a l m : NameId) (c d : CodeTree) (apart : (l.0 == m.0) ≡ false) (distinct_c : HasDistinctLabels c) (distinct_d : HasDistinctLabels d) where
  abbrev pub one : CodeTree
  one = Offers k a (Arm l c NoArms)

  abbrev pub other : CodeTree
  other = Offers k a (Arm m d NoArms)

  abbrev pub two : CodeTree
  two = Offers k a (Arm l c (Arm m d NoArms))

  two_distinct : HasDistinctLabels two
  two_distinct = (ap (λ u. u || false) apart, distinct_c, (refl, distinct_d, tt))

  two_above : All (λ q. IsAbove two q) (other ∷ one ∷ [])
  two_above = both (IsAbove two) other one (offers (one_arm (later (first (above_self d))) no_arm)) (offers (one_arm (first (above_self c)) no_arm))

  below_all : {r : CodeTree} → IsAbove r other → IsAbove r one → IsAbove r two
  below_all (offers x) y = offers (one_arm (its_first (arms_of y)) (one_arm (its_first x) no_arm))

  pub least_two : IsLeastAbove (other ∷ one ∷ []) two
  least_two = record {
    distinct = two_distinct;
    above = two_above;
    least = λ r e h. below_all (first_of_both (IsAbove r) other one h) (second_of_both (IsAbove r) other one h);
  }

  pub not_one : {h b n : NameId} {q : CodeTree} → IsLeastAbove (other ∷ one ∷ []) (Offers h b (Arm n q NoArms)) → ⊥
  not_one {h = h} {b = b} {n = n} {q = q} least =
      let P = IsAbove (Offers h b (Arm n q NoArms)) in
      let above_other : P other = first_of_both P other one least.above in
      let above_one : P one = second_of_both P other one least.above in
      let is_m : n ≡ m = only_label above_other in
      let is_l : n ≡ l = only_label above_one in
      there l m false (sym is_m ∙ is_l) (ap (λ u. u || false) apart)

  pub not_three : {h b n : NameId} {q : CodeTree} → IsLeastAbove (other ∷ one ∷ []) (Offers h b (Arm n q (Arm l c (Arm m d NoArms)))) → ⊥
  not_three {n = n} least = go (first_label (least.least two two_distinct two_above))
    where
      go : (l ≡ n) ⊎ (m ≡ n) → ⊥
      go (inl e) = there n l ((n.0 == m.0) || false) e least.distinct.0
      go (inr e) = there n m false e (elsewhere n l ((n.0 == m.0) || false) least.distinct.0)
