-- A list of distinct numbers is completed to a permutation: the other numbers follow, in ascending order.
use Rattle.std.proofs.Common.{◌≡◌, ℕ, zero, suc, ◌<◌, ◌+◌, Bool, true, false, List, [], ◌∷◌, ◌++◌, refl, sym, ap, ◌∙◌, subst, arith, append_assoc, append-nil, inl, inr, ◌⊎◌, if◌then◌else◌}
use Rattle.std.proofs.lemmas.Bool.{cases_order, true≢false}
use Rattle.event_orders.specs.Orders.{IsPermutationBelow}
use Rattle.event_orders.proofs.Numbers.{occurs, occurs-append, occurs_self, occurs_other, member_occurs, cut, order_has, order_below}

-- the list has numbers below n alone, each at most once
abbrev pub AreDistinctBelow : ℕ → List ℕ → Type 0
AreDistinctBelow zero d = d ≡ []
AreDistinctBelow (suc n) d = AreDistinctBelow n d ⊎ ((u : List ℕ) × (v : List ℕ) × (d ≡ u ++ n ∷ v) × AreDistinctBelow n (u ++ v))

-- a prefix of a permutation is such a list
pub prefix_distinct : (n : ℕ) (d r : List ℕ) → IsPermutationBelow n (d ++ r) → AreDistinctBelow n d
prefix_distinct zero [] r order = refl
prefix_distinct zero (x ∷ d) r order = absurd (let c : occurs x (x ∷ (d ++ r)) ≡ 0 = ap (occurs x) order in let s = occurs_self x (d ++ r) in omega arith)
prefix_distinct (suc n) d r order = go (cut order.0 order.1 d r n (sym order.2)) (λ d' r' o. prefix_distinct n d' r' o)
  where
    go : ((s : List ℕ) × (d ≡ order.0 ++ n ∷ s) × (order.1 ≡ s ++ r)) ⊎ ((s : List ℕ) × (order.0 ≡ d ++ s) × (r ≡ s ++ n ∷ order.1)) → ((d' r' : List ℕ) → IsPermutationBelow n (d' ++ r') → AreDistinctBelow n d') → AreDistinctBelow (suc n) d
    go (inl (s, p, q)) more = inr (order.0, s, p, more (order.0 ++ s) r (subst (IsPermutationBelow n) (ap (λ z. order.0 ++ z) q ∙ sym (append_assoc order.0 s r)) order.3))
    go (inr (s, p, q)) more = inl (more d (s ++ order.1) (subst (IsPermutationBelow n) (ap (λ z. z ++ order.1) p ∙ append_assoc d s order.1) order.3))

-- the numbers below n that pass a test, in ascending order
abbrev pub chosen : (ℕ → Bool) → ℕ → List ℕ
chosen f zero = []
chosen f (suc n) = if f n then chosen f n ++ n ∷ [] else chosen f n

pub chosen_distinct : (f : ℕ → Bool) (n : ℕ) → AreDistinctBelow n (chosen f n)
chosen_distinct f zero = refl
chosen_distinct f (suc n) = go (f n) (chosen_distinct f n)
  where
    go : (b : Bool) → AreDistinctBelow n (chosen f n) → AreDistinctBelow (suc n) (if b then chosen f n ++ n ∷ [] else chosen f n)
    go true more = inr (chosen f n, [], refl, subst (AreDistinctBelow n) (sym (append-nil (chosen f n))) more)
    go false more = inl more

pub distinct_below : (n : ℕ) (d : List ℕ) → AreDistinctBelow n d → (i : ℕ) → 0 < occurs i d → i < n
distinct_below zero d part i lt = absurd (let c : occurs i d ≡ 0 = ap (occurs i) part in omega arith)
distinct_below (suc n) d (inl part) i lt = let c = distinct_below n d part i lt in omega arith
distinct_below (suc n) d (inr (u, v, is, part)) i lt = go (cases_order i n) (distinct_below n (u ++ v) part i)
  where
    go : (i ≡ n) ⊎ ((i < n) ⊎ (n < i)) → (0 < occurs i (u ++ v) → i < n) → i < suc n
    go (inl e) more = omega arith
    go (inr (inl l)) more = omega arith
    go (inr (inr l)) more =
        let a : occurs i d ≡ occurs i u + occurs i (n ∷ v) = ap (occurs i) is ∙ occurs-append i u (n ∷ v) in
        let b : occurs i (n ∷ v) ≡ occurs i v = occurs_other i n v (λ same. omega arith) in
        let c = occurs-append i u v in
        let d' = more (omega arith) in
        omega arith

-- ---- what the test says of the numbers

pub chosen_below : (f : ℕ → Bool) (n i : ℕ) → 0 < occurs i (chosen f n) → i < n
chosen_below f n i lt = distinct_below n (chosen f n) (chosen_distinct f n) i lt

pub chosen_passes : (f : ℕ → Bool) (n i : ℕ) → 0 < occurs i (chosen f n) → f i ≡ true
chosen_passes f zero i lt = absurd (omega arith)
chosen_passes f (suc n) i lt = go (f n) refl lt (λ k. chosen_passes f n i k)
  where
    go : (b : Bool) → f n ≡ b → 0 < occurs i (if b then chosen f n ++ n ∷ [] else chosen f n) → (0 < occurs i (chosen f n) → f i ≡ true) → f i ≡ true
    go false e k more = more k
    go true e k more = at_end (cases_order i n)
      where
        c : occurs i (chosen f n ++ n ∷ []) ≡ occurs i (chosen f n) + occurs i (n ∷ [])
        c = occurs-append i (chosen f n) (n ∷ [])

        at_end : (i ≡ n) ⊎ ((i < n) ⊎ (n < i)) → f i ≡ true
        at_end (inl same) = ap f same ∙ e
        at_end (inr (inl l)) = let o : occurs i (n ∷ []) ≡ 0 = occurs_other i n [] (λ same. omega arith) in let w = c in more (omega arith)
        at_end (inr (inr l)) = let o : occurs i (n ∷ []) ≡ 0 = occurs_other i n [] (λ same. omega arith) in let w = c in more (omega arith)

pub chosen_has : (f : ℕ → Bool) (n i : ℕ) → i < n → f i ≡ true → 0 < occurs i (chosen f n)
chosen_has f zero i lt h = absurd (omega arith)
chosen_has f (suc n) i lt h = go (f n) refl (λ k. chosen_has f n i k h)
  where
    go : (b : Bool) → f n ≡ b → (i < n → 0 < occurs i (chosen f n)) → 0 < occurs i (if b then chosen f n ++ n ∷ [] else chosen f n)
    go b e more = at (cases_order i n) b e
      where
        at : (i ≡ n) ⊎ ((i < n) ⊎ (n < i)) → (c : Bool) → f n ≡ c → 0 < occurs i (if c then chosen f n ++ n ∷ [] else chosen f n)
        at (inl same) true g = let a = occurs-append i (chosen f n) (n ∷ []) in let o : occurs i (n ∷ []) ≡ 1 = ap (λ z. occurs i (z ∷ [])) (sym same) ∙ occurs_self i [] in omega arith
        at (inl same) false g = absurd (true≢false (sym h ∙ ap f same ∙ g))
        at (inr (inl l)) true g = let a = occurs-append i (chosen f n) (n ∷ []) in let m = more l in omega arith
        at (inr (inl l)) false g = more l
        at (inr (inr l)) c g = absurd (omega arith)

-- all lesser numbers that pass come before a number that passes
pub chosen_before : (f : ℕ → Bool) (n : ℕ) (a : List ℕ) (j : ℕ) (b : List ℕ) → chosen f n ≡ a ++ j ∷ b → (i : ℕ) → i < j → f i ≡ true → 0 < occurs i a
chosen_before f zero a j b is i lt h = absurd (let c = member_occurs j a b in let d : 0 ≡ occurs j (a ++ j ∷ b) = ap (occurs j) is in omega arith)
chosen_before f (suc n) a j b is i lt h = go (f n) is (λ a' j' b' k l. chosen_before f n a' j' b' k i l h)
  where
    go : (c : Bool) → (if c then chosen f n ++ n ∷ [] else chosen f n) ≡ a ++ j ∷ b → ((a' : List ℕ) (j' : ℕ) (b' : List ℕ) → chosen f n ≡ a' ++ j' ∷ b' → i < j' → 0 < occurs i a') → 0 < occurs i a
    go false k more = more a j b k lt
    go true k more = at (cut a b (chosen f n) (n ∷ []) j (sym k))
      where
        last : (r : List ℕ) → a ≡ chosen f n ++ r → n ∷ [] ≡ r ++ j ∷ b → 0 < occurs i a
        last [] p q =
            let same : n ≡ j = cc in
            let c = chosen_has f n i (omega arith) h in
            let d : occurs i a ≡ occurs i (chosen f n) = ap (occurs i) (p ∙ append-nil (chosen f n)) in
            omega arith
        last (y ∷ r) p q = let none : [] ≡ r ++ j ∷ b = cc in absurd (let c = member_occurs j r b in let d : 0 ≡ occurs j (r ++ j ∷ b) = ap (occurs j) none in omega arith)

        at : ((r : List ℕ) × (chosen f n ≡ a ++ j ∷ r) × (b ≡ r ++ (n ∷ []))) ⊎ ((r : List ℕ) × (a ≡ chosen f n ++ r) × (n ∷ [] ≡ r ++ j ∷ b)) → 0 < occurs i a
        at (inl (r, p, q)) = more a j r p lt
        at (inr (r, p, q)) = last r p q

-- ---- the other numbers follow

pub record Completed (n : ℕ) (d : List ℕ) : Type 0 where
  pub rest : List ℕ
  pub order : IsPermutationBelow n (d ++ rest)
  pub all_before : (a : List ℕ) (j : ℕ) (b : List ℕ) → rest ≡ a ++ j ∷ b → (i : ℕ) → i < j → 0 < occurs i (d ++ a)
  pub ascends : (a : List ℕ) (j : ℕ) (b : List ℕ) → rest ≡ a ++ j ∷ b → (i : ℕ) → 0 < occurs i a → i < j

nothing : {A : Type 0} (a : List ℕ) (j : ℕ) (b : List ℕ) → [] ≡ a ++ j ∷ b → A
nothing a j b is = absurd (let c = member_occurs j a b in let d : 0 ≡ occurs j (a ++ j ∷ b) = ap (occurs j) is in omega arith)

-- n itself comes last
with_last : (n : ℕ) (d : List ℕ) → Completed n d → Completed (suc n) d
with_last n d c = record {
  rest = c.rest ++ n ∷ [];
  order = (d ++ c.rest, [], sym (append_assoc d c.rest (n ∷ [])), subst (IsPermutationBelow n) (sym (append-nil (d ++ c.rest))) c.order);
  all_before = all_before;
  ascends = ascends;
}
  where
    all_before : (a : List ℕ) (j : ℕ) (b : List ℕ) → c.rest ++ n ∷ [] ≡ a ++ j ∷ b → (i : ℕ) → i < j → 0 < occurs i (d ++ a)
    all_before a j b is i lt = go (cut a b c.rest (n ∷ []) j (sym is))
      where
        last : (r : List ℕ) → a ≡ c.rest ++ r → n ∷ [] ≡ r ++ j ∷ b → 0 < occurs i (d ++ a)
        last [] p q =
            let same : n ≡ j = cc in
            let e : occurs i (d ++ c.rest) ≡ 1 = order_has n (d ++ c.rest) c.order i (omega arith) in
            let f : occurs i (d ++ a) ≡ occurs i (d ++ c.rest) = ap (λ z. occurs i (d ++ z)) (p ∙ append-nil c.rest) in
            omega arith
        last (y ∷ r) p q = let none : [] ≡ r ++ j ∷ b = cc in nothing r j b none

        go : ((r : List ℕ) × (c.rest ≡ a ++ j ∷ r) × (b ≡ r ++ (n ∷ []))) ⊎ ((r : List ℕ) × (a ≡ c.rest ++ r) × (n ∷ [] ≡ r ++ j ∷ b)) → 0 < occurs i (d ++ a)
        go (inl (r, p, q)) = c.all_before a j r p i lt
        go (inr (r, p, q)) = last r p q

    ascends : (a : List ℕ) (j : ℕ) (b : List ℕ) → c.rest ++ n ∷ [] ≡ a ++ j ∷ b → (i : ℕ) → 0 < occurs i a → i < j
    ascends a j b is i lt = go (cut a b c.rest (n ∷ []) j (sym is))
      where
        last : (r : List ℕ) → a ≡ c.rest ++ r → n ∷ [] ≡ r ++ j ∷ b → i < j
        last [] p q =
            let same : n ≡ j = cc in
            let f : occurs i a ≡ occurs i c.rest = ap (occurs i) (p ∙ append-nil c.rest) in
            let g = occurs-append i d c.rest in
            let b' = order_below n (d ++ c.rest) c.order i (omega arith) in
            omega arith
        last (y ∷ r) p q = let none : [] ≡ r ++ j ∷ b = cc in nothing r j b none

        go : ((r : List ℕ) × (c.rest ≡ a ++ j ∷ r) × (b ≡ r ++ (n ∷ []))) ⊎ ((r : List ℕ) × (a ≡ c.rest ++ r) × (n ∷ [] ≡ r ++ j ∷ b)) → i < j
        go (inl (r, p, q)) = c.ascends a j r p i lt
        go (inr (r, p, q)) = last r p q

-- n itself is in the list
with_member : (n : ℕ) (d u v : List ℕ) → d ≡ u ++ n ∷ v → Completed n (u ++ v) → Completed (suc n) d
with_member n d u v is c = record {
  rest = c.rest;
  order = (u, v ++ c.rest, ap (λ z. z ++ c.rest) is ∙ append_assoc u (n ∷ v) c.rest, subst (IsPermutationBelow n) (append_assoc u v c.rest) c.order);
  all_before = λ a j b h i lt.
      let e = c.all_before a j b h i lt in
      let f = occurs-append i (u ++ v) a in
      let g = occurs-append i u v in
      let k = occurs-append i d a in
      let l : occurs i d ≡ occurs i u + occurs i (n ∷ v) = ap (occurs i) is ∙ occurs-append i u (n ∷ v) in
      omega arith;
  ascends = c.ascends;
}

pub complete : (n : ℕ) (d : List ℕ) → AreDistinctBelow n d → Completed n d
complete zero d part = record { rest = []; order = append-nil d ∙ part; all_before = λ a j b is. nothing a j b is; ascends = λ a j b is. nothing a j b is }
complete (suc n) d (inl part) = with_last n d (complete n d part)
complete (suc n) d (inr (u, v, is, part)) = with_member n d u v is (complete n (u ++ v) part)
