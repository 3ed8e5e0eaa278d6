-- The numbers of the events that pass a test.
use Rattle.std.proofs.Common.{◌≡◌, ◌≢◌, ℕ, zero, suc, ◌<◌, ◌≤◌, ◌+◌, Bool, true, false, cond, List, [], ◌∷◌, ◌++◌, length, take, filter, refl, sym, ap, ◌∙◌, Option, Some, None, arith, append-nil, inl, inr, ◌⊎◌}
use Rattle.std.specs.Prelude.{slice_get}
use Rattle.std.proofs.lemmas.Bool.{true≢false, cases_eq, cases_order}
use Rattle.chor_base.specs.declared.event.Event.{Event}
use Rattle.event_orders.specs.Orders.{permuted}
use Rattle.event_orders.proofs.Numbers.{listed_occurs, occurs_listed, occurs, occurs-append, occurs_self, occurs_other, member_occurs, cut}
use Rattle.event_orders.proofs.Counting.{take_next, event_at, permuted-append, permuted_at}
use Rattle.event_orders.proofs.Listed.{IsListed, IsAscending}

-- ---- numbers of the events that pass a test

abbrev pub passes : (Event → Bool) → Option Event → Bool
passes f None = false
passes f (Some x) = f x

-- those of the numbers whose events pass the test
abbrev pub selected : List Event → (Event → Bool) → List ℕ → List ℕ
selected h f [] = []
selected h f (i ∷ d) = cond (passes f (slice_get h i)) (i ∷ selected h f d) (selected h f d)

pub selected-append : (h : List Event) (f : Event → Bool) (a b : List ℕ) → selected h f (a ++ b) ≡ selected h f a ++ selected h f b
selected-append h f [] b = refl
selected-append h f (i ∷ a) b = go (passes f (slice_get h i)) (selected-append h f a b)
  where
    go : (c : Bool) → selected h f (a ++ b) ≡ selected h f a ++ selected h f b → cond c (i ∷ selected h f (a ++ b)) (selected h f (a ++ b)) ≡ cond c (i ∷ selected h f a) (selected h f a) ++ selected h f b
    go true more = ap (λ z. i ∷ z) more
    go false more = more

pub selected_fewer : (h : List Event) (f : Event → Bool) (d : List ℕ) (i : ℕ) → occurs i (selected h f d) ≤ occurs i d
selected_fewer h f [] i = omega arith
selected_fewer h f (j ∷ d) i = go (passes f (slice_get h j)) (selected_fewer h f d i)
  where
    go : (c : Bool) → occurs i (selected h f d) ≤ occurs i d → occurs i (cond c (j ∷ selected h f d) (selected h f d)) ≤ occurs i (j ∷ d)
    go true more = omega arith
    go false more = omega arith

pub selected_same : (h : List Event) (f : Event → Bool) (d : List ℕ) (i : ℕ) → passes f (slice_get h i) ≡ true → occurs i (selected h f d) ≡ occurs i d
selected_same h f [] i t = refl
selected_same h f (j ∷ d) i t = go (passes f (slice_get h j)) refl (selected_same h f d i t)
  where
    go : (c : Bool) → passes f (slice_get h j) ≡ c → occurs i (selected h f d) ≡ occurs i d → occurs i (cond c (j ∷ selected h f d) (selected h f d)) ≡ occurs i (j ∷ d)
    go true e more = omega arith
    go false e more = more ∙ sym (occurs_other i j d (λ same. true≢false (sym t ∙ ap (λ z. passes f (slice_get h z)) same ∙ e)))

-- where the selected numbers are cut, so are all numbers
pub selected_cut : (h : List Event) (f : Event → Bool) (d a : List ℕ) (j : ℕ) (b : List ℕ) → selected h f d ≡ a ++ j ∷ b → (a' : List ℕ) × (b' : List ℕ) × (d ≡ a' ++ j ∷ b') × (selected h f a' ≡ a)
selected_cut h f [] a j b is = absurd (let c = member_occurs j a b in let d : 0 ≡ occurs j (a ++ j ∷ b) = ap (occurs j) is in omega arith)
selected_cut h f (i ∷ d) a j b is = go (passes f (slice_get h i)) refl a is (λ a' k. selected_cut h f d a' j b k)
  where
    go : (c : Bool) → passes f (slice_get h i) ≡ c → (a : List ℕ) → cond c (i ∷ selected h f d) (selected h f d) ≡ a ++ j ∷ b → ((a' : List ℕ) → selected h f d ≡ a' ++ j ∷ b → (u : List ℕ) × (v : List ℕ) × (d ≡ u ++ j ∷ v) × (selected h f u ≡ a'))
        → (u : List ℕ) × (v : List ℕ) × (i ∷ d ≡ u ++ j ∷ v) × (selected h f u ≡ a)
    go false e a k more = let m = more a k in (i ∷ m.0, m.1, ap (λ z. i ∷ z) m.2, ap (λ c. cond c (i ∷ selected h f m.0) (selected h f m.0)) e ∙ m.3)
    go true e [] k more = let same : i ≡ j = cc in ([], d, ap (λ z. z ∷ d) same, refl)
    go true e (x ∷ a) k more =
        let first : i ≡ x = cc in
        let rest : selected h f d ≡ a ++ j ∷ b = cc in
        let m = more a rest in
        (i ∷ m.0, m.1, ap (λ z. i ∷ z) m.2, ap (λ c. cond c (i ∷ selected h f m.0) (selected h f m.0)) e ∙ ap (λ z. i ∷ z) m.3 ∙ ap (λ z. z ∷ a) first)

-- the numbers below n
abbrev pub below : ℕ → List ℕ
below zero = []
below (suc n) = below n ++ n ∷ []

pub below_occurs : (n i : ℕ) → ((i < n) × (occurs i (below n) ≡ 1)) ⊎ ((n ≤ i) × (occurs i (below n) ≡ 0))
below_occurs zero i = inr ((omega arith), refl)
below_occurs (suc n) i = go (below_occurs n i) (cases_eq i n)
  where
    c : occurs i (below n ++ n ∷ []) ≡ occurs i (below n) + occurs i (n ∷ [])
    c = occurs-append i (below n) (n ∷ [])

    go : ((i < n) × (occurs i (below n) ≡ 1)) ⊎ ((n ≤ i) × (occurs i (below n) ≡ 0)) → (i ≡ n) ⊎ (i ≡ n → ⊥) → ((i < suc n) × (occurs i (below n ++ n ∷ []) ≡ 1)) ⊎ ((suc n ≤ i) × (occurs i (below n ++ n ∷ []) ≡ 0))
    go (inl (lt, o)) (inl same) = absurd (omega arith)
    go (inl (lt, o)) (inr other) = let w = c in let d = occurs_other i n [] other in inl ((omega arith), omega arith)
    go (inr (le, o)) (inl same) = let w = c in let d : occurs i (n ∷ []) ≡ 1 = ap (λ z. occurs i (z ∷ [])) (sym same) ∙ occurs_self i [] in inl ((omega arith), omega arith)
    go (inr (le, o)) (inr other) = let w = c in let d = occurs_other i n [] other in let differ : i ≢ n = other in inr ((omega arith), omega arith)

-- among the selected numbers below n, the lesser ones come before j
pub below_prefix : (h : List Event) (f : Event → Bool) (n : ℕ) (a : List ℕ) (j : ℕ) (b : List ℕ) → selected h f (below n) ≡ a ++ j ∷ b → (i : ℕ) → i < j → passes f (slice_get h i) ≡ true → 0 < occurs i a
below_prefix h f n a j b is i lt t = go (selected_cut h f (below n) a j b is)
  where
    front : (m : ℕ) (u v : List ℕ) → below m ≡ u ++ j ∷ v → 0 < occurs i u
    front zero u v k = absurd (let c = member_occurs j u v in let d : 0 ≡ occurs j (u ++ j ∷ v) = ap (occurs j) k in omega arith)
    front (suc m) u v k = at (cut u v (below m) (m ∷ []) j (sym k)) (λ u' v' l. front m u' v' l)
      where
        last : (r : List ℕ) → u ≡ below m ++ r → m ∷ [] ≡ r ++ j ∷ v → 0 < occurs i u
        last [] p q =
            let same : m ≡ j = cc in
            let c : occurs i u ≡ occurs i (below m) = ap (occurs i) (p ∙ append-nil (below m)) in
            have (below_occurs m i) c same
          where
            have : ((i < m) × (occurs i (below m) ≡ 1)) ⊎ ((m ≤ i) × (occurs i (below m) ≡ 0)) → occurs i u ≡ occurs i (below m) → m ≡ j → 0 < occurs i u
            have (inl (l, o)) c same = omega arith
            have (inr (l, o)) c same = absurd (omega arith)
        last (y ∷ r) p q = let none : [] ≡ r ++ j ∷ v = cc in absurd (let c = member_occurs j r v in let d : 0 ≡ occurs j (r ++ j ∷ v) = ap (occurs j) none in omega arith)

        at : ((r : List ℕ) × (below m ≡ u ++ j ∷ r) × (v ≡ r ++ (m ∷ []))) ⊎ ((r : List ℕ) × (u ≡ below m ++ r) × (m ∷ [] ≡ r ++ j ∷ v)) → ((u' v' : List ℕ) → below m ≡ u' ++ j ∷ v' → 0 < occurs i u') → 0 < occurs i u
        at (inl (r, p, q)) more = more u r p
        at (inr (r, p, q)) more = last r p q

    go : (a' : List ℕ) × (b' : List ℕ) × (below n ≡ a' ++ j ∷ b') × (selected h f a' ≡ a) → 0 < occurs i a
    go (a', b', p, q) =
        let c = front n a' b' p in
        let d : occurs i a ≡ occurs i a' = ap (occurs i) (sym q) ∙ selected_same h f a' i t in
        omega arith

-- ---- the events with the selected numbers

abbrev pub AllThere : List Event → List ℕ → Type 0
AllThere h d = (i : ℕ) → 0 < occurs i d → i < length h

pub filter-append : (f : Event → Bool) (xs ys : List Event) → filter f (xs ++ ys) ≡ filter f xs ++ filter f ys
filter-append f [] ys = refl
filter-append f (x ∷ xs) ys = go (f x) (filter-append f xs ys)
  where
    go : (c : Bool) → filter f (xs ++ ys) ≡ filter f xs ++ filter f ys → cond c (x ∷ filter f (xs ++ ys)) (filter f (xs ++ ys)) ≡ cond c (x ∷ filter f xs) (filter f xs) ++ filter f ys
    go true more = ap (λ z. x ∷ z) more
    go false more = more

pub below_all : (h : List Event) (f : Event → Bool) (n : ℕ) → n ≤ length h → permuted h (selected h f (below n)) ≡ filter f (take n h)
below_all h f zero le = refl
below_all h f (suc n) le =
    let x = event_at h n le in
    ap (permuted h) (selected-append h f (below n) (n ∷ []))
    ∙ permuted-append h (selected h f (below n)) (selected h f (n ∷ []))
    ∙ ap (λ z. z ++ permuted h (selected h f (n ∷ []))) (below_all h f n (omega arith))
    ∙ ap (λ z. filter f (take n h) ++ z) (one x.0 x.1)
    ∙ sym (filter-append f (take n h) (x.0 ∷ []))
    ∙ ap (filter f) (sym (take_next h n x.0 x.1))
  where
    one : (x : Event) → slice_get h n ≡ Some x → permuted h (selected h f (n ∷ [])) ≡ filter f (x ∷ [])
    one x there = go (f x) refl
      where
        test : passes f (slice_get h n) ≡ f x
        test = ap (passes f) there

        go : (c : Bool) → f x ≡ c → permuted h (cond (passes f (slice_get h n)) (n ∷ []) []) ≡ cond (f x) (x ∷ []) []
        go true e = ap (λ c. permuted h (cond c (n ∷ []) [])) (test ∙ e) ∙ permuted_at h n [] x there ∙ ap (λ c. cond c (x ∷ []) []) (sym e)
        go false e = ap (λ c. permuted h (cond c (n ∷ []) [])) (test ∙ e) ∙ ap (λ c. cond c (x ∷ []) []) (sym e)

-- the events with the selected numbers pass
pub selected_passes : (h : List Event) (f : Event → Bool) (d : List ℕ) (i : ℕ) → IsListed i (selected h f d) → passes f (slice_get h i) ≡ true
selected_passes h f [] i l = absurd l
selected_passes h f (j ∷ d) i l = go (passes f (slice_get h j)) refl l (λ k. selected_passes h f d i k)
  where
    go : (c : Bool) → passes f (slice_get h j) ≡ c → IsListed i (cond c (j ∷ selected h f d) (selected h f d)) → (IsListed i (selected h f d) → passes f (slice_get h i) ≡ true) → passes f (slice_get h i) ≡ true
    go true e (inl same) more = ap (λ z. passes f (slice_get h z)) same ∙ e
    go true e (inr m) more = more m
    go false e m more = more m

pub below_ascends : (h : List Event) (f : Event → Bool) (n : ℕ) → IsAscending (selected h f (below n))
below_ascends h f n = by_pairs (selected h f (below n)) pairs
  where
    by_pairs : (xs : List ℕ) → ((u : List ℕ) (i : ℕ) (v : List ℕ) → xs ≡ u ++ i ∷ v → (j : ℕ) → IsListed j v → i < j) → IsAscending xs
    by_pairs [] p = tt
    by_pairs (x ∷ xs) p = ((λ j l. p [] x xs refl j l), by_pairs xs (λ u i v w. p (x ∷ u) i v (ap (λ z. x ∷ z) w)))

    pairs : (u : List ℕ) (i : ℕ) (v : List ℕ) → selected h f (below n) ≡ u ++ i ∷ v → (j : ℕ) → IsListed j v → i < j
    pairs u i v is j l = at (cases_order i j)
      where
        whole : occurs j (selected h f (below n)) ≡ occurs j u + occurs j (i ∷ v)
        whole = ap (occurs j) is ∙ occurs-append j u (i ∷ v)

        in_it : IsListed j (selected h f (below n))
        in_it = occurs_listed j (selected h f (below n)) (let c = whole in let d = listed_occurs j v l in omega arith)

        once : occurs j (selected h f (below n)) ≤ 1
        once = few (below_occurs n j)
          where
            few : ((j < n) × (occurs j (below n) ≡ 1)) ⊎ ((n ≤ j) × (occurs j (below n) ≡ 0)) → occurs j (selected h f (below n)) ≤ 1
            few (inl (a, o)) = let p = selected_fewer h f (below n) j in omega arith
            few (inr (a, o)) = let p = selected_fewer h f (below n) j in omega arith

        at : (i ≡ j) ⊎ ((i < j) ⊎ (j < i)) → i < j
        at (inl same) =
            let c = whole in
            let d = listed_occurs j v l in
            let s : occurs j (i ∷ v) ≡ suc (occurs j v) = ap (λ z. occurs j (z ∷ v)) same ∙ occurs_self j v in
            let o = once in
            absurd (omega arith)
        at (inr (inl lt)) = lt
        at (inr (inr lt)) =
            let f = below_prefix h f n u i v is j lt (selected_passes h f (below n) j in_it) in
            let c = whole in
            let d = listed_occurs j v l in
            let o = once in
            absurd (omega arith)

-- the events with the selected numbers are the permuted events that pass
pub selected_filter : (h : List Event) (f : Event → Bool) (d : List ℕ) → AllThere h d → permuted h (selected h f d) ≡ filter f (permuted h d)
selected_filter h f [] there = refl
selected_filter h f (i ∷ d) there = go (event_at h i (there i (let s = occurs_self i d in omega arith))) (selected_filter h f d (λ j lt. there j (omega arith)))
  where
    go : (x : Event) × (slice_get h i ≡ Some x) → permuted h (selected h f d) ≡ filter f (permuted h d) → permuted h (selected h f (i ∷ d)) ≡ filter f (permuted h (i ∷ d))
    go (x, at) more = ap (λ c. permuted h (cond c (i ∷ selected h f d) (selected h f d))) (ap (passes f) at) ∙ by (f x) refl ∙ ap (filter f) (sym (permuted_at h i d x at))
      where
        by : (c : Bool) → f x ≡ c → permuted h (cond (f x) (i ∷ selected h f d) (selected h f d)) ≡ cond (f x) (x ∷ filter f (permuted h d)) (filter f (permuted h d))
        by true e = ap (λ c. permuted h (cond c (i ∷ selected h f d) (selected h f d))) e ∙ permuted_at h i (selected h f d) x at ∙ ap (λ z. x ∷ z) more ∙ ap (λ c. cond c (x ∷ filter f (permuted h d)) (filter f (permuted h d))) (sym e)
        by false e = ap (λ c. permuted h (cond c (i ∷ selected h f d) (selected h f d))) e ∙ more ∙ ap (λ c. cond c (x ∷ filter f (permuted h d)) (filter f (permuted h d))) (sym e)
