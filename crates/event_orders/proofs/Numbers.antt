-- Lists of numbers: how often a number occurs in them, where they are cut, and permutations.
use Rattle.std.proofs.Common.{◌≡◌, ◌≢◌, ℕ, zero, suc, ◌<◌, ◌≤◌, ◌+◌, Bool, true, false, ◌==◌, nat_lt, List, [], ◌∷◌, ◌++◌, refl, sym, ap, ◌∙◌, inl, inr, ◌⊎◌, arith, append_assoc}
use Rattle.std.proofs.lemmas.Bool.{eqb-true, eq-eqb, ne_eqb, ltb-true, lt-ltb, le-ltb, cases_order, cases_eq}
use Rattle.event_orders.specs.EventKinds.{one_if}
use Rattle.event_orders.specs.Orders.{IsPermutationBelow, IsBefore}
use Rattle.event_orders.proofs.Listed.{IsListed}

abbrev pub occurs : ℕ → List ℕ → ℕ
occurs i [] = 0
occurs i (x ∷ xs) = one_if (i == x) + occurs i xs

pub occurs-append : (i : ℕ) (a b : List ℕ) → occurs i (a ++ b) ≡ occurs i a + occurs i b
occurs-append i [] b = omega arith
occurs-append i (x ∷ a) b = let more = occurs-append i a b in omega arith

pub occurs_self : (i : ℕ) (b : List ℕ) → occurs i (i ∷ b) ≡ suc (occurs i b)
occurs_self i b = let one : one_if (i == i) ≡ 1 = ap one_if (eq-eqb i i refl) in omega arith

pub occurs_other : (i j : ℕ) (b : List ℕ) → (i ≡ j → ⊥) → occurs i (j ∷ b) ≡ occurs i b
occurs_other i j b h = let none : one_if (i == j) ≡ 0 = ap one_if (ne_eqb i j h) in omega arith

-- a number is in a list
abbrev pub IsMember : ℕ → List ℕ → Type 0
IsMember i xs = (a : List ℕ) × (b : List ℕ) × (xs ≡ a ++ i ∷ b)

pub member_at : (i : ℕ) (xs : List ℕ) → 0 < occurs i xs → IsMember i xs
member_at i [] h = absurd (omega arith)
member_at i (x ∷ xs) h = go (i == x) refl (λ k. member_at i xs k)
  where
    go : (b : Bool) → (i == x) ≡ b → (0 < occurs i xs → IsMember i xs) → IsMember i (x ∷ xs)
    go true e more = ([], xs, ap (λ z. z ∷ xs) (sym (eqb-true i x e)))
    go false e more = let f : one_if (i == x) ≡ 0 = ap one_if e in let t = more (omega arith) in (x ∷ t.0, t.1, ap (λ z. x ∷ z) t.2)

pub member_occurs : (i : ℕ) (a b : List ℕ) → 0 < occurs i (a ++ i ∷ b)
member_occurs i a b = omega (arith, occurs-append i a (i ∷ b), occurs_self i b)

-- a list that is cut in two ways
pub cut : {X : Type 0} (a b c d : List X) (i : X) → a ++ i ∷ b ≡ c ++ d
    → ((r : List X) × (c ≡ a ++ i ∷ r) × (b ≡ r ++ d)) ⊎ ((r : List X) × (a ≡ c ++ r) × (d ≡ r ++ i ∷ b))
cut a b [] d i h = inr (a, refl, sym h)
cut [] b (y ∷ c) d i h = let first : i ≡ y = cc in let rest : b ≡ c ++ d = cc in inl (c, ap (λ z. z ∷ c) (sym first), rest)
cut {X} (x ∷ a) b (y ∷ c) d i h = go (cut a b c d i rest)
  where
    first : x ≡ y
    first = cc

    rest : a ++ i ∷ b ≡ c ++ d
    rest = cc

    go : ((r : List X) × (c ≡ a ++ i ∷ r) × (b ≡ r ++ d)) ⊎ ((r : List X) × (a ≡ c ++ r) × (d ≡ r ++ i ∷ b))
        → ((r : List X) × (y ∷ c ≡ x ∷ (a ++ i ∷ r)) × (b ≡ r ++ d)) ⊎ ((r : List X) × (x ∷ a ≡ y ∷ (c ++ r)) × (d ≡ r ++ i ∷ b))
    go (inl (r, p, q)) = inl (r, ap (λ z. y ∷ z) p ∙ ap (λ z. z ∷ (a ++ i ∷ r)) (sym first), q)
    go (inr (r, p, q)) = inr (r, ap (λ z. x ∷ z) p ∙ ap (λ z. z ∷ (c ++ r)) first, q)

-- ---- permutations

pub order_occurs : (n : ℕ) (o : List ℕ) → IsPermutationBelow n o → (i : ℕ) → occurs i o ≡ one_if (nat_lt i n)
order_occurs zero o h i = ap (occurs i) h ∙ sym (ap one_if (le-ltb i 0 (omega arith)))
order_occurs (suc n) o h i =
    let whole : occurs i o ≡ occurs i h.0 + occurs i (n ∷ h.1) = ap (occurs i) h.2 ∙ occurs-append i h.0 (n ∷ h.1) in
    let others : occurs i h.0 + occurs i h.1 ≡ one_if (nat_lt i n) = sym (occurs-append i h.0 h.1) ∙ order_occurs n (h.0 ++ h.1) h.3 i in
    go (cases_order i n) whole others
  where
    go : (i ≡ n) ⊎ ((i < n) ⊎ (n < i)) → occurs i o ≡ occurs i h.0 + occurs i (n ∷ h.1) → occurs i h.0 + occurs i h.1 ≡ one_if (nat_lt i n) → occurs i o ≡ one_if (nat_lt i (suc n))
    go (inl e) w r =
        let a : one_if (i == n) ≡ 1 = ap one_if (eq-eqb i n e) in
        let b : one_if (nat_lt i n) ≡ 0 = ap one_if (le-ltb i n (omega arith)) in
        let c : one_if (nat_lt i (suc n)) ≡ 1 = ap one_if (lt-ltb i (suc n) (omega arith)) in
        omega arith
    go (inr (inl l)) w r =
        let a : one_if (i == n) ≡ 0 = ap one_if (ne_eqb i n (λ e. omega arith)) in
        let b : one_if (nat_lt i n) ≡ 1 = ap one_if (lt-ltb i n l) in
        let c : one_if (nat_lt i (suc n)) ≡ 1 = ap one_if (lt-ltb i (suc n) (omega arith)) in
        omega arith
    go (inr (inr l)) w r =
        let a : one_if (i == n) ≡ 0 = ap one_if (ne_eqb i n (λ e. omega arith)) in
        let b : one_if (nat_lt i n) ≡ 0 = ap one_if (le-ltb i n (omega arith)) in
        let c : one_if (nat_lt i (suc n)) ≡ 0 = ap one_if (le-ltb i (suc n) (omega arith)) in
        omega arith

pub order_has : (n : ℕ) (o : List ℕ) → IsPermutationBelow n o → (i : ℕ) → i < n → occurs i o ≡ 1
order_has n o h i lt = order_occurs n o h i ∙ ap one_if (lt-ltb i n lt)

pub order_once : (n : ℕ) (o : List ℕ) → IsPermutationBelow n o → (i : ℕ) → occurs i o ≤ 1
order_once n o h i = go (nat_lt i n) (order_occurs n o h i)
  where
    go : (b : Bool) → occurs i o ≡ one_if b → occurs i o ≤ 1
    go true e = omega arith
    go false e = omega arith

pub order_below : (n : ℕ) (o : List ℕ) → IsPermutationBelow n o → (i : ℕ) → 0 < occurs i o → i < n
order_below n o h i lt = go (nat_lt i n) refl (order_occurs n o h i)
  where
    go : (b : Bool) → nat_lt i n ≡ b → occurs i o ≡ one_if b → i < n
    go true e k = ltb-true i n e
    go false e k = absurd (omega arith)

-- what is in the list before j comes before it
pub before_from : (o a b : List ℕ) (i j : ℕ) → o ≡ a ++ j ∷ b → 0 < occurs i a → IsBefore o i j
before_from o a b i j h lt =
    let t : IsMember i a = member_at i a lt in
    (t.0, t.1, b, h ∙ ap (λ z. z ++ j ∷ b) t.2 ∙ append_assoc t.0 (i ∷ t.1) (j ∷ b))

-- what comes before j is in the list before it
pub before_in : (n : ℕ) (o : List ℕ) → IsPermutationBelow n o → (a b : List ℕ) (i j : ℕ) → o ≡ a ++ j ∷ b → IsBefore o i j → 0 < occurs i a
before_in n o order a b i j h before = go (cut a b (before.0 ++ i ∷ before.1) (j ∷ before.2) j (sym h ∙ before.3 ∙ sym (append_assoc before.0 (i ∷ before.1) (j ∷ before.2))))
  where
    in_c : 0 < occurs i (before.0 ++ i ∷ before.1)
    in_c = member_occurs i before.0 before.1

    go : ((r : List ℕ) × (before.0 ++ i ∷ before.1 ≡ a ++ j ∷ r) × (b ≡ r ++ (j ∷ before.2))) ⊎ ((r : List ℕ) × (a ≡ (before.0 ++ i ∷ before.1) ++ r) × (j ∷ before.2 ≡ r ++ j ∷ b)) → 0 < occurs i a
    go (inl (r, p, q)) =
        let once : occurs j o ≤ 1 = order_once n o order j in
        let whole : occurs j o ≡ occurs j a + occurs j (j ∷ b) = ap (occurs j) h ∙ occurs-append j a (j ∷ b) in
        let back : occurs j b ≡ occurs j r + occurs j (j ∷ before.2) = ap (occurs j) q ∙ occurs-append j r (j ∷ before.2) in
        let s1 = occurs_self j b in
        let s2 = occurs_self j before.2 in
        absurd (omega arith)
    go (inr (r, p, q)) =
        let k : occurs i a ≡ occurs i (before.0 ++ i ∷ before.1) + occurs i r = ap (occurs i) p ∙ occurs-append i (before.0 ++ i ∷ before.1) r in
        let m = in_c in
        omega arith

pub before_trans : (n : ℕ) (o : List ℕ) → IsPermutationBelow n o → (i k j : ℕ) → IsBefore o i k → IsBefore o k j → IsBefore o i j
before_trans n o order i k j a b =
    let is : o ≡ (b.0 ++ k ∷ b.1) ++ j ∷ b.2 = b.3 ∙ sym (append_assoc b.0 (k ∷ b.1) (j ∷ b.2)) in
    let f : 0 < occurs i b.0 = before_in n o order b.0 (b.1 ++ j ∷ b.2) i k b.3 a in
    let g = occurs-append i b.0 (k ∷ b.1) in
    before_from o (b.0 ++ k ∷ b.1) b.2 i j is (omega arith)

-- ---- a list with each number once is a permutation

pub order_from : (n : ℕ) (o : List ℕ) → ((i : ℕ) → i < n → occurs i o ≡ 1) → ((i : ℕ) → 0 < occurs i o → i < n) → IsPermutationBelow n o
order_from zero [] each within = refl
order_from zero (x ∷ o) each within = absurd (let c = within x (let s = occurs_self x o in omega arith) in omega arith)
order_from (suc n) o each within = (p.0, p.1, p.2, order_from n (p.0 ++ p.1) fewer (λ i lt. at i lt (cases_eq i n)))
  where
    p : (a : List ℕ) × (b : List ℕ) × (o ≡ a ++ n ∷ b)
    p = member_at n o (let c = each n (omega arith) in omega arith)

    whole : (i : ℕ) → occurs i o ≡ occurs i p.0 + occurs i (n ∷ p.1)
    whole i = ap (occurs i) p.2 ∙ occurs-append i p.0 (n ∷ p.1)

    fewer : (i : ℕ) → i < n → occurs i (p.0 ++ p.1) ≡ 1
    fewer i lt = let a = whole i in let b = occurs-append i p.0 p.1 in let c = each i (omega arith) in let d = occurs_other i n p.1 (λ e. omega arith) in omega arith

    at : (i : ℕ) → 0 < occurs i (p.0 ++ p.1) → (i ≡ n) ⊎ (i ≡ n → ⊥) → i < n
    at i lt (inl same) =
        let a = whole n in
        let b = occurs-append n p.0 p.1 in
        let c = each n (omega arith) in
        let s = occurs_self n p.1 in
        let g : occurs i (p.0 ++ p.1) ≡ occurs n (p.0 ++ p.1) = ap (λ z. occurs z (p.0 ++ p.1)) same in
        absurd (omega arith)
    at i lt (inr other) =
        let differ : i ≢ n = other in
        let a = whole i in
        let b = occurs-append i p.0 p.1 in
        let c = occurs_other i n p.1 other in
        let f = within i (omega arith) in
        omega arith

-- ---- members

pub listed_occurs : (i : ℕ) (xs : List ℕ) → IsListed i xs → 0 < occurs i xs
listed_occurs i [] l = absurd l
listed_occurs i (x ∷ xs) (inl same) = let s : occurs i (x ∷ xs) ≡ suc (occurs i xs) = ap (λ z. occurs i (z ∷ xs)) (sym same) ∙ occurs_self i xs in omega arith
listed_occurs i (x ∷ xs) (inr more) = let m = listed_occurs i xs more in omega arith

pub occurs_listed : (i : ℕ) (xs : List ℕ) → 0 < occurs i xs → IsListed i xs
occurs_listed i [] lt = absurd (omega arith)
occurs_listed i (x ∷ xs) lt = go (cases_eq i x) (λ k. occurs_listed i xs k)
  where
    go : (i ≡ x) ⊎ (i ≡ x → ⊥) → (0 < occurs i xs → IsListed i xs) → IsListed i (x ∷ xs)
    go (inl same) more = inl same
    go (inr other) more = inr (more (let c = occurs_other i x xs other in omega arith))
