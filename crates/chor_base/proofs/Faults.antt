-- The first of several faults: it may be sought piece by piece.
use Rattle.std.proofs.Common.{subst, length, drop, add-one, drop-cons, ℕ, ◌≡◌, ◌+◌, ◌<◌, List, [], ◌∷◌, ◌++◌, Bool, true, false, refl, ap, sym, ◌∙◌, arith, inl, inr, ◌⊎◌}
use Rattle.std.proofs.lemmas.Bool.Decides.{nat_tests}
use Rattle.std.specs.List.{flat_map}
use Rattle.std.specs.Prelude.{slice_index_or, Contains, Option, Some, None, nat_lt, ◌==◌, ◌||◌, ◌&&◌, if◌then◌else◌}
use Rattle.chor_base.specs.declared.rule.Denied.{Denied}
use Rattle.chor_base.specs.declared.rule.Denied.TheVariants.{Refused}
use Rattle.chor_base.specs.declared.fault.Fault.{Fault}
use Rattle.chor_base.specs.Faults.{comes_before, rank, earlier, first_of_all, IsFirst, IsDenial}
use Rattle.chor_base.proofs.Members.{nowhere, at_head, at_tail, head_or_tail}

-- ---- the order of faults is one of triples of numbers

abbrev less : (a b c a' b' c' : ℕ) → Bool
less a b c a' b' c' = nat_lt a a' || ((a == a') && (nat_lt b b' || ((b == b') && nat_lt c c')))

less_trans : (a b c d e f g h i : ℕ) → less a b c d e f ≡ true → less d e f g h i ≡ true → less a b c g h i ≡ true
less_trans a b c d e f g h i p q = grind (arith, nat_tests)

less_apart : (a b c d e f g h i : ℕ) → less a b c d e f ≡ false → less d e f g h i ≡ false → less a b c g h i ≡ false
less_apart a b c d e f g h i p q = grind (arith, nat_tests)

less_itself : (a b c : ℕ) → less a b c a b c ≡ false
less_itself a b c = grind (arith, nat_tests)

pub before_trans : (x y z : Fault) → comes_before x y ≡ true → comes_before y z ≡ true → comes_before x z ≡ true
before_trans x y z = less_trans x.place.line x.place.col (rank x.rule) y.place.line y.place.col (rank y.rule) z.place.line z.place.col (rank z.rule)

pub before_apart : (x y z : Fault) → comes_before x y ≡ false → comes_before y z ≡ false → comes_before x z ≡ false
before_apart x y z = less_apart x.place.line x.place.col (rank x.rule) y.place.line y.place.col (rank y.rule) z.place.line z.place.col (rank z.rule)

pub before_itself : (x : Fault) → comes_before x x ≡ false
before_itself x = less_itself x.place.line x.place.col (rank x.rule)

pub before_not_after : (x y : Fault) → comes_before x y ≡ true → comes_before y x ≡ false
before_not_after x y p = go (comes_before y x) refl where
  go : (b : Bool) → comes_before y x ≡ b → comes_before y x ≡ false
  go false q = q
  go true q = let t : comes_before x x ≡ true = before_trans x y x p q in let f : comes_before x x ≡ false = before_itself x in cc

-- ---- seeking piece by piece

earlier_some : (x y z : Fault) → earlier (earlier (Some x) (Some y)) (Some z) ≡ earlier (Some x) (earlier (Some y) (Some z))
earlier_some x y z = go (comes_before y x) (comes_before z y) (comes_before z x) refl refl refl where
  go : (b c d : Bool) → comes_before y x ≡ b → comes_before z y ≡ c → comes_before z x ≡ d → earlier (earlier (Some x) (Some y)) (Some z) ≡ earlier (Some x) (earlier (Some y) (Some z))
  go true true true p q r = rw (p, q) (rw r)
  go true true false p q r = let t : comes_before z x ≡ true = before_trans z y x q p in cc
  go true false d p q r = rw (p, q) (rw p)
  go false true d p q r = rw (p, q)
  go false false false p q r = rw (p, q) (rw (p, r))
  go false false true p q r = let f : comes_before z x ≡ false = before_apart z y x q p in cc

pub earlier_assoc : (x y z : Option Fault) → earlier (earlier x y) z ≡ earlier x (earlier y z)
earlier_assoc None y z = refl
earlier_assoc (Some x) None z = refl
earlier_assoc (Some x) (Some y) None = go (comes_before y x) where
  go : (b : Bool) → earlier (if b then Some y else Some x) None ≡ (if b then Some y else Some x)
  go true = refl
  go false = refl
earlier_assoc (Some x) (Some y) (Some z) = earlier_some x y z

pub earlier_none : (x : Option Fault) → earlier x None ≡ x
earlier_none None = refl
earlier_none (Some x) = refl

pub first_append : (xs ys : List Fault) → first_of_all (xs ++ ys) ≡ earlier (first_of_all xs) (first_of_all ys)
first_append [] ys = refl
first_append (x ∷ xs) ys = ap (λ o. earlier (Some x) o) (first_append xs ys) ∙ sym (earlier_assoc (Some x) (first_of_all xs) (first_of_all ys))

-- ---- what is found is the first

pub none_is_empty : (xs : List Fault) → first_of_all xs ≡ None → xs ≡ []
none_is_empty [] h = refl
none_is_empty (x ∷ xs) h = go (first_of_all xs) h where
  go : (o : Option Fault) → earlier (Some x) o ≡ None → x ∷ xs ≡ []
  go None e = cc
  go (Some y) e = pick (comes_before y x) e where
    pick : (b : Bool) → (if b then Some y else Some x) ≡ None → x ∷ xs ≡ []
    pick true e = cc
    pick false e = cc

-- the first fault of two kinds together is the earlier one of their firsts
pub first_of_either : (P Q R : Fault → Type 0) (a b : Option Fault) → IsFirst P a → IsFirst Q b
    → ((x : Fault) → P x → R x) → ((x : Fault) → Q x → R x) → ((x : Fault) → R x → P x ⊎ Q x) → IsFirst R (earlier a b)
first_of_either P Q R None None p q left right split = λ x r. elim (split x r) [ inl m ↦ p x m | inr m ↦ q x m ]
first_of_either P Q R None (Some y) p q left right split = (right y q.0, λ z r. elim (split z r) [ inl m ↦ absurd (p z m) | inr m ↦ q.1 z m ])
first_of_either P Q R (Some x) None p q left right split = (left x p.0, λ z r. elim (split z r) [ inl m ↦ p.1 z m | inr m ↦ absurd (q z m) ])
first_of_either P Q R (Some x) (Some y) p q left right split = go (comes_before y x) refl where
  go : (b : Bool) → comes_before y x ≡ b → IsFirst R (if b then Some y else Some x)
  go true e = (right y q.0, λ z r. elim (split z r) [ inl m ↦ before_apart z x y (p.1 z m) (before_not_after y x e) | inr m ↦ q.1 z m ])
  go false e = (left x p.0, λ z r. elim (split z r) [ inl m ↦ p.1 z m | inr m ↦ before_apart z y x (q.1 z m) e ])

-- the same faults have the same first one
pub first_along : (P R : Fault → Type 0) (a : Option Fault) → IsFirst P a → ((x : Fault) → P x → R x) → ((x : Fault) → R x → P x) → IsFirst R a
first_along P R None p there back = λ x r. p x (back x r)
first_along P R (Some x) p there back = (there x p.0, λ y r. p.1 y (back y r))

first_alone : (x : Fault) → IsFirst (λ y. x ≡ y) (Some x)
first_alone x = (refl, λ y e. subst (λ z. comes_before z x ≡ false) e (before_itself x))

-- what is found is the first
pub first_is_first : (xs : List Fault) → IsFirst (Contains xs) (first_of_all xs)
first_is_first [] = λ x m. nowhere x m
first_is_first (x ∷ xs) =
    first_of_either (λ y. x ≡ y) (Contains xs) (Contains (x ∷ xs)) (Some x) (first_of_all xs) (first_alone x) (first_is_first xs)
    (λ y e. at_head x xs y e) (λ y m. at_tail x xs y m) (λ y m. head_or_tail x xs y m)

-- the refusal for the first fault
pub first_denied : (P : Fault → Type 0) (x : Fault) (d : Denied) → IsFirst P (Some x) → d ≡ Refused (record { rule = x.rule; place = x.place; who = None }) → IsDenial P d
first_denied P x d first is = subst (λ e. IsDenial P e) (sym is) (first, refl)

-- ---- a loop that keeps the first fault

-- one item more is looked at
pub turn : {X : Type 0} (f : X → List Fault) (old one new : Option Fault) (xs : List X) (i : ℕ) (d : X) (whole : Option Fault)
    → i < length xs → one ≡ first_of_all (f (slice_index_or xs i d)) → new ≡ earlier old one
    → earlier old (first_of_all (flat_map f (drop i xs))) ≡ whole
    → earlier new (first_of_all (flat_map f (drop (i + 1) xs))) ≡ whole
turn f old one new xs i d whole h is_one is_new so_far =
    let rest = flat_map f (drop (i + 1) xs) in
    let x = slice_index_or xs i d in
    let parts : drop i xs ≡ x ∷ drop (i + 1) xs = rw (add-one, drop-cons xs i d) refl in
    let whole_is : earlier old (first_of_all (f x ++ rest)) ≡ whole = let P : List _ → Type 0 = λ l. earlier old (first_of_all (flat_map f l)) ≡ whole in subst P parts so_far in
    rw (is_new, is_one) (earlier_assoc old (first_of_all (f x)) (first_of_all rest) ∙ ap (λ o. earlier old o) (sym (first_append (f x) rest)) ∙ whole_is)

-- the same, where the item is known by its equation
pub turn_item : {X : Type 0} (f : X → List Fault) (old one new : Option Fault) (xs : List X) (i : ℕ) (x : X) (whole : Option Fault)
    → i < length xs → x ≡ slice_index_or xs i x → one ≡ first_of_all (f x) → new ≡ earlier old one
    → earlier old (first_of_all (flat_map f (drop i xs))) ≡ whole
    → earlier new (first_of_all (flat_map f (drop (i + 1) xs))) ≡ whole
turn_item f old one new xs i x whole h is is_one is_new so_far =
    turn f old one new xs i x whole h (is_one ∙ ap (λ y. first_of_all (f y)) is) is_new so_far

-- the first of two lists
pub first_of_two : (xs ys : List Fault) (a b r : Option Fault) → r ≡ earlier a b → a ≡ first_of_all xs → b ≡ first_of_all ys → r ≡ first_of_all (xs ++ ys)
first_of_two xs ys a b r is_r is_a is_b = is_r ∙ ap (λ o. earlier o b) is_a ∙ ap (λ o. earlier (first_of_all xs) o) is_b ∙ sym (first_append xs ys)

-- the same, where the items are those of a list
pub turn_from : {X : Type 0} (f : X → List Fault) (old one new : Option Fault) (ys xs : List X) (i : ℕ) (x : X) (whole : Option Fault)
    → ys ≡ xs → i < length ys → x ≡ slice_index_or ys i x → one ≡ first_of_all (f x) → new ≡ earlier old one
    → earlier old (first_of_all (flat_map f (drop i xs))) ≡ whole
    → earlier new (first_of_all (flat_map f (drop (i + 1) xs))) ≡ whole
turn_from f old one new ys xs i x whole same h is is_one is_new so_far =
    turn_item f old one new xs i x whole (subst (λ l. i < length l) same h) (is ∙ ap (λ l. slice_index_or l i x) same) is_one is_new so_far

-- the same, where the item is read from the list
pub turn_at : {X : Type 0} (f : X → List Fault) (old one new : Option Fault) (ys xs : List X) (i : ℕ) (d : X) (whole : Option Fault)
    → ys ≡ xs → i < length ys → one ≡ first_of_all (f (slice_index_or ys i d)) → new ≡ earlier old one
    → earlier old (first_of_all (flat_map f (drop i xs))) ≡ whole
    → earlier new (first_of_all (flat_map f (drop (i + 1) xs))) ≡ whole
turn_at f old one new ys xs i d whole same h is_one is_new so_far =
    turn f old one new xs i d whole (subst (λ l. i < length l) same h) (is_one ∙ ap (λ l. first_of_all (f (slice_index_or l i d))) same) is_new so_far
