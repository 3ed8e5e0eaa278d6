-- Lists in which each name of a protocol's roles stands once have no role twice.
use Rattle.std.proofs.Common.{◌≡◌, ◌+◌, ℕ, ◌<◌, List, [], ◌∷◌, ◌++◌, refl, sym, ap, ◌∙◌, subst, Bool, true, false, if◌then◌else◌, ◌==◌, ◌||◌, arith}
use Rattle.std.specs.List.{list_all, count_by}
use Rattle.std.proofs.lemmas.List.Recursion.{is_count_by}
use Rattle.std.proofs.lemmas.Bool.{eqb-true, and_parts}
use Rattle.chor_base.specs.declared.names.NameId.{NameId}
use Rattle.chor_tree.specs.Names.{has_each_once, is_among}
use Rattle.well_formed.specs.WellFormed.{role_among, AreDistinctRoles}
use Rattle.well_formed.proofs.References.{same_name, clash, true_eq, or_rights}

among_of : (ns xs : List NameId) → list_all (is_among ns) xs ≡ true → (x : NameId) → role_among x xs ≡ true → is_among ns x ≡ true
among_of ns [] h x m = absurd cc
among_of ns (y ∷ ys) h x m = go (x.0 == y.0) refl m (among_of ns ys (and_parts _ _ h).1 x)
  where
    go : (b : Bool) → (x.0 == y.0) ≡ b → (b || role_among x ys) ≡ true → (role_among x ys ≡ true → is_among ns x ≡ true) → is_among ns x ≡ true
    go true e i ih = subst (λ z. is_among ns z ≡ true) (sym (same_name x y e)) (and_parts _ _ h).0
    go false e i ih = ih i

-- each name that is counted stands once
counted : (ns xs : List NameId) → list_all (λ r. count_by (λ x. x.0 == r.0) xs == 1) ns ≡ true → (x : NameId) → is_among ns x ≡ true → (count_by (λ y. y.0 == x.0) xs == 1) ≡ true
counted [] xs h x m = absurd cc
counted (n ∷ ns) xs h x m = go (n.0 == x.0) refl m (counted ns xs (and_parts _ _ h).1 x)
  where
    go : (b : Bool) → (n.0 == x.0) ≡ b → (b || is_among ns x) ≡ true → (is_among ns x ≡ true → (count_by (λ y. y.0 == x.0) xs == 1) ≡ true) → (count_by (λ y. y.0 == x.0) xs == 1) ≡ true
    go true e i ih = subst (λ z. (count_by (λ y. y.0 == z.0) xs == 1) ≡ true) (same_name n x e) (and_parts _ _ h).0
    go false e i ih = ih i

abbrev tally : NameId → List NameId → ℕ
tally x [] = 0
tally x (y ∷ ys) = if y.0 == x.0 then 1 + tally x ys else tally x ys

tally_is : (x : NameId) (xs : List NameId) → tally x xs ≡ count_by (λ y. y.0 == x.0) xs
tally_is x xs = is_count_by (tally x) (λ y. y.0 == x.0) refl (λ y ys. refl) xs

some_count : (x : NameId) (xs : List NameId) → role_among x xs ≡ true → 0 < tally x xs
some_count x [] h = absurd cc
some_count x (y ∷ ys) h = go (x.0 == y.0) refl (y.0 == x.0) refl h (some_count x ys)
  where
    go : (b : Bool) → (x.0 == y.0) ≡ b → (c : Bool) → (y.0 == x.0) ≡ c → (b || role_among x ys) ≡ true → (role_among x ys ≡ true → 0 < tally x ys) → 0 < (if c then 1 + tally x ys else tally x ys)
    go b e true j i ih = omega arith
    go true e false j i ih = absurd (clash (ap (λ z. y.0 == z.0) (same_name x y e) ∙ true_eq y.0) j)
    go false e false j i ih = ih i

counted_apart : (xs : List NameId) → ((x : NameId) → role_among x xs ≡ true → (tally x xs == 1) ≡ true) → AreDistinctRoles xs
counted_apart [] h = tt
counted_apart (x ∷ xs) h = (off (role_among x xs) refl, counted_apart xs (λ z m. later z m (x.0 == z.0) refl))
  where
    here : (tally x (x ∷ xs) == 1) ≡ true
    here = h x (ap (λ b. b || role_among x xs) (true_eq x.0))

    one_more : (b : Bool) → (x.0 == x.0) ≡ b → b ≡ true → (n : ℕ) → ((if b then 1 + n else n) == 1) ≡ true → n ≡ 0
    one_more true e i n j = let k : 1 + n ≡ 1 = eqb-true (1 + n) 1 j in omega (arith, k)
    one_more false e i n j = absurd cc

    off : (b : Bool) → role_among x xs ≡ b → role_among x xs ≡ false
    off false e = e
    off true e =
        let none : tally x xs ≡ 0 = one_more (x.0 == x.0) refl (true_eq x.0) (tally x xs) here in
        let some : 0 < tally x xs = some_count x xs e in absurd (omega (arith, none, some))

    later : (z : NameId) → role_among z xs ≡ true → (b : Bool) → (x.0 == z.0) ≡ b → (tally z xs == 1) ≡ true
    later z m true e = absurd (clash (ap (λ q. role_among q xs) (same_name x z e) ∙ m) (off (role_among x xs) refl))
    later z m false e = sym (ap (λ (b : Bool). (if b then 1 + tally z xs else tally z xs) == 1) e) ∙ h z (or_rights (z.0 == x.0) (role_among z xs) m)

pub front_apart : (xs ys : List NameId) → AreDistinctRoles (xs ++ ys) → AreDistinctRoles xs
front_apart [] ys h = tt
front_apart (x ∷ xs) ys h = (front xs (role_among x (xs ++ ys)) refl h.0, front_apart xs ys h.1)
  where
    front : (zs : List NameId) (b : Bool) → role_among x (zs ++ ys) ≡ b → b ≡ false → role_among x zs ≡ false
    front [] b e i = refl
    front (z ∷ zs) b e i = go (x.0 == z.0) (e ∙ i) (λ j. front zs (role_among x (zs ++ ys)) refl j)
      where
        go : (c : Bool) → (c || role_among x (zs ++ ys)) ≡ false → (role_among x (zs ++ ys) ≡ false → role_among x zs ≡ false) → (c || role_among x zs) ≡ false
        go true i ih = absurd cc
        go false i ih = ih i

pub back_apart : (xs ys : List NameId) → AreDistinctRoles (xs ++ ys) → AreDistinctRoles ys
back_apart [] ys h = h
back_apart (x ∷ xs) ys h = back_apart xs ys h.1

-- Where a list has each of these names once and no other, none stands twice
pub once_apart : (ns xs : List NameId) → has_each_once ns xs ≡ true → AreDistinctRoles xs
once_apart ns xs h =
    let w = and_parts _ _ h in
    counted_apart xs (λ x m. ap (λ n. n == 1) (tally_is x xs) ∙ counted ns xs w.0 x (among_of ns xs w.1 x m))
