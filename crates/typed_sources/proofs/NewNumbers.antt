-- The numbers that a start gives.
use Rattle.std.proofs.Common.{◌≡◌, ℕ, suc, ◌≤◌, List, [], ◌∷◌, map, refl, sym, ap, ◌∙◌, subst, Some, None, Option, Bool, true, false, ◌==◌, ◌&&◌, ◌||◌, arith, if◌then◌else◌}
use Rattle.std.proofs.lemmas.Bool.{eqb-true, and_parts}
use Rattle.chor_base.specs.declared.names.NameId.{NameId}
use Rattle.chor_semantics.specs.Choreography.{Ref, Live, Named, ref_eq, among, number_for, numbers_for}
use Rattle.chor_semantics.specs.Steps.{live_parts, with_live, new_parts}
use Rattle.well_formed.specs.Holders.{first_with, as_parts}
use Rattle.well_formed.specs.WellFormed.{service_refs}
use Rattle.well_formed.proofs.References.{self_ref, same_ref, true_eq, left_or, right_or, differ_ref, turned_ref, or_rights}
use Rattle.typed_sources.specs.Typing.{AllNew}
use Rattle.typed_sources.specs.Changes.{lives}

-- ---- one name

pub number_on : (k c n : ℕ) → number_for k c n (Named k c) ≡ Live n
number_on k c n = ap (λ b. if b then Live n else Named k c) (ap (λ b. b && (c == c)) (true_eq k) ∙ true_eq c)

pub number_off : (k c n : ℕ) (s : Ref) → ref_eq s (Named k c) ≡ false → number_for k c n s ≡ s
number_off k c n (Live m) h = refl
number_off k c n (Named y x) h = go ((k == y) && (c == x)) refl
  where
    go : (b : Bool) → ((k == y) && (c == x)) ≡ b → (if b then Live n else Named y x) ≡ Named y x
    go false i = refl
    go true i =
        let w = and_parts _ _ i in
        let p : k ≡ y = eqb-true k y w.0 in
        let q : c ≡ x = eqb-true c x w.1 in
        let t : ref_eq (Named y x) (Named k c) ≡ true = ap (λ z. ref_eq (Named y x) (Named z c)) p ∙ ap (λ z. ref_eq (Named y x) (Named y z)) q ∙ self_ref (Named y x) in
        absurd cc

pub numbers_live : (c : ℕ) (serve : List (ℕ × NameId)) (n m : ℕ) → numbers_for c serve n (Live m) ≡ Live m
numbers_live c [] n m = refl
numbers_live c (s ∷ ss) n m = numbers_live c ss (suc n) m

-- who is no service stays
pub numbers_off : (c : ℕ) (serve : List (ℕ × NameId)) (n : ℕ) (q : Ref) → among q (service_refs c serve) ≡ false → numbers_for c serve n q ≡ q
numbers_off c [] n q h = refl
numbers_off c (s ∷ ss) n q h = ap (numbers_for c ss (suc n)) (number_off s.0 c n q (left_or _ _ h)) ∙ numbers_off c ss (suc n) q (right_or _ _ h)

numbers_head : (c : ℕ) (s : ℕ × NameId) (ss : List (ℕ × NameId)) (n : ℕ) (q : Ref) → ref_eq q (Named s.0 c) ≡ true → numbers_for c (s ∷ ss) n q ≡ Live n
numbers_head c s ss n q h = ap (λ x. numbers_for c ss (suc n) (number_for s.0 c n x)) (same_ref q (Named s.0 c) h) ∙ ap (numbers_for c ss (suc n)) (number_on s.0 c n) ∙ numbers_live c ss (suc n) n

numbers_tail : (c : ℕ) (s : ℕ × NameId) (ss : List (ℕ × NameId)) (n : ℕ) (q : Ref) → ref_eq q (Named s.0 c) ≡ false → numbers_for c (s ∷ ss) n q ≡ numbers_for c ss (suc n) q
numbers_tail c s ss n q h = ap (numbers_for c ss (suc n)) (number_off s.0 c n q h)

-- a service has a new number
pub record IsNumbered (c : ℕ) (serve : List (ℕ × NameId)) (n : ℕ) (q : Ref) : Type 0 where
  pub number : ℕ
  pub is : numbers_for c serve n q ≡ Live number
  pub later : n ≤ number
  pub there : among (Live number) (map (λ p. p.0) (lives (new_parts serve n))) ≡ true

pub numbers_new : (c : ℕ) (serve : List (ℕ × NameId)) (n : ℕ) (q : Ref) → among q (service_refs c serve) ≡ true → IsNumbered c serve n q
numbers_new c [] n q h = absurd cc
numbers_new c (s ∷ ss) n q h = go (ref_eq q (Named s.0 c)) refl h (numbers_new c ss (suc n) q)
  where
    go : (b : Bool) → ref_eq q (Named s.0 c) ≡ b → (b || among q (service_refs c ss)) ≡ true → (among q (service_refs c ss) ≡ true → IsNumbered c ss (suc n) q) → IsNumbered c (s ∷ ss) n q
    go true i h ih = record { number = n; is = numbers_head c s ss n q i; later = omega arith; there = ap (λ b. b || among (Live n) (map (λ p. p.0) (lives (new_parts ss (suc n))))) (true_eq n) }
    go false i h ih =
        let w = ih h in
        record { number = w.number; is = numbers_tail c s ss n q i ∙ w.is; later = (let l : suc n ≤ w.number = w.later in omega (arith, l)); there = or_rights _ _ w.there }

pub numbers_apart : (c : ℕ) (serve : List (ℕ × NameId)) (n : ℕ) (p q : Ref) → among p (service_refs c serve) ≡ true → among q (service_refs c serve) ≡ true → ref_eq p q ≡ false
    → ref_eq (numbers_for c serve n p) (numbers_for c serve n q) ≡ false
numbers_apart c [] n p q h i a = absurd cc
numbers_apart c (s ∷ ss) n p q h i a = go (ref_eq p (Named s.0 c)) (ref_eq q (Named s.0 c)) refl refl h i (numbers_apart c ss (suc n) p q)
  where
    later : (r : Ref) → ref_eq r (Named s.0 c) ≡ false → among r (service_refs c ss) ≡ true → ref_eq (Live n) (numbers_for c (s ∷ ss) n r) ≡ false
    later r j k =
        let w = numbers_new c ss (suc n) r k in
        let l : suc n ≤ w.number = w.later in
        differ_ref (Live n) (numbers_for c (s ∷ ss) n r) (λ e. let same : Live n ≡ Live w.number = e ∙ numbers_tail c s ss n r j ∙ w.is in let num : n ≡ w.number = cc in absurd (omega (arith, l, num)))

    go : (b d : Bool) → ref_eq p (Named s.0 c) ≡ b → ref_eq q (Named s.0 c) ≡ d → (b || among p (service_refs c ss)) ≡ true → (d || among q (service_refs c ss)) ≡ true
        → (among p (service_refs c ss) ≡ true → among q (service_refs c ss) ≡ true → ref_eq p q ≡ false → ref_eq (numbers_for c ss (suc n) p) (numbers_for c ss (suc n) q) ≡ false)
        → ref_eq (numbers_for c (s ∷ ss) n p) (numbers_for c (s ∷ ss) n q) ≡ false
    go true true j k h i ih =
        let same : p ≡ q = same_ref p (Named s.0 c) j ∙ sym (same_ref q (Named s.0 c) k) in
        let t : ref_eq p q ≡ true = ap (λ x. ref_eq x q) same ∙ self_ref q in absurd cc
    go true false j k h i ih = ap (λ x. ref_eq x (numbers_for c (s ∷ ss) n q)) (numbers_head c s ss n p j) ∙ later q k i
    go false true j k h i ih = ap (λ x. ref_eq (numbers_for c (s ∷ ss) n p) x) (numbers_head c s ss n q k) ∙ turned_ref (Live n) (numbers_for c (s ∷ ss) n p) (later p j h)
    go false false j k h i ih = ap (λ x. ref_eq x (numbers_for c (s ∷ ss) n q)) (numbers_tail c s ss n p j) ∙ ap (λ x. ref_eq (numbers_for c ss (suc n) p) x) (numbers_tail c s ss n q k) ∙ ih h i a

-- ---- the parts of a start

pub live_active : (active : List (Ref × NameId)) (ps : List (NameId × ℕ)) → live_parts active ≡ Some ps → lives ps ≡ active
live_active [] ps h = let e : [] ≡ ps = cc in ap lives (sym e)
live_active ((Named x d, a) ∷ qs) ps h = absurd cc
live_active ((Live n, a) ∷ qs) ps h = go (live_parts qs) h (live_active qs)
  where
    go : (o : Option (List (NameId × ℕ))) → with_live (Live n) a o ≡ Some ps → ((rs : List (NameId × ℕ)) → o ≡ Some rs → lives rs ≡ qs) → lives ps ≡ (Live n, a) ∷ qs
    go None i ih = absurd cc
    go (Some rs) i ih = let e : (a, n) ∷ rs ≡ ps = cc in ap lives (sym e) ∙ ap (λ l. (Live n, a) ∷ l) (ih rs refl)

-- the service with a role has the number of that role
pub first_new : (m : Ref → Bool) (c : ℕ) (serve : List (ℕ × NameId)) → AllNew m (service_refs c serve) → (n : ℕ) (r : NameId) (q : Ref)
    → first_with r (as_parts c serve) ≡ Some q → first_with r (lives (new_parts serve n)) ≡ Some (numbers_for c serve n q)
first_new m c [] a n r q h = absurd cc
first_new m c (s ∷ ss) a n r q h = go (s.1.0 == r.0) h (first_new m c ss a.2 (suc n) r q)
  where
    some_is : (a b : Ref) → ◌≡◌ {A = Option Ref} (Some a) (Some b) → a ≡ b
    some_is a b h = cc

    -- a later service isn't the first one
    found : (l : List (ℕ × NameId)) → first_with r (as_parts c l) ≡ Some q → among q (service_refs c l) ≡ true
    found [] i = absurd cc
    found (t ∷ ts) i = step (t.1.0 == r.0) i (found ts)
      where
        step : (b : Bool) → (if b then Some (Named t.0 c) else first_with r (as_parts c ts)) ≡ Some q → (first_with r (as_parts c ts) ≡ Some q → among q (service_refs c ts) ≡ true) → among q (service_refs c (t ∷ ts)) ≡ true
        step true j ih = ap (λ b. b || among q (service_refs c ts)) (ap (λ x. ref_eq x (Named t.0 c)) (sym (some_is (Named t.0 c) q j)) ∙ self_ref (Named t.0 c))
        step false j ih = or_rights _ _ (ih j)

    later : first_with r (as_parts c ss) ≡ Some q → ref_eq q (Named s.0 c) ≡ false
    later i = differ_ref q (Named s.0 c) (λ e. let t : among (Named s.0 c) (service_refs c ss) ≡ true = subst (λ x. among x (service_refs c ss) ≡ true) e (found ss i) in let u : among (Named s.0 c) (service_refs c ss) ≡ false = a.1 in absurd cc)

    go : (b : Bool) → (if b then Some (Named s.0 c) else first_with r (as_parts c ss)) ≡ Some q → (first_with r (as_parts c ss) ≡ Some q → first_with r (lives (new_parts ss (suc n))) ≡ Some (numbers_for c ss (suc n) q))
        → (if b then Some (Live n) else first_with r (lives (new_parts ss (suc n)))) ≡ Some (numbers_for c (s ∷ ss) n q)
    go true i ih = let e = some_is (Named s.0 c) q i in ap Some (sym (numbers_head c s ss n q (ap (λ x. ref_eq x (Named s.0 c)) (sym e) ∙ self_ref (Named s.0 c))))
    go false i ih = ih i ∙ ap Some (sym (numbers_tail c s ss n q (later i)))
