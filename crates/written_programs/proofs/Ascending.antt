-- Items with words of their own stand in one ascending order, whatever the order in which they are given.
use Rattle.std.proofs.Common.{◌≡◌, ◌≢◌, ℕ, Bool, true, false, List, [], ◌∷◌, refl, sym, ap, ◌∙◌}
use Rattle.std.specs.Prelude.{if◌then◌else◌}
use Rattle.std.proofs.Common.{Ordering, Less, Equal, Greater}
use Rattle.std.specs.Ordering.{is_lt, is_eq, ordering_reverse, nat_cmp}
use Rattle.std.specs.Cmp.Lexicographic.{slice_cmp}
use Rattle.std.proofs.lemmas.Cmp.{nat_list_cmp_total}
use Rattle.std.proofs.lemmas.Map.Text.{is_eq-slice_cmp}
use Rattle.std.proofs.lemmas.Slice.Eq.{bytes_eq-Decides}
use Rattle.endpoint_text.specs.Ascending.{is_before, inserted}

abbrev cmp : List ℕ → List ℕ → Ordering
cmp v w = slice_cmp nat_cmp v w

is_less : (v w : List ℕ) → is_before v w ≡ true → cmp v w ≡ Less
is_less v w = go (cmp v w)
  where
    go : (r : Ordering) → is_lt r ≡ true → r ≡ Less
    go Less e = refl
    go Equal e = absurd cc
    go Greater e = absurd cc

-- words that differ stand one before the other
one_before : (v w : List ℕ) → v ≢ w → is_before v w ≡ false → is_before w v ≡ true
one_before v w differ not_before = go (cmp v w) refl not_before
  where
    go : (r : Ordering) → cmp v w ≡ r → is_lt r ≡ false → is_before w v ≡ true
    go Less e b = absurd cc
    go Equal e b =
        let same = sym (is_eq-slice_cmp v w) ∙ ap is_eq e in
        absurd (differ ((bytes_eq-Decides v w).0 same))
    go Greater e b = ap is_lt (nat_list_cmp_total.antisymm w v ∙ ap ordering_reverse e)

not_both : (v w : List ℕ) → is_before v w ≡ true → is_before w v ≡ false
not_both v w b = ap is_lt (nat_list_cmp_total.antisymm w v ∙ ap ordering_reverse (is_less v w b))

before_both : (u v w : List ℕ) → is_before u v ≡ true → is_before v w ≡ true → is_before u w ≡ true
before_both u v w a b = ap is_lt (nat_list_cmp_total.trans u v w (is_less u v a) (is_less v w b))

module _ {A : Type 0} (word : A → List ℕ) where
  -- two items with words that differ are put in either order
  pub inserted_both : (x y : A) (zs : List A) → word x ≢ word y → inserted word x (inserted word y zs) ≡ inserted word y (inserted word x zs)
  inserted_both x y [] differ = go (is_before (word y) (word x)) refl
    where
      go : (b : Bool) → is_before (word y) (word x) ≡ b → (if is_before (word y) (word x) then y ∷ x ∷ [] else x ∷ y ∷ []) ≡ (if is_before (word x) (word y) then x ∷ y ∷ [] else y ∷ x ∷ [])
      go true e = ap (λ (b : Bool). if b then y ∷ x ∷ [] else x ∷ y ∷ []) e ∙ sym (ap (λ (b : Bool). if b then x ∷ y ∷ [] else y ∷ x ∷ []) (not_both (word y) (word x) e))
      go false e = ap (λ (b : Bool). if b then y ∷ x ∷ [] else x ∷ y ∷ []) e ∙ sym (ap (λ (b : Bool). if b then x ∷ y ∷ [] else y ∷ x ∷ []) (one_before (word y) (word x) (λ h. differ (sym h)) e))
  inserted_both x y (z ∷ zs) differ = go (is_before (word z) (word x)) refl (is_before (word z) (word y)) refl (is_before (word x) (word y)) refl (inserted_both x y zs differ)
    where
      -- an item goes behind z, or before it
      put : (u : A) (b : Bool) → is_before (word z) (word u) ≡ b → inserted word u (z ∷ zs) ≡ (if b then z ∷ inserted word u zs else u ∷ z ∷ zs)
      put u b e = ap (λ (c : Bool). if c then z ∷ inserted word u zs else u ∷ z ∷ zs) e

      -- so it does with any item at the front
      on : (u v : A) (vs : List A) (b : Bool) → is_before (word v) (word u) ≡ b → inserted word u (v ∷ vs) ≡ (if b then v ∷ inserted word u vs else u ∷ v ∷ vs)
      on u v vs b e = ap (λ (c : Bool). if c then v ∷ inserted word u vs else u ∷ v ∷ vs) e

      -- z comes before both
      both : is_before (word z) (word x) ≡ true → is_before (word z) (word y) ≡ true → inserted word x (inserted word y zs) ≡ inserted word y (inserted word x zs)
          → inserted word x (inserted word y (z ∷ zs)) ≡ inserted word y (inserted word x (z ∷ zs))
      both a b ih =
          ap (inserted word x) (put y true b) ∙ on x z (inserted word y zs) true a ∙ ap (λ (l : List A). z ∷ l) ih
          ∙ sym (ap (inserted word y) (put x true a) ∙ on y z (inserted word x zs) true b)

      -- it comes before u alone, so v comes before u
      lone : (u v : A) → is_before (word z) (word u) ≡ true → is_before (word z) (word v) ≡ false → word u ≢ word v → is_before (word v) (word u) ≡ true
      lone u v a b apart = decide (is_before (word v) (word u)) refl
        where
          decide : (c : Bool) → is_before (word v) (word u) ≡ c → is_before (word v) (word u) ≡ true
          decide true e = e
          decide false e =
              let later = one_before (word v) (word u) (λ h. apart (sym h)) e in
              let first = before_both (word z) (word u) (word v) a later in
              let clash = sym b ∙ first in
              absurd cc

      split : (u v : A) → is_before (word z) (word u) ≡ true → is_before (word z) (word v) ≡ false → word u ≢ word v → inserted word u (inserted word v (z ∷ zs)) ≡ inserted word v (inserted word u (z ∷ zs))
      split u v a b apart =
          let order = lone u v a b apart in
          ap (inserted word u) (put v false b) ∙ on u v (z ∷ zs) true order ∙ ap (λ (l : List A). v ∷ l) (put u true a)
          ∙ sym (ap (inserted word v) (put u true a) ∙ on v z (inserted word u zs) false b)

      -- it comes before neither, and u comes before v
      none : (u v : A) → is_before (word z) (word u) ≡ false → is_before (word z) (word v) ≡ false → is_before (word u) (word v) ≡ true → inserted word u (inserted word v (z ∷ zs)) ≡ inserted word v (inserted word u (z ∷ zs))
      none u v a b order =
          ap (inserted word u) (put v false b) ∙ on u v (z ∷ zs) false (not_both (word u) (word v) order)
          ∙ sym (ap (inserted word v) (put u false a) ∙ on v u (z ∷ zs) true order ∙ ap (λ (l : List A). u ∷ l) (put v false b))

      go : (a : Bool) → is_before (word z) (word x) ≡ a → (b : Bool) → is_before (word z) (word y) ≡ b → (c : Bool) → is_before (word x) (word y) ≡ c → inserted word x (inserted word y zs) ≡ inserted word y (inserted word x zs)
          → inserted word x (inserted word y (z ∷ zs)) ≡ inserted word y (inserted word x (z ∷ zs))
      go true a true b c order ih = both a b ih
      go true a false b c order ih = split x y a b differ
      go false a true b c order ih = sym (split y x b a (λ h. differ (sym h)))
      go false a false b true order ih = none x y a b order
      go false a false b false order ih = sym (none y x b a (one_before (word x) (word y) differ order))
