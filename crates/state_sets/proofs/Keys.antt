-- Words in the order of their keys, and by bytes where these are the same.
use Rattle.std.proofs.Common.{ℕ, ◌≡◌, ◌+◌, ◌-◌, ◌*◌, ◌<◌, ◌≤◌, ◌==◌, Bool, true, false, cond, List, [], ◌∷◌, ◌++◌, map, refl, ap, sym, subst, ◌∙◌, arith, inl, inr, length, take, drop, zero, suc, lit≤}
use Rattle.std.specs.Prelude.{◌⊎◌, nat_lt, slice_index_or}
use Rattle.std.specs.Ordering.{is_lt, nat_cmp, ordering_then}
use Rattle.std.specs.declared.cmp.Ordering.TheVariants.{Less, Equal, Greater}
use Rattle.std.specs.Cmp.Lexicographic.{slice_cmp}
use Rattle.std.proofs.lemmas.Bool.{cases_lt}
use Rattle.std.proofs.lemmas.Bool.Decides.{nat_tests}
use Rattle.std.proofs.lemmas.List.{drop_more, drop_all, get_or_past, take_more, take_all, map-append}
use Rattle.std.specs.List.Sorted.{IsPermutation}
use Rattle.std.proofs.lemmas.List.Sorted.{IsPermutation-map}
use Rattle.std.proofs.lemmas.Simd.{map-map}
use Rattle.global_types.specs.Moves.{IsIn}
use Rattle.state_sets.specs.declared.act.Act.{Act}
use Rattle.state_sets.specs.declared.order.Keyed.{Keyed}
use Rattle.state_sets.specs.Ascending.{Ascend}
use Rattle.state_sets.specs.Table.{act_word, act_words}
use Rattle.state_sets.specs.Order.{word_key, IsKeyOf, keyed_acts, keyed_word, AreKeyed}
use Rattle.state_sets.proofs.Lists.{in_map, in_map_back, in_push}

-- ---- the key is made byte by byte

pub key_step : (n acc : ℕ) (w : List ℕ) (i : ℕ) → word_key (suc n) acc (drop i w) ≡ word_key n (acc * 256 + slice_index_or w i 0) (drop (i + 1) w)
unfolding word_key
key_step n acc w i = go (cases_lt i (length w)) where
  go : (i < length w) ⊎ (length w ≤ i) → word_key (suc n) acc (drop i w) ≡ word_key n (acc * 256 + slice_index_or w i 0) (drop (i + 1) w)
  go (inl h) = ap (λ (l : List ℕ). word_key (suc n) acc l) (drop_more w i 0 h)
  go (inr g) =
      let none : drop i w ≡ [] = drop_all i w g in
      let rest : [] ≡ drop (i + 1) w = sym (drop_all (i + 1) w (omega (arith, g))) in
      let more : acc * 256 ≡ acc * 256 + slice_index_or w i 0 = (let e : slice_index_or w i 0 ≡ 0 = get_or_past w i 0 g in omega (arith, e)) in
      ap (λ (l : List ℕ). word_key (suc n) acc l) none ∙ ap (λ (a : ℕ). word_key n a []) more ∙ ap (λ (l : List ℕ). word_key n (acc * 256 + slice_index_or w i 0) l) rest

-- one more than the largest number of n bytes
abbrev pub top : ℕ → ℕ
top zero = 1
top (suc n) = top n * 256

pub top_fits : (n : ℕ) → n < 8 → top n * 256 ≤ 18446744073709551616
top_fits zero h = lit≤ tt
top_fits (suc zero) h = lit≤ tt
top_fits (suc (suc zero)) h = lit≤ tt
top_fits (suc (suc (suc zero))) h = lit≤ tt
top_fits (suc (suc (suc (suc zero)))) h = lit≤ tt
top_fits (suc (suc (suc (suc (suc zero))))) h = lit≤ tt
top_fits (suc (suc (suc (suc (suc (suc zero)))))) h = lit≤ tt
top_fits (suc (suc (suc (suc (suc (suc (suc zero))))))) h = lit≤ tt
top_fits (suc (suc (suc (suc (suc (suc (suc (suc n)))))))) h = absurd (omega (arith, h))

pub key_more : (w : List ℕ) (place key byte : ℕ) → place < 8 → byte ≡ slice_index_or w place 0 → byte < 256
    → word_key (8 - place) key (drop place w) ≡ word_key 8 0 w → key < top place
    → record { made : word_key (8 - (place + 1)) (key * 256 + byte) (drop (place + 1) w) ≡ word_key 8 0 w; below : key * 256 + byte < top (place + 1) }
key_more w place key byte h is small was below = record {
  made =
      (let e : suc (8 - (place + 1)) ≡ 8 - place = omega (arith, h) in
      ap (λ (b : ℕ). word_key (8 - (place + 1)) (key * 256 + b) (drop (place + 1) w)) is ∙ sym (key_step (8 - (place + 1)) key w place) ∙ ap (λ (n : ℕ). word_key n key (drop place w)) e ∙ was);
  below = (let n : place + 1 ≡ suc place = omega arith in let t : top (place + 1) ≡ top place * 256 = ap top n in omega (arith, t, small, below));
}

pub key_end : (w : List ℕ) (place key : ℕ) → 8 ≤ place → ((i : ℕ) → slice_index_or w i 0 < 256) → word_key (8 - place) key (drop place w) ≡ word_key 8 0 w → IsKeyOf w key
unfolding word_key
key_end w place key h bytes was = record {
  bytes = bytes;
  made = (let z : 8 - place ≡ zero = omega (arith, h) in sym (ap (λ (n : ℕ). word_key n key (drop place w)) z) ∙ was);
}

-- ---- a lesser word has no greater key

abbrev AreBytes : List ℕ → Type 0
AreBytes w = (i : ℕ) → slice_index_or w i 0 < 256

strict : (n a c : ℕ) (v w : List ℕ) → AreBytes v → a < c → word_key n a v < word_key n c w
unfolding word_key
strict zero a c v w h l = l
strict (suc n) a c [] [] h l = strict n (a * 256) (c * 256) [] [] h (omega (arith, l))
strict (suc n) a c [] (y ∷ w) h l = strict n (a * 256) (c * 256 + y) [] w h (omega (arith, l))
strict (suc n) a c (x ∷ v) [] h l = strict n (a * 256 + x) (c * 256) v [] (λ i. h (suc i)) (let b = h 0 in omega (arith, l, b))
strict (suc n) a c (x ∷ v) (y ∷ w) h l = strict n (a * 256 + x) (c * 256 + y) v w (λ i. h (suc i)) (let b = h 0 in omega (arith, l, b))

least : (n a c : ℕ) (w : List ℕ) → a ≤ c → word_key n a [] ≤ word_key n c w
unfolding word_key
least zero a c w l = l
least (suc n) a c [] l = least n (a * 256) (c * 256) [] (omega (arith, l))
least (suc n) a c (y ∷ w) l = least n (a * 256) (c * 256 + y) w (omega (arith, l))

level : (n a : ℕ) (v w : List ℕ) → AreBytes v → is_lt (slice_cmp nat_cmp v w) ≡ true → word_key n a v ≤ word_key n a w
unfolding word_key
level zero a v w h l = omega arith
level (suc n) a [] [] h l = absurd (cc)
level (suc n) a [] (y ∷ w) h l = least n (a * 256) (a * 256 + y) w (omega arith)
level (suc n) a (x ∷ v) [] h l = absurd (cc)
level (suc n) a (x ∷ v) (y ∷ w) h l = go (nat_lt x y) (x == y) refl refl l (λ k. level n (a * 256 + x) v w (λ i. h (suc i)) k)
  where
    go : (p q : Bool) → nat_lt x y ≡ p → (x == y) ≡ q → is_lt (ordering_then (cond p Less (cond q Equal Greater)) (slice_cmp nat_cmp v w)) ≡ true
        → (is_lt (slice_cmp nat_cmp v w) ≡ true → word_key n (a * 256 + x) v ≤ word_key n (a * 256 + x) w)
        → word_key n (a * 256 + x) v ≤ word_key n (a * 256 + y) w
    go true q e f k deeper =
        let less : x < y = grind (arith, nat_tests) in
        let s = strict n (a * 256 + x) (a * 256 + y) v w (λ i. h (suc i)) (omega (arith, less)) in
        omega (arith, s)
    go false true e f k deeper = let same : x ≡ y = grind (arith, nat_tests) in subst (λ (z : ℕ). word_key n (a * 256 + x) v ≤ word_key n (a * 256 + z) w) same (deeper k)
    go false false e f k deeper = absurd (cc)

-- what isn't less by key and word isn't less by word
by_word : (v w : List ℕ) (k m : ℕ) → IsKeyOf v k → IsKeyOf w m → is_lt (slice_cmp nat_cmp (k ∷ v) (m ∷ w)) ≡ false → is_lt (slice_cmp nat_cmp v w) ≡ false
by_word v w k m one other up = go (is_lt (slice_cmp nat_cmp v w)) refl
  where
    near : (p q : Bool) → nat_lt k m ≡ p → (k == m) ≡ q → is_lt (slice_cmp nat_cmp v w) ≡ true → is_lt (ordering_then (cond p Less (cond q Equal Greater)) (slice_cmp nat_cmp v w)) ≡ false → k ≤ m → ⊥
    near true q e f l u h = absurd (cc)
    near false true e f l u h = absurd (cc)
    near false false e f l u h = absurd (grind (arith, nat_tests))

    go : (b : Bool) → is_lt (slice_cmp nat_cmp v w) ≡ b → is_lt (slice_cmp nat_cmp v w) ≡ false
    go false e = e
    go true e =
        let l = level 8 0 v w one.bytes e in
        let a = one.made in
        let b = other.made in
        absurd (near (nat_lt k m) (k == m) refl refl e up (omega (arith, a, b, l)))

module _ (names : List (List ℕ)) where
  abbrev own_word : Keyed → List ℕ
  own_word k = act_word names k.act.now

  ascend_by_word : (ks : List Keyed) → ((k : Keyed) → IsIn k ks → IsKeyOf (own_word k) k.key) → Ascend (map (keyed_word names) ks) → Ascend (map own_word ks)
  ascend_by_word [] keys up = tt
  ascend_by_word (k ∷ ks) keys up = ((λ v m. first v (in_map_back own_word v ks m)), ascend_by_word ks (λ o m. keys o (inr m)) up.1)
    where
      first : (v : List ℕ) → (o : Keyed) × IsIn o ks × (own_word o ≡ v) → is_lt (slice_cmp nat_cmp v (own_word k)) ≡ false
      first v p =
          subst (λ (w : List ℕ). is_lt (slice_cmp nat_cmp w (own_word k)) ≡ false) p.2
          (by_word (own_word p.0) (own_word k) p.0.key k.key (keys p.0 (inr p.1)) (keys k (inl refl)) (up.0 (keyed_word names p.0) (in_map (keyed_word names) p.0 ks p.1)))

  pub acts_ascend : (ks : List Keyed) (acts : List Act) → ((k : Keyed) → IsIn k ks → IsKeyOf (act_word names k.act.now) k.key) → Ascend (map (keyed_word names) ks) → acts ≡ keyed_acts ks → Ascend (act_words names acts)
  acts_ascend ks acts keys up is =
      subst Ascend (sym (ap (λ (l : List Act). act_words names l) is ∙ map-map (act_word names) (λ (k : Keyed). k.act.now) ks)) (ascend_by_word ks keys up)

-- ---- the acts with their keys

pub keyed_more : (names : List (List ℕ)) (all : List Act) (i : ℕ) (d : Act) (old new : List Keyed) (k : Keyed) → i < length all → AreKeyed names (take i all) old → k.act.now ≡ slice_index_or all i d
    → IsKeyOf (act_word names k.act.now) k.key → new ≡ old ++ k ∷ [] → AreKeyed names (take (i + 1) all) new
keyed_more names all i d old new k h was act key is = rw is (record {
  acts = map-append (λ (o : Keyed). o.act.now) old (k ∷ []) ∙ ap (λ l. l ++ k.act.now ∷ []) was.acts ∙ ap (λ b. take i all ++ b ∷ []) act ∙ sym (take_more all i d h);
  keys = λ o m. keys_at o (in_push o k old m);
})
  where
    keys_at : (o : Keyed) → IsIn o old ⊎ (k ≡ o) → IsKeyOf (act_word names o.act.now) o.key
    keys_at o (inl m) = was.keys o m
    keys_at o (inr e) = subst (λ (v : Keyed). IsKeyOf (act_word names v.act.now) v.key) e key

pub keyed_whole : (names : List (List ℕ)) (all : List Act) (i : ℕ) (ks : List Keyed) → length all ≤ i → AreKeyed names (take i all) ks → AreKeyed names all ks
keyed_whole names all i ks h was = subst (λ l. AreKeyed names l ks) (take_all i all h) was

-- ---- in another order

pub order_kept : (all acts : List Act) (ks sorted : List Keyed) → keyed_acts ks ≡ all → IsPermutation ks sorted → acts ≡ keyed_acts sorted → IsPermutation all acts
order_kept all acts ks sorted is order are =
    subst (λ (l : List Act). IsPermutation all l) (sym are) (subst (λ (l : List Act). IsPermutation l (keyed_acts sorted)) is (IsPermutation-map (λ (k : Keyed). k.act.now) ks sorted order))
