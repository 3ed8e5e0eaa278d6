-- Tables of places, filled from left to right, and what is found by them.
use Rattle.std.proofs.Common.{◌≡◌, ℕ, suc, ◌+◌, ◌<◌, ◌≤◌, ◌||◌, Bool, true, false, not, List, [], ◌∷◌, ◌++◌, length, map, take, drop, refl, ap, sym, ◌∙◌, Some, None, arith, add-one, drop-cons, cond, is_some}
use Rattle.std.specs.Prelude.{Option, slice_index_or, slice_get, if◌then◌else◌, option_copied, IfSome, nat_lt}
use Rattle.std.specs.Borrow.{Bor}
use Rattle.std.proofs.lemmas.List.{take_more, take_all, drop_all, map-append, length-map, length-take-le}
use Rattle.std.proofs.lemmas.Option.{slice_get-get_or, slice_get_past}
use Rattle.std.proofs.lemmas.Bool.Decides.{nat_tests}
use Rattle.chor_base.specs.declared.fault.Fault.{Fault}
use Rattle.chor_base.specs.FirstPlaces.{one_later, or_else}
use Rattle.chor_base.proofs.FirstPlaces.{or_none}
use Rattle.chor_base.specs.Faults.{earlier, first_of_all}
use Rattle.chor_base.proofs.Faults.{first_append, earlier_assoc, earlier_none}
use Rattle.endpoint_names.specs.declared.key.Key.{Key}
use Rattle.endpoint_names.specs.declared.key.Sign.{Sign}
use Rattle.endpoint_names.specs.declared.places.Places.{Places}
use Rattle.endpoint_names.specs.Keys.{same_key, is_known, keys_of, first_by}
use Rattle.endpoint_names.specs.Places.{place_of, place_in, IsIndex}
use Rattle.endpoint_names.specs.Faults.{fault_at, repeated}
use Rattle.endpoint_names.proofs.Keys.{key_is, key_turned}

-- ---- a key gets a place

pub put_place : (new old : Key → Option ℕ) (x : Key) (i : ℕ) → ((k : Key) → new k ≡ cond (same_key x k) (Some i) (old k)) → is_some (old x) ≡ false
    → (k : Key) → new k ≡ or_else (old k) (if same_key x k then Some i else None)
put_place new old x i put absent k = put k ∙ go (same_key x k) refl where
  nowhere : (o : Option ℕ) → is_some o ≡ false → Some i ≡ or_else o (Some i)
  nowhere None h = refl
  nowhere (Some n) h = absurd cc

  go : (b : Bool) → same_key x k ≡ b → cond b (Some i) (old k) ≡ or_else (old k) (if b then Some i else None)
  go true e = nowhere (old k) (ap (λ y. is_some (old y)) (sym (key_is x k e)) ∙ absent)
  go false e = sym (or_none (old k))

pub kept_place : (old : Key → Option ℕ) (x : Key) (i : ℕ) → is_some (old x) ≡ true → (k : Key) → old k ≡ or_else (old k) (if same_key x k then Some i else None)
kept_place old x i there k = go (same_key x k) refl where
  somewhere : (o : Option ℕ) → is_some o ≡ true → o ≡ or_else o (Some i)
  somewhere None h = absurd cc
  somewhere (Some n) h = refl

  go : (b : Bool) → same_key x k ≡ b → old k ≡ or_else (old k) (if b then Some i else None)
  go true e = somewhere (old k) (ap (λ y. is_some (old y)) (sym (key_is x k e)) ∙ there)
  go false e = sym (or_none (old k))

-- ---- one item more

later_or : (a b : Option ℕ) → one_later (or_else a b) ≡ or_else (one_later a) (one_later b)
later_or None b = refl
later_or (Some n) b = refl

place_more : (ks : List Key) (x k : Key) → place_in (ks ++ x ∷ []) k ≡ or_else (place_in ks k) (if same_key k x then Some (length ks) else None)
place_more [] x k = go (same_key k x) where
  go : (b : Bool) → (if b then Some 0 else None) ≡ or_else None (if b then Some 0 else None)
  go true = refl
  go false = refl
place_more (y ∷ ks) x k = go (same_key k y) (place_more ks x k) where
  ends : (b : Bool) → one_later (if b then Some (length ks) else None) ≡ (if b then Some (suc (length ks)) else None)
  ends true = refl
  ends false = refl

  go : (b : Bool) → place_in (ks ++ x ∷ []) k ≡ or_else (place_in ks k) (if same_key k x then Some (length ks) else None)
      → (if b then Some 0 else one_later (place_in (ks ++ x ∷ []) k)) ≡ or_else (if b then Some 0 else one_later (place_in ks k)) (if same_key k x then Some (suc (length ks)) else None)
  go true h = refl
  go false h = ap one_later h ∙ later_or (place_in ks k) (if same_key k x then Some (length ks) else None) ∙ ap (or_else (one_later (place_in ks k))) (ends (same_key k x))

-- a key is known where it has a place
pub known_placed : (ks : List Key) (k : Key) → is_some (place_in ks k) ≡ is_known ks k
known_placed [] k = refl
known_placed (x ∷ xs) k = go (same_key k x) (place_in xs k) (known_placed xs k) where
  go : (b : Bool) (o : Option ℕ) → is_some o ≡ is_known xs k → is_some (if b then Some 0 else one_later o) ≡ (b || is_known xs k)
  go true o h = refl
  go false None h = h
  go false (Some n) h = h

module _ {X : Type 0} (f : X → Sign) (xs : List X) (i : ℕ) (x : X) (s : Sign) (lt : i < length xs) (at : x ≡ slice_index_or xs i x) (is : s ≡ f x) where
  keys_more : keys_of f (take (i + 1) xs) ≡ keys_of f (take i xs) ++ s.key ∷ []
  keys_more =
      ap (keys_of f) (take_more xs i x lt) ∙ map-append (λ y. (f y).key) (take i xs) (slice_index_or xs i x ∷ [])
      ∙ ap (λ k. keys_of f (take i xs) ++ k ∷ []) (ap (λ y. (f y).key) (sym at) ∙ ap (λ t. t.key) (sym is))

  count : length (keys_of f (take i xs)) ≡ i
  count = length-map (take i xs) (λ y. (f y).key) ∙ length-take-le i xs (omega arith)

  left : drop i xs ≡ x ∷ drop (i + 1) xs
  left = (let p : drop i xs ≡ slice_index_or xs i x ∷ drop (i + 1) xs = rw (add-one, drop-cons xs i x) refl in p) ∙ ap (λ y. y ∷ drop (i + 1) xs) (sym at)

  pub index_turn : (old new : Places) → IsIndex (keys_of f (take i xs)) old
      → ((k : Key) → place_of new k ≡ or_else (place_of old k) (if same_key s.key k then Some i else None))
      → IsIndex (keys_of f (take (i + 1) xs)) new
  index_turn old new is_index put k =
      put k ∙ ap (λ o. or_else o (if same_key s.key k then Some i else None)) (is_index k)
      ∙ ap (λ b. or_else (place_in (keys_of f (take i xs)) k) (if b then Some i else None)) (key_turned s.key k)
      ∙ ap (λ n. or_else (place_in (keys_of f (take i xs)) k) (if same_key k s.key then Some n else None)) (sym count)
      ∙ sym (place_more (keys_of f (take i xs)) s.key k) ∙ ap (λ l. place_in l k) (sym keys_more)

  pub repeated_turn : (old : Places) (first found new whole : Option Fault) (is_new : Bool) → IsIndex (keys_of f (take i xs)) old
      → is_new ≡ not (is_some (place_of old s.key)) → found ≡ first_of_all (fault_at (not is_new) s.place) → new ≡ earlier first found
      → earlier first (first_of_all (repeated (keys_of f (take i xs)) (map f (drop i xs)))) ≡ whole
      → earlier new (first_of_all (repeated (keys_of f (take (i + 1) xs)) (map f (drop (i + 1) xs)))) ≡ whole
  repeated_turn old first found new whole is_new is_index is_is_new is_found is_first so_far =
      let known = keys_of f (take i xs) in
      let rest = map f (drop (i + 1) xs) in
      let twice : (b : Bool) → not (not b) ≡ b = twice_not in
      let b : not is_new ≡ is_known known s.key = ap not is_is_new ∙ twice (is_some (place_of old s.key)) ∙ ap is_some (is_index s.key) ∙ known_placed known s.key in
      let now : repeated known (map f (drop i xs)) ≡ fault_at (is_known known s.key) s.place ++ repeated (known ++ s.key ∷ []) rest =
      ap (λ l. repeated known (map f l)) left ∙ ap (λ t. repeated known (t ∷ rest)) (sym is) in
      ap (λ l. earlier new (first_of_all (repeated l rest))) keys_more
      ∙ ap (λ o. earlier o (first_of_all (repeated (known ++ s.key ∷ []) rest))) (is_first ∙ ap (earlier first) (is_found ∙ ap (λ c. first_of_all (fault_at c s.place)) b))
      ∙ earlier_assoc first (first_of_all (fault_at (is_known known s.key) s.place)) (first_of_all (repeated (known ++ s.key ∷ []) rest))
      ∙ ap (earlier first) (sym (first_append (fault_at (is_known known s.key) s.place) (repeated (known ++ s.key ∷ []) rest)) ∙ ap first_of_all (sym now))
      ∙ so_far where
        twice_not : (b : Bool) → not (not b) ≡ b
        twice_not true = refl
        twice_not false = refl

pub index_ends : {X : Type 0} (f : X → Sign) (xs : List X) (i : ℕ) (p : Places) → length xs ≤ i → IsIndex (keys_of f (take i xs)) p → IsIndex (keys_of f xs) p
index_ends f xs i p le is k = is k ∙ ap (λ l. place_in (keys_of f l) k) (take_all i xs le)

pub repeated_ends : {X : Type 0} (f : X → Sign) (xs : List X) (i : ℕ) (known : List Key) (first whole : Option Fault) → length xs ≤ i
    → earlier first (first_of_all (repeated known (map f (drop i xs)))) ≡ whole → first ≡ whole
repeated_ends f xs i known first whole le h = sym (earlier_none first) ∙ ap (λ l. earlier first (first_of_all (repeated known (map f l)))) (sym (drop_all i xs le)) ∙ h

-- ---- what is found

-- the item at a place
abbrev pub item_at : {X : Type 0} → List X → Option ℕ → Option X
item_at xs None = None
item_at xs (Some k) = slice_get xs k

pub found : {X : Type 0} (f : X → Sign) (xs : List X) (k : Key) → first_by f xs k ≡ item_at xs (place_in (keys_of f xs) k)
found f [] k = refl
found f (x ∷ xs) k = go (same_key k (f x).key) (place_in (keys_of f xs) k) (found f xs k) where
  go : (b : Bool) (o : Option ℕ) → first_by f xs k ≡ item_at xs o → (if b then Some x else first_by f xs k) ≡ item_at (x ∷ xs) (if b then Some 0 else one_later o)
  go true o h = refl
  go false None h = h
  go false (Some n) h = h

module _ {X : Type 0} (f : X → Sign) (xs : List X) (p : Places) (k : Key) where
  pub found_there : (n : ℕ) (o : Option X) → IsIndex (keys_of f xs) p → place_of p k ≡ Some n → o ≡ slice_get xs n → o ≡ first_by f xs k
  found_there n o is e h = h ∙ ap (item_at xs) (sym e ∙ is k) ∙ sym (found f xs k)

  pub found_none : IsIndex (keys_of f xs) p → place_of p k ≡ None → None ≡ first_by f xs k
  found_none is e = ap (item_at xs) (sym e ∙ is k) ∙ sym (found f xs k)

-- what a slice answers for a place
pub got : {X : Type 0} (o : Option (Bor X)) (xs : List X) (k : ℕ) → is_some o ≡ nat_lt k (length xs) → IfSome o (λ x. x.now ≡ slice_index_or xs k x.now) → option_copied o ≡ slice_get xs k
got (Some b) xs k h e = let lt : k < length xs = grind (arith, nat_tests) in sym (slice_get-get_or xs k b.now lt ∙ ap (λ x. Some x) (sym e))
got None xs k h e = let le : length xs ≤ k = grind (arith, nat_tests) in sym (slice_get_past xs k le)
