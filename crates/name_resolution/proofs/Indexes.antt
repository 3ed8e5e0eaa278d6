-- Tables of places, filled from left to right, and what is found by them.
use Rattle.std.proofs.Common.{◌≡◌, ℕ, ◌+◌, ◌<◌, ◌≤◌, ◌==◌, ◌||◌, Bool, true, false, List, [], ◌∷◌, length, drop, refl, ap, sym, ◌∙◌, arith}
use Rattle.std.specs.Prelude.{slice_index_or, slice_get, Option, Some, None, is_some, if◌then◌else◌, option_copied, IfSome, nat_lt}
use Rattle.std.specs.Borrow.{Bor}
use Rattle.std.specs.FinMap as fin
use Rattle.std.proofs.lemmas.Option.{slice_get-get_or, slice_get_past}
use Rattle.std.proofs.lemmas.Bool.Decides.{nat_tests}
use Rattle.chor_base.specs.declared.names.NameId.{NameId}
use Rattle.chor_base.specs.NameMap.{FromNames}
use Rattle.chor_base.specs.FirstPlaces.{one_later, or_else, with_place}
use Rattle.chor_base.proofs.FirstPlaces.{later, or_none, none_yet, one_more}
use Rattle.chor_tree.specs.declared.file.Named.{Named}
use Rattle.chor_tree.specs.Names.{is_among, first_named}
use Rattle.name_resolution.specs.Places.{names_of, place_in, IsIndex}
use Rattle.name_resolution.proofs.Repeats.{taken}

-- the table so far, with the places of the names that are left, is the whole table
abbrev pub IsIndexSoFar : List NameId → ℕ → List NameId → FromNames ℕ → Type 0
IsIndexSoFar all i rest places = (x : NameId) → or_else (fin.get places x.0) (later i (place_in rest x)) ≡ place_in all x

pub begins : (all : List NameId) (places : FromNames ℕ) → places ≡ fin.empty → IsIndexSoFar all 0 all places
begins all places e x = none_yet places x (place_in all x) e

pub index_turn : {X : Type 0} (f : X → Named) (xs : List X) (i : ℕ) (x d : X) (n : Named) (old new : FromNames ℕ)
    → i < length xs → x ≡ slice_index_or xs i d → n ≡ f x → new ≡ with_place old n.name i
    → IsIndexSoFar (names_of f xs) i (names_of f (drop i xs)) old
    → IsIndexSoFar (names_of f xs) (i + 1) (names_of f (drop (i + 1) xs)) new
index_turn f xs i x d n old new lt is_x is_n is_new so_far y =
    let rest = names_of f (drop (i + 1) xs) in
    ap (λ m. or_else (fin.get m y.0) (later (i + 1) (place_in rest y))) is_new
    ∙ one_more old n.name y i (place_in rest y)
    ∙ ap (λ l. or_else (fin.get old y.0) (later i (place_in l y))) (ap (λ m. m.name ∷ rest) is_n ∙ ap (λ l. names_of f l) (sym (taken xs i x d lt is_x)))
    ∙ so_far y

pub index_ends : (all rest : List NameId) (i : ℕ) (places : FromNames ℕ) → rest ≡ [] → IsIndexSoFar all i rest places → IsIndex all places
index_ends all rest i places e so_far x = sym (or_none (fin.get places x.0)) ∙ ap (λ l. or_else (fin.get places x.0) (later i (place_in l x))) (sym e) ∙ so_far x

-- ---- what is found

-- the item at a place
abbrev pub item_at : {X : Type 0} → List X → Option ℕ → Option X
item_at xs None = None
item_at xs (Some k) = slice_get xs k

pub found : {X : Type 0} (f : X → Named) (xs : List X) (x : NameId) → first_named f xs x ≡ item_at xs (place_in (names_of f xs) x)
found f [] x = refl
found f (a ∷ as') x = go ((f a).name.0 == x.0) (place_in (names_of f as') x) (found f as' x) where
  go : (b : Bool) (o : Option ℕ) → first_named f as' x ≡ item_at as' o → (if b then Some a else first_named f as' x) ≡ item_at (a ∷ as') (if b then Some 0 else one_later o)
  go true o h = refl
  go false None h = h
  go false (Some k) h = h

module _ {X : Type 0} (f : X → Named) (xs : List X) (places : FromNames ℕ) (x : NameId) where
  pub found_there : (k : ℕ) (o : Option X) → IsIndex (names_of f xs) places → fin.get places x.0 ≡ Some k → o ≡ slice_get xs k → o ≡ first_named f xs x
  found_there k o is e h = h ∙ ap (λ p. item_at xs p) (sym e ∙ is x) ∙ sym (found f xs x)

  pub found_none : IsIndex (names_of f xs) places → fin.get places x.0 ≡ None → None ≡ first_named f xs x
  found_none is e = ap (λ p. item_at xs p) (sym e ∙ is x) ∙ sym (found f xs x)

-- a name is among those of a list where it has a place in it
pub among_placed : (xs : List NameId) (x : NameId) → is_some (place_in xs x) ≡ is_among xs x
among_placed [] x = refl
among_placed (y ∷ ys) x = go (y.0 == x.0) (place_in ys x) (among_placed ys x) where
  go : (b : Bool) (o : Option ℕ) → is_some o ≡ is_among ys x → is_some (if b then Some 0 else one_later o) ≡ (b || is_among ys x)
  go true o h = refl
  go false None h = h
  go false (Some k) h = h

-- what a slice answers for a place
pub got : {X : Type 0} (o : Option (Bor X)) (xs : List X) (k : ℕ) → is_some o ≡ nat_lt k (length xs) → IfSome o (λ x. x.now ≡ slice_index_or xs k x.now) → option_copied o ≡ slice_get xs k
got (Some b) xs k h e = let lt : k < length xs = grind (arith, nat_tests) in sym (slice_get-get_or xs k b.now lt ∙ ap (λ x. Some x) (sym e))
got None xs k h e = let le : length xs ≤ k = grind (arith, nat_tests) in sym (slice_get_past xs k le)
