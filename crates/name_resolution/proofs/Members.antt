-- Lists of names as sets.
use Rattle.std.proofs.Common.{◌≡◌, ℕ, suc, ◌+◌, ◌==◌, ◌||◌, Bool, true, false, List, [], ◌∷◌, ◌++◌, refl, ap, sym, ◌∙◌, arith, append_assoc, take, drop, length, add-one, drop-cons, ◌<◌, ◌&&◌}
use Rattle.std.proofs.lemmas.Bool.Decides.{nat_tests}
use Rattle.std.specs.List.{list_any, list_all}
use Rattle.chor_base.specs.declared.names.NameId.{NameId}
use Rattle.std.specs.Prelude.{if◌then◌else◌, map, slice_index_or}
use Rattle.std.proofs.lemmas.List.Folds.{list_any-append}
use Rattle.std.proofs.lemmas.List.{append-nil}
use Rattle.std.proofs.Math.Seq.{take-append_seam}
use Rattle.chor_tree.specs.declared.file.Named.{Named}
use Rattle.chor_tree.specs.declared.tree.Part.{Part}
use Rattle.chor_tree.specs.Names.{is_among, names_in, are_same, Scope}
use Rattle.name_resolution.specs.Sets.{AreAlike, IsSameScope, with_name, Grows, BeginsWith, scope_of}

turned : (a b : ℕ) → (a == b) ≡ (b == a)
turned a b = grind (arith, nat_tests)

pub among_turned : (xs : List NameId) (x : NameId) → list_any (λ y. x.0 == y.0) xs ≡ is_among xs x
among_turned [] x = refl
among_turned (y ∷ ys) x = ap (λ b. b || list_any (λ z. x.0 == z.0) ys) (turned x.0 y.0) ∙ ap (λ b. (y.0 == x.0) || b) (among_turned ys x)

-- ---- sets that are alike

pub alike_itself : (xs : List NameId) → AreAlike xs xs
alike_itself xs x = refl

pub alike_of : (xs ys : List NameId) → xs ≡ ys → AreAlike xs ys
alike_of xs ys e x = ap (λ l. is_among l x) e

pub among_append : (xs ys : List NameId) (x : NameId) → is_among (xs ++ ys) x ≡ (is_among xs x || is_among ys x)
among_append xs ys x = list_any-append (λ y. y.0 == x.0) xs ys

same_number : (m n : ℕ) → (m == n) ≡ true → m ≡ n
same_number m n h = grind (arith, nat_tests)

or_again : (a b : Bool) → (a ≡ true → b ≡ true) → b ≡ (a || b)
or_again true b h = h refl
or_again false b h = refl

or_turned : (a b : Bool) → (b || (a || false)) ≡ (a || b)
or_turned true true = refl
or_turned true false = refl
or_turned false true = refl
or_turned false false = refl

or_assoc : (a b c : Bool) → ((a || b) || c) ≡ (a || (b || c))
or_assoc true b c = refl
or_assoc false b c = refl

-- a name that came into a set
pub with_alike : (xs : List NameId) (x : NameId) → AreAlike (with_name xs x) (x ∷ xs)
with_alike xs x y = go (is_among xs x) refl where
  go : (b : Bool) → is_among xs x ≡ b → is_among (if b then xs else xs ++ x ∷ []) y ≡ ((x.0 == y.0) || is_among xs y)
  go true e = or_again (x.0 == y.0) (is_among xs y) (λ h. ap (λ n. list_any (λ z. z.0 == n) xs) (sym (same_number x.0 y.0 h)) ∙ e)
  go false e = among_append xs (x ∷ []) y ∙ or_turned (x.0 == y.0) (is_among xs y)

-- the same names after one came out of the list that is still to be added
pub alike_turn : (known all : List NameId) (x : NameId) (rest : List NameId) → AreAlike (known ++ x ∷ rest) all → AreAlike (with_name known x ++ rest) all
alike_turn known all x rest h y =
    among_append (with_name known x) rest y ∙ ap (λ b. b || is_among rest y) (with_alike known x y) ∙ shuffled (x.0 == y.0) (is_among known y) (is_among rest y)
    ∙ sym (among_append known (x ∷ rest) y) ∙ h y where
      shuffled : (a b c : Bool) → ((a || b) || c) ≡ (b || (a || c))
      shuffled true true c = refl
      shuffled true false c = refl
      shuffled false b c = refl

pub map_itself : {X : Type 0} (xs : List X) → map (λ x. x) xs ≡ xs
map_itself [] = refl
map_itself (x ∷ xs) = ap (λ l. x ∷ l) (map_itself xs)

or_false : (a : Bool) → (a || false) ≡ a
or_false true = refl
or_false false = refl

or_or : (a b : Bool) → (a || b) ≡ (b || (a || false))
or_or true true = refl
or_or true false = refl
or_or false true = refl
or_or false false = refl

-- the same with the name behind the others
pub with_last : (xs : List NameId) (x : NameId) → AreAlike (with_name xs x) (xs ++ x ∷ [])
with_last xs x y = with_alike xs x y ∙ or_or (x.0 == y.0) (is_among xs y) ∙ sym (among_append xs (x ∷ []) y)

pub alike_append : (xs xs' ys ys' : List NameId) → AreAlike xs xs' → AreAlike ys ys' → AreAlike (xs ++ ys) (xs' ++ ys')
alike_append xs xs' ys ys' h k x = among_append xs ys x ∙ ap (λ b. b || is_among ys x) (h x) ∙ ap (λ b. is_among xs' x || b) (k x) ∙ sym (among_append xs' ys' x)

-- a name that came into the first of two sets, or into the second
pub with_first_of_two : (xs ys : List NameId) (x : NameId) → AreAlike (with_name xs x ++ ys) (x ∷ (xs ++ ys))
with_first_of_two xs ys x y = among_append (with_name xs x) ys y ∙ ap (λ b. b || is_among ys y) (with_alike xs x y) ∙ or_assoc (x.0 == y.0) (is_among xs y) (is_among ys y) ∙ ap (λ b. (x.0 == y.0) || b) (sym (among_append xs ys y))

pub with_second_of_two : (xs ys : List NameId) (x : NameId) → AreAlike (xs ++ with_name ys x) (x ∷ (xs ++ ys))
with_second_of_two xs ys x y = among_append xs (with_name ys x) y ∙ ap (λ b. is_among xs y || b) (with_alike ys x y) ∙ shuffled (is_among xs y) (x.0 == y.0) (is_among ys y) ∙ ap (λ b. (x.0 == y.0) || b) (sym (among_append xs ys y)) where
  shuffled : (a b c : Bool) → (a || (b || c)) ≡ (b || (a || c))
  shuffled true true c = refl
  shuffled true false c = refl
  shuffled false b c = refl

-- ---- sets that grow

pub grows_itself : (xs : List NameId) → Grows xs xs
grows_itself xs = ([], sym (append-nil xs))

pub grows_on : (xs ys zs : List NameId) → Grows xs ys → Grows ys zs → Grows xs zs
grows_on xs ys zs g h = (g.0 ++ h.0, h.1 ∙ ap (λ l. l ++ h.0) g.1 ∙ append_assoc xs g.0 h.0)

pub grows_with : (xs : List NameId) (x : NameId) → Grows xs (with_name xs x)
grows_with xs x = go (is_among xs x) where
  go : (b : Bool) → Grows xs (if b then xs else xs ++ x ∷ [])
  go true = grows_itself xs
  go false = (x ∷ [], refl)

-- what was there comes back
pub back : (xs ys : List NameId) → Grows xs ys → take (length xs) ys ≡ xs
back xs ys g = ap (λ l. take (length xs) l) g.1 ∙ take-append_seam xs g.0

-- ---- a test of all names

taken_name : (xs : List Named) (i : ℕ) (d : Named) → i < length xs → drop i xs ≡ slice_index_or xs i d ∷ drop (i + 1) xs
taken_name xs i d h = rw (add-one, drop-cons xs i d) refl

pub all_turn : (p : NameId → Bool) (xs : List Named) (i : ℕ) (d : Named) (whole : Bool) → i < length xs → p (slice_index_or xs i d).name ≡ true
    → list_all p (names_in (drop i xs)) ≡ whole → list_all p (names_in (drop (i + 1) xs)) ≡ whole
all_turn p xs i d whole h passes so_far =
    let rest = list_all p (names_in (drop (i + 1) xs)) in
    ap (λ b. b && rest) (sym passes) ∙ ap (λ l. list_all p (names_in l)) (sym (taken_name xs i d h)) ∙ so_far

pub all_fails : (p : NameId → Bool) (xs : List Named) (i : ℕ) (d : Named) → i < length xs → p (slice_index_or xs i d).name ≡ false → list_all p (names_in (drop i xs)) ≡ false
all_fails p xs i d h fails =
    let rest = list_all p (names_in (drop (i + 1) xs)) in
    ap (λ l. list_all p (names_in l)) (taken_name xs i d h) ∙ ap (λ b. b && rest) fails

-- ---- parts and their roles

-- lists of other lengths aren't the same
pub lengths_differ : (qs : List Part) (rs : List Named) → (length qs ≡ length rs → ⊥) → are_same (map (λ q. q.role.name) qs) (names_in rs) ≡ false
lengths_differ [] [] h = absurd (h refl)
lengths_differ [] (r ∷ rs) h = refl
lengths_differ (q ∷ qs) [] h = refl
lengths_differ (q ∷ qs) (r ∷ rs) h = ap (λ b. (q.role.name.0 == r.name.0) && b) (lengths_differ qs rs (λ e. h (ap suc e))) ∙ and_false (q.role.name.0 == r.name.0) where
  and_false : (b : Bool) → (b && false) ≡ false
  and_false true = refl
  and_false false = refl

pub begins_on : (s t u : Scope) → BeginsWith s t → BeginsWith t u → BeginsWith s u
begins_on s t u g h = record { processes = grows_on s.processes t.processes u.processes g.processes h.processes; sessions = grows_on s.sessions t.sessions u.sessions g.sessions h.sessions }

pub begins_itself : (s : Scope) → BeginsWith s s
begins_itself s = record { processes = grows_itself s.processes; sessions = grows_itself s.sessions }

pub scope_itself : (s : Scope) → IsSameScope s s
scope_itself s = record { processes = alike_itself s.processes; sessions = alike_itself s.sessions }

-- what was bound at a mark is bound again
pub back_at : (s t u : Scope) (ps ks : ℕ) → BeginsWith s t → ps ≡ length s.processes → ks ≡ length s.sessions → u ≡ scope_of (take ps t.processes) (take ks t.sessions) → u ≡ s
back_at s t u ps ks g p k is =
    is ∙ ap (λ n. scope_of (take n t.processes) (take ks t.sessions)) p ∙ ap (λ n. scope_of (take (length s.processes) t.processes) (take n t.sessions)) k
    ∙ ap (λ l. scope_of l (take (length s.sessions) t.sessions)) (back s.processes t.processes g.processes) ∙ ap (λ l. scope_of s.processes l) (back s.sessions t.sessions g.sessions)
