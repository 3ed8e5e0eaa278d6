-- Entries of names as a finite map.
use Rattle.std.proofs.Common.{◌≡◌, ℕ, ◌≤◌, Bool, true, false, cond, List, [], ◌∷◌, refl, sym, ap, ◌∙◌, Option, Some, None, arith, ◌==◌, ◌⊎◌, is_some, inl, inr}
use Rattle.std.specs.Prelude.{map}
use Rattle.std.specs.Ordering.{nat_cmp, eq_by_cmp}
use Rattle.std.specs.Map.{lookup}
use Rattle.std.specs.FinMap as fin
use Rattle.std.proofs.lemmas.Cmp.{nat_cmp_total}
use Rattle.std.proofs.lemmas.Bool.Decides.{nat_tests}
use Rattle.chor_base.specs.declared.names.NameId.{NameId}
use Rattle.chor_base.specs.NameMap.{FromNames, map_of, with_first, takes_first}

-- numbers tie by their order where they are equal
pub ties : (x y : ℕ) → eq_by_cmp nat_cmp x y ≡ (x == y)
ties x y = grind (arith, nat_tests)

found : {V : Type 0} (es : List (NameId × V)) (x : NameId) → fin.find nat_cmp x.0 (map (λ e. (e.0.0, e.1)) es) ≡ lookup (λ k. x.0 == k.0) es
found [] x = refl
found (e ∷ es) x = ap (λ b. cond b (Some e.1) (fin.find nat_cmp x.0 (map (λ e. (e.0.0, e.1)) es))) (ties x.0 e.0.0) ∙ ap (cond (x.0 == e.0.0) (Some e.1)) (found es x)

-- the value of a name
pub get_found : {V : Type 0} (es : List (NameId × V)) (x : NameId) → fin.get (map_of es) x.0 ≡ lookup (λ k. x.0 == k.0) es
get_found es x = fin.get-from_entries nat_cmp_total (map (λ e. (e.0.0, e.1)) es) x.0 ∙ found es x

turned : (a b : ℕ) → eq_by_cmp nat_cmp a b ≡ (b == a)
turned a b = grind (arith, nat_tests)

-- what a map with one more value has
pub get_inserted : {V : Type 0} (m : FromNames V) (x : ℕ) (v : V) (q : ℕ) → fin.get (fin.insert m x v) q ≡ cond (x == q) (Some v) (fin.get m q)
get_inserted m x v q = fin.get-insert nat_cmp_total m x v q ∙ ap (λ b. cond b (Some v) (fin.get m q)) (turned q x)

-- maps that answer alike are the same
alike : {V : Type 0} (m n : FromNames V) → ((q : ℕ) → fin.get m q ≡ fin.get n q) → m ≡ n
alike m n h = fin.same_map nat_cmp_total fin.nat_cmp-IsAntisymmetric m n h

-- entries that answer like those with one more value are the map with it
pub put_found : {V : Type 0} (old new : List (NameId × V)) (x : NameId) (v : V) → ((q : NameId) → lookup (λ k. q.0 == k.0) new ≡ cond (x.0 == q.0) (Some v) (lookup (λ k. q.0 == k.0) old)) → map_of new ≡ fin.insert (map_of old) x.0 v
put_found old new x v h = alike (map_of new) (fin.insert (map_of old) x.0 v) (λ q.
    get_found new (record { 0 = q }) ∙ h (record { 0 = q }) ∙ ap (cond (x.0 == q) (Some v)) (sym (get_found old (record { 0 = q }))) ∙ sym (get_inserted (map_of old) x.0 v q))

-- entries that answer alike are one map
pub alike_maps : {V : Type 0} (es fs : List (NameId × V)) → ((q : NameId) → lookup (λ k. q.0 == k.0) es ≡ lookup (λ k. q.0 == k.0) fs) → map_of es ≡ map_of fs
alike_maps es fs h = alike (map_of es) (map_of fs) (λ q. get_found es (record { 0 = q }) ∙ h (record { 0 = q }) ∙ sym (get_found fs (record { 0 = q })))

-- ---- the name that came first

twice_at : {V : Type 0} (b : Bool) (v w : V) (rest : Option V) → cond b (Some v) (cond b (Some w) rest) ≡ cond b (Some v) rest
twice_at true v w rest = refl
twice_at false v w rest = refl

in_turn : {V : Type 0} (x k q : ℕ) (v w : V) (rest : Option V) → (k == x) ≡ false → cond (k == q) (Some w) (cond (x == q) (Some v) rest) ≡ cond (x == q) (Some v) (cond (k == q) (Some w) rest)
in_turn x k q v w rest h = go (x == q) (k == q) refl refl
  where
    go : (a b : Bool) → (x == q) ≡ a → (k == q) ≡ b → cond b (Some w) (cond a (Some v) rest) ≡ cond a (Some v) (cond b (Some w) rest)
    go true true e f = let clash : (k == x) ≡ true = grind (arith, nat_tests) in cc
    go true false e f = refl
    go false true e f = refl
    go false false e f = refl

-- the first name stands for something else
pub put_first : {V : Type 0} (f : Option (NameId × V)) (m : FromNames V) (x : NameId) (v : V) → takes_first f x ≡ true → with_first (Some (x, v)) m ≡ fin.insert (with_first f m) x.0 v
put_first None m x v h = refl
put_first (Some e) m x v h =
    let same : e.0.0 ≡ x.0 = grind (arith, nat_tests) in
    alike _ _ (λ q.
    get_inserted m x.0 v q ∙ sym (twice_at (x.0 == q) v e.1 (fin.get m q))
    ∙ ap (λ n. cond (x.0 == q) (Some v) (cond (n == q) (Some e.1) (fin.get m q))) (sym same)
    ∙ ap (cond (x.0 == q) (Some v)) (sym (get_inserted m e.0.0 e.1 q)) ∙ sym (get_inserted (fin.insert m e.0.0 e.1) x.0 v q))

-- another name does
pub put_other : {V : Type 0} (f : Option (NameId × V)) (m : FromNames V) (x : NameId) (v : V) → takes_first f x ≡ false → with_first f (fin.insert m x.0 v) ≡ fin.insert (with_first f m) x.0 v
put_other None m x v h = absurd cc
put_other (Some e) m x v h = alike _ _ (λ q.
    get_inserted (fin.insert m x.0 v) e.0.0 e.1 q ∙ ap (cond (e.0.0 == q) (Some e.1)) (get_inserted m x.0 v q) ∙ in_turn x.0 e.0.0 q v e.1 (fin.get m q) h
    ∙ ap (cond (x.0 == q) (Some v)) (sym (get_inserted m e.0.0 e.1 q)) ∙ sym (get_inserted (fin.insert m e.0.0 e.1) x.0 v q))

-- what a name stands for that isn't the first
pub get_other : {V : Type 0} (f : Option (NameId × V)) (m : FromNames V) (x : NameId) → takes_first f x ≡ false → fin.get (with_first f m) x.0 ≡ fin.get m x.0
get_other None m x h = absurd cc
get_other (Some e) m x h = get_inserted m e.0.0 e.1 x.0 ∙ ap (λ b. cond b (Some e.1) (fin.get m x.0)) h

-- what the first name stands for
pub get_first : {V : Type 0} (f : Option (NameId × V)) (m : FromNames V) (k x : NameId) (v : V) → f ≡ Some (k, v) → (k.0 == x.0) ≡ true → fin.get (with_first f m) x.0 ≡ Some v
get_first f m k x v is own = ap (λ g. fin.get (with_first g m) x.0) is ∙ get_inserted m k.0 v x.0 ∙ ap (λ b. cond b (Some v) (fin.get m x.0)) own

-- a name that stands for something, or for which there is room, can be put among the others
pub no_room : {V : Type 0} (f : Option (NameId × V)) (es : List (NameId × V)) (x : NameId) (n : ℕ) → takes_first f x ≡ false → lookup (λ k. x.0 == k.0) es ≡ None → (1 ≤ n → ⊥)
    → ((is_some (fin.get (with_first f (map_of es)) x.0) ≡ true) ⊎ (1 ≤ n)) → ⊥
no_room f es x n other absent none some = elim some [ inl h ↦ (let e : is_some (fin.get (with_first f (map_of es)) x.0) ≡ false = ap is_some (get_other f (map_of es) x other ∙ get_found es x ∙ absent) in cc) | inr h ↦ none h ]
