-- The holders of declared sessions, of which no two have one name.
use Rattle.std.proofs.Common.{◌≡◌, ℕ, zero, suc, ◌<◌, ◌==◌, ◌&&◌, ◌||◌, Bool, true, false, List, [], ◌∷◌, length, take, map, refl, ap, ◌∙◌, arith}
use Rattle.std.specs.Prelude.{not, slice_index_or}
use Rattle.std.specs.List.{flat_map}
use Rattle.chor_base.specs.declared.names.NameId.{NameId}
use Rattle.chor_tree.specs.declared.file.SessionParam.{SessionParam}
use Rattle.chor_tree.specs.Names.{is_among}
use Rattle.delegation.specs.Checks.{all_differ}
use Rattle.delegation.specs.Owners.{Lacks, listed}
use Rattle.delegation.proofs.Parts.{apart, lacks_append, own_listed}

or_left : (a b : Bool) → (a || b) ≡ false → a ≡ false
or_left true b e = cc
or_left false b e = refl

or_right : (a b : Bool) → (a || b) ≡ false → b ≡ false
or_right true b e = cc
or_right false b e = e

and_left : (a b : Bool) → (a && b) ≡ true → a ≡ true
and_left true b e = refl
and_left false b e = cc

and_right : (a b : Bool) → (a && b) ≡ true → b ≡ true
and_right true b e = e
and_right false b e = cc

not_true : (a : Bool) → not a ≡ true → a ≡ false
not_true true e = cc
not_true false e = refl

-- a name that isn't among those of a list isn't that of an item
not_among : (ks : List SessionParam) (i : ℕ) (k : SessionParam) (x : NameId) → is_among (map (λ k. k.name.name) ks) x ≡ false → i < length ks
    → k ≡ slice_index_or ks i k → (k.name.name.0 == x.0) ≡ false
not_among [] i k x none lt is_k = absurd (omega arith)
not_among (y ∷ ys) zero k x none lt is_k = ap (λ (s : SessionParam). s.name.name.0 == x.0) is_k ∙ or_left (y.name.name.0 == x.0) (is_among (map (λ k. k.name.name) ys) x) none
not_among (y ∷ ys) (suc i) k x none lt is_k =
    let within : i < length ys = omega arith in
    not_among ys i k x (or_right (y.name.name.0 == x.0) (is_among (map (λ k. k.name.name) ys) x) none) within is_k

-- no role of a session has a holder among those of the sessions before it
pub lacks_before : (ks : List SessionParam) (i : ℕ) (k : SessionParam) → all_differ (map (λ k. k.name.name) ks) ≡ true → i < length ks → k ≡ slice_index_or ks i k
    → Lacks k.name.name (flat_map (λ k. listed k.name.name k.holders) (take i ks))
lacks_before [] i k differ lt is_k = absurd (omega arith)
lacks_before (y ∷ ys) zero k differ lt is_k = refl
lacks_before (y ∷ ys) (suc i) k differ lt is_k =
    let within : i < length ys = omega arith in
    let first = and_left (not (is_among (map (λ k. k.name.name) ys) y.name.name)) (all_differ (map (λ k. k.name.name) ys)) differ in
    let others = and_right (not (is_among (map (λ k. k.name.name) ys) y.name.name)) (all_differ (map (λ k. k.name.name) ys)) differ in
    let other = not_among ys i k y.name.name (not_true (is_among (map (λ k. k.name.name) ys) y.name.name) first) within is_k in
    lacks_append k.name.name (listed y.name.name y.holders) (flat_map (λ k. listed k.name.name k.holders) (take i ys))
    (apart y.name.name k.name.name (listed y.name.name y.holders) other (own_listed y.name.name y.holders)) (lacks_before ys i k others within is_k)
