-- When keys are the same.
use Rattle.std.proofs.Common.{◌≡◌, ℕ, ◌==◌, ◌&&◌, Bool, true, false, not, List, [], ◌∷◌, refl, ap, ◌∙◌, Some, None, arith}
use Rattle.std.specs.Prelude.{Option, if◌then◌else◌}
use Rattle.std.specs.List.{filter}
use Rattle.std.specs.Option.{option_eq}
use Rattle.std.proofs.lemmas.Bool.Decides.{nat_tests}
use Rattle.std.proofs.lemmas.Bool.{eqb-true}
use Rattle.chor_base.specs.declared.names.NameId.{NameId}
use Rattle.endpoint_code.specs.Faults.{without}
use Rattle.endpoint_names.specs.declared.key.Key.{Key}
use Rattle.endpoint_names.specs.Keys.{same_key}

pub number_turned : (m n : ℕ) → (m == n) ≡ (n == m)
number_turned m n = grind (arith, nat_tests)

pub number_itself : (n : ℕ) → (n == n) ≡ true
number_itself n = grind (arith, nat_tests)

pub same_name : (x y : NameId) → (x.0 == y.0) ≡ true → x ≡ y
same_name x y h = let e = eqb-true x.0 y.0 h in let name : ℕ → NameId = λ n. record { 0 = n } in ap name e

pub left_true : (a b : Bool) → (a && b) ≡ true → a ≡ true
left_true true b h = refl
left_true false b h = absurd cc

pub right_true : (a b : Bool) → (a && b) ≡ true → b ≡ true
right_true true b h = h
right_true false b h = absurd cc

second_turned : (a b : Option NameId) → option_eq (λ (x y : NameId). x.0 == y.0) a b ≡ option_eq (λ (x y : NameId). x.0 == y.0) b a
second_turned None None = refl
second_turned None (Some y) = refl
second_turned (Some x) None = refl
second_turned (Some x) (Some y) = number_turned x.0 y.0

second_same : (a b : Option NameId) → option_eq (λ (x y : NameId). x.0 == y.0) a b ≡ true → a ≡ b
second_same None None h = refl
second_same None (Some y) h = absurd cc
second_same (Some x) None h = absurd cc
second_same (Some x) (Some y) h = ap (λ n. Some n) (same_name x y h)

pub key_turned : (x y : Key) → same_key x y ≡ same_key y x
key_turned x y =
    ap (λ b. b && option_eq (λ (v w : NameId). v.0 == w.0) x.second y.second) (number_turned x.name.0 y.name.0)
    ∙ ap (λ b. (y.name.0 == x.name.0) && b) (second_turned x.second y.second)

pub key_is : (x y : Key) → same_key x y ≡ true → x ≡ y
key_is x y h =
    let e : x.name ≡ y.name = same_name x.name y.name (left_true (x.name.0 == y.name.0) _ h) in
    let f : x.second ≡ y.second = second_same x.second y.second (right_true (x.name.0 == y.name.0) _ h) in
    let key : NameId → Option NameId → Key = λ n s. record { name = n; second = s } in
    ap (λ n. key n x.second) e ∙ ap (key y.name) f

-- a list without a name is its other names
pub without_is : (x : NameId) (ys : List NameId) → without x ys ≡ filter (λ y. not (y.0 == x.0)) ys
without_is x [] = refl
without_is x (y ∷ ys) = go (x.0 == y.0) (number_turned x.0 y.0) (without_is x ys) where
  pick : (b c : Bool) → b ≡ c → without x ys ≡ filter (λ z. not (z.0 == x.0)) ys → (if b then without x ys else y ∷ without x ys) ≡ (if not c then y ∷ filter (λ z. not (z.0 == x.0)) ys else filter (λ z. not (z.0 == x.0)) ys)
  pick true true e h = h
  pick false false e h = ap (λ l. y ∷ l) h
  pick true false e h = absurd cc
  pick false true e h = absurd cc

  go : (b : Bool) → b ≡ (y.0 == x.0) → without x ys ≡ filter (λ z. not (z.0 == x.0)) ys → (if b then without x ys else y ∷ without x ys) ≡ filter (λ z. not (z.0 == x.0)) (y ∷ ys)
  go b e h = pick b (y.0 == x.0) e h
