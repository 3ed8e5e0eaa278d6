-- What a list contains, item by item.
use Rattle.std.proofs.Common.{length, ◌≡◌, ◌<◌, List, [], ◌∷◌, arith, inl, inr, ◌⊎◌, zero, suc}
use Rattle.std.specs.Prelude.{Contains}

pub nowhere : {X : Type 0} (x : X) → Contains [] x → ⊥
nowhere x m = let k = m.0 in let h : k < 0 = m.1 in absurd (omega arith)

pub at_head : {X : Type 0} (x : X) (xs : List X) (y : X) → x ≡ y → Contains (x ∷ xs) y
at_head x xs y e = (0, omega arith, e)

pub at_tail : {X : Type 0} (x : X) (xs : List X) (y : X) → Contains xs y → Contains (x ∷ xs) y
at_tail x xs y m = (suc m.0, (let h : m.0 < length xs = m.1 in omega arith), m.2)

pub head_or_tail : {X : Type 0} (x : X) (xs : List X) (y : X) → Contains (x ∷ xs) y → (x ≡ y) ⊎ Contains xs y
head_or_tail x xs y (zero, h, e) = inl e
head_or_tail x xs y (suc k, h, e) = inr (k, omega arith, e)
