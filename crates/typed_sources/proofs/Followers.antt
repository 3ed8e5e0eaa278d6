-- What stands in lists of one and two nodes, and which nodes come before a place.
use Rattle.std.proofs.Common.{◌<◌, List, ◌∷◌, ℕ, refl, subst, arith}
use Rattle.std.specs.Prelude.{Contains, All}
use Rattle.chor_tree.specs.declared.tree.NodeId.{NodeId}

pub low : (bound : ℕ) (cs : List NodeId) (c : NodeId) → All (λ x. x.0 < bound) cs → Contains cs c → c.0 < bound
low bound cs c a m = subst (λ (x : NodeId). x.0 < bound) m.2 (a m.0 c m.1)

pub only : {A : Type 0} (x : A) (xs : List A) → Contains (x ∷ xs) x
only x xs = (0, omega arith, refl)

pub other : {A : Type 0} (x y : A) (xs : List A) → Contains (x ∷ y ∷ xs) y
other x y xs = (1, omega arith, refl)
