-- Tables in which each node comes after its children.
use Rattle.std.proofs.Common.{◌≡◌, ℕ, ◌<◌, List, [], ◌∷◌, ◌++◌, length, sym, subst, Some, Result, Ok, Err}
use Rattle.std.specs.Prelude.{All, slice_get, OnOk, OnErr}
use Rattle.chor_base.proofs.Lists.{AtEnd, before, last, at_end}

module _ {N C : Type 0} (number : C → ℕ) (children : N → List C) where
  abbrev pub AreBelow : ℕ → N → Type 0
  AreBelow i n = All (λ c. number c < i) (children n)

  abbrev pub IsClosedBy : List N → Type 0
  IsClosedBy ns = (i : ℕ) (n : N) → slice_get ns i ≡ Some n → AreBelow i n

  pub closed_more : (ns : List N) (n : N) → IsClosedBy ns → AreBelow (length ns) n → IsClosedBy (ns ++ n ∷ [])
  closed_more ns n closed below i m h = go (at_end ns n m i h)
    where
      go : AtEnd ns n m i → AreBelow i m
      go (before b) = closed i m b
      go (last e s) = subst (λ (k : ℕ). AreBelow k m) (sym e) (subst (λ (k : N). AreBelow (length ns) k) (sym s) below)

  -- whether a push has gone well or not
  pub closed_after : {E T : Type 0} (ns new : List N) (n : N) (r : Result T E) → OnOk r (new ≡ ns ++ n ∷ []) → OnErr r (new ≡ ns) → IsClosedBy ns → AreBelow (length ns) n → IsClosedBy new
  closed_after ns new n (Ok x) e f closed below = subst IsClosedBy (sym e) (closed_more ns n closed below)
  closed_after ns new n (Err x) e f closed below = subst IsClosedBy (sym f) closed
