-- Where the set bits of a list stand.
use Rattle.std.specs.Prelude.{ℕ, suc, Bool, true, false, List, [], ◌∷◌}

-- the places of the set bits, in order; the first bit stands at p
abbrev pub places : ℕ → List Bool → List ℕ
places p [] = []
places p (true ∷ bs) = p ∷ places (suc p) bs
places p (false ∷ bs) = places (suc p) bs
