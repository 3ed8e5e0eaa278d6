-- Parts of a line between separating bytes.
use Rattle.std.specs.Prelude.{◌≡◌, ℕ, true, not, ◌==◌, List, ◌∷◌}
use Rattle.std.specs.List.{AllByRecursion}

-- the byte stands nowhere in them
abbrev pub IsFree : ℕ → List ℕ → Type 0
IsFree c bs = AllByRecursion (λ b. not (b == c) ≡ true) bs

-- nothing, or bytes that begin with this one
abbrev pub BeginsWith : ℕ → List ℕ → Type 0
BeginsWith c bs = (b : ℕ) (rest : List ℕ) → bs ≡ b ∷ rest → b ≡ c
