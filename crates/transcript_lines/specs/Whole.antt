-- Lines that a line feed ends (this project's own).
use Rattle.std.specs.Prelude.{ℕ, ◌==◌, List, [], ◌∷◌, if◌then◌else◌}

-- a byte before whole lines; before none it is one itself where it is a line feed, and else it is torn
abbrev pub before_whole : ℕ → List ℕ → List ℕ
before_whole b [] = if b == 10 then b ∷ [] else []
before_whole b (c ∷ cs) = b ∷ c ∷ cs

-- The bytes up to the last line feed, with it
abbrev pub whole_lines : List ℕ → List ℕ
whole_lines [] = []
whole_lines (b ∷ bs) = before_whole b (whole_lines bs)
