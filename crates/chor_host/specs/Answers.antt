-- Meanings that have answers, and their sizes.
use Rattle.std.specs.Prelude.{◌≤ℤ◌}
use Rattle.std.specs.Int.{w64}
use Rattle.std.specs.Int.RustNames.{FitsSigned}
use Rattle.chor_base.specs.declared.meaning.Meaning.{Meaning}
use Rattle.chor_base.specs.declared.meaning.Meaning.TheVariants.{Exact, Within}

-- a range has a number in it; an operation always has its value
abbrev pub IsAnswerable : Meaning → Type 0
IsAnswerable (Exact op) = Unit {0}
IsAnswerable (Within low high) = low ≤ℤ high

-- the ends of a range are numbers of 64 bits with sign
abbrev pub IsSized : Meaning → Type 0
IsSized (Exact op) = Unit {0}
IsSized (Within low high) = FitsSigned w64 low × FitsSigned w64 high
