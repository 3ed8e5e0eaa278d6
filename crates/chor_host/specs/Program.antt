-- The host functions of the program.
use Rattle.std.specs.Prelude.{List, [], ◌∷◌, codes, ℤ, pos, ◌+ℤ◌, int_rem}
use Rattle.chor_base.specs.declared.meaning.HostOp.TheVariants.{Min, Max, Gap}
use Rattle.chor_base.specs.declared.meaning.Meaning.{Meaning}
use Rattle.chor_base.specs.declared.meaning.Meaning.TheVariants.{Exact, Within}
use Rattle.chor_base.specs.Meaning.{operated}
use Rattle.chor_host.specs.Functions.{Function}

-- any number of a die
abbrev pub of_a_die : Meaning
of_a_die = Within (pos 1) (pos 6)

-- 1 plus what how far apart two numbers are leaves when divided by 6
abbrev pub diced : ℤ → ℤ → ℤ
diced a b = pos 1 +ℤ int_rem (operated Gap a b) (pos 6)

-- The smaller and the greater of two numbers, how far apart they are, and a die
abbrev pub program_functions : List Function
program_functions = (codes "min", Exact Min) ∷ (codes "max", Exact Max) ∷ (codes "gap", Exact Gap) ∷ (codes "dice", of_a_die) ∷ []
