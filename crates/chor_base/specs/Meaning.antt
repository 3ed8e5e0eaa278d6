-- What a host function may answer (this project's own).
use Rattle.std.specs.Prelude.{◌≡◌, ◌==◌, ℤ, pos, ◌-ℤ◌, ◌≤ℤ◌, unsigned_abs, List, [], ◌∷◌, Option, Some, None, if◌then◌else◌}
use Rattle.std.specs.Int.{int_min, int_max}
use Rattle.chor_base.specs.declared.names.NameId.{NameId}
use Rattle.chor_base.specs.declared.meaning.HostOp.{HostOp}
use Rattle.chor_base.specs.declared.meaning.HostOp.TheVariants.{Min, Max, Gap}
use Rattle.chor_base.specs.declared.meaning.Meaning.{Meaning}
use Rattle.chor_base.specs.declared.meaning.Meaning.TheVariants.{Exact, Within}
use Rattle.chor_base.specs.Expr.{held}

-- the operation's value; a gap beyond 64 bits is the greatest number that fits
abbrev pub operated : HostOp → ℤ → ℤ → ℤ
operated Min a b = int_min a b
operated Max a b = int_max a b
operated Gap a b = held (pos (unsigned_abs (a -ℤ b)))

-- v is an answer to a and b that this meaning allows
abbrev pub IsAllowed : Meaning → ℤ → ℤ → ℤ → Type 0
IsAllowed (Exact op) a b v = v ≡ operated op a b
IsAllowed (Within low high) a b v = (low ≤ℤ v) × (v ≤ℤ high)

-- the host functions by name, with what they may answer
abbrev pub Hosts : Type 0
Hosts = List (NameId × Meaning)

-- the meaning of the first function of that name
abbrev pub meaning_named : Hosts → NameId → Option Meaning
meaning_named [] f = None
meaning_named (h ∷ hs) f = if h.0.0 == f.0 then Some h.1 else meaning_named hs f

-- a function that is there may answer v to a and b
abbrev pub MayAnswer : Option Meaning → ℤ → ℤ → ℤ → Type 0
MayAnswer None a b v = ⊥
MayAnswer (Some m) a b v = IsAllowed m a b v
