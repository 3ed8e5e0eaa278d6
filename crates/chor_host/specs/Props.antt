-- That an answer is allowed, and that a meaning has answers and its size, has one proof at most.
use Rattle.std.proofs.Common.{ℤ}
use Rattle.std.proofs.Props.{props}
use Rattle.chor_base.specs.declared.meaning.Meaning.{Meaning}
use Rattle.chor_base.specs.declared.meaning.Meaning.TheVariants.{Exact, Within}
use Rattle.chor_base.specs.Meaning.{IsAllowed}
use Rattle.chor_host.specs.Answers.{IsAnswerable, IsSized}

pub IsAllowed-prop : (m : Meaning) (a b v : ℤ) → IsProp (IsAllowed m a b v)
IsAllowed-prop (Exact op) a b v = Prim.hlevel props
IsAllowed-prop (Within low high) a b v = Prim.hlevel props

pub IsAnswerable-prop : (m : Meaning) → IsProp (IsAnswerable m)
IsAnswerable-prop (Exact op) = Prim.hlevel props
IsAnswerable-prop (Within low high) = Prim.hlevel props

pub IsSized-prop : (m : Meaning) → IsProp (IsSized m)
IsSized-prop (Exact op) = Prim.hlevel props
IsSized-prop (Within low high) = Prim.hlevel props

pub ruleset allowing = (IsAllowed-prop, IsAnswerable-prop, IsSized-prop, props)
