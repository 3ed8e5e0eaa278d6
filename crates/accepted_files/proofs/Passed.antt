-- What a call passes for a parameter.
use Rattle.std.specs.Prelude.{ℕ, ◌≡◌, ◌==◌, false, List, [], ◌∷◌}
use Rattle.chor_base.specs.declared.names.NameId.{NameId}
use Rattle.chor_semantics.specs.Choreography.{Ref, ref_eq}

abbrev pub name : ℕ → NameId
name n = record { 0 = n }

-- the reference is P for the parameter p, and another for each other parameter
abbrev pub IsPassedAs : Ref → NameId → List NameId → List Ref → Type 0
IsPassedAs P p (x ∷ xs) (r ∷ rs) = (ref_eq P r ≡ (p.0 == x.0)) × IsPassedAs P p xs rs
IsPassedAs P p (x ∷ xs) [] = (p.0 == x.0) ≡ false × IsPassedAs P p xs []
IsPassedAs P p [] rs = Unit {0}
