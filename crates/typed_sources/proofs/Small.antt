-- Small facts of tests, numbers, lists and options.
use Rattle.std.proofs.Common.{◌≡◌, List, [], ◌∷◌, ◌++◌, Option, None, refl, ap}
use Rattle.chor_base.specs.declared.names.NameId.{NameId}
use Rattle.typed_sources.specs.Typing.{HasProtocol}

pub append_nil : {A : Type 0} (xs : List A) → xs ++ [] ≡ xs
append_nil [] = refl
append_nil (x ∷ xs) = ap (λ ys. x ∷ ys) (append_nil xs)

pub on_or_off : (o : Option NameId) → o ≡ None → HasProtocol o → ⊥
on_or_off o h k = let i = k.1 in absurd cc
