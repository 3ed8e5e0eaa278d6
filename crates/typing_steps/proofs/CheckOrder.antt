-- Checks in order, and what is passed for parameters.
use Rattle.std.proofs.Common.{◌≡◌, ◌==◌, Bool, true, false, cond, List, [], ◌∷◌, ◌++◌, Option, Some, None, refl, ap, sym, ◌∙◌}
use Rattle.chor_base.specs.declared.names.NameId.{NameId}
use Rattle.chor_tree.specs.declared.file.Named.{Named}
use Rattle.chor_tree.specs.declared.file.ProcParam.{ProcParam}
use Rattle.delegation.specs.Checks.{Check, first_failed}
use Rattle.delegation.specs.Owners.{holds}
use Rattle.typing_rules.specs.Environment.{Environment}
use Rattle.typing_rules.specs.Checks.{holds_as}
use Rattle.typing_steps.specs.Arguments.{argument_of}

first_itself : (c : Check) → c ≡ first_failed (c ∷ [])
first_itself None = refl
first_itself (Some r) = refl

pub first_append : (xs ys : List Check) → first_failed (first_failed xs ∷ first_failed ys ∷ []) ≡ first_failed (xs ++ ys)
first_append [] ys = sym (first_itself (first_failed ys))
first_append (None ∷ xs) ys = first_append xs ys
first_append (Some r ∷ xs) ys = refl

pub call_first : (a b : Check) (xs : List Check) → first_failed (a ∷ first_failed (first_failed xs ∷ b ∷ []) ∷ []) ≡ first_failed (a ∷ (xs ++ b ∷ []))
call_first None b xs =
    sym (first_itself (first_failed (first_failed xs ∷ b ∷ []))) ∙ ap (λ c. first_failed (first_failed xs ∷ c ∷ [])) (first_itself b) ∙ first_append xs (b ∷ [])
call_first (Some r) b xs = refl

-- ---- what is passed for parameters

abbrev pub held_by : Environment → NameId → NameId → Option NameId → Bool
held_by e k r None = false
held_by e k r (Some p) = holds e.owners k r p

pub held_as : (e : Environment) (k r x : NameId) (qs : List ProcParam) (ps : List Named) → held_by e k r (argument_of qs ps x) ≡ holds_as e k r x qs ps
held_as e k r x [] ps = refl
held_as e k r x (q ∷ qs) [] = refl
held_as e k r x (q ∷ qs) (p ∷ ps) = go (q.name.name.0 == x.0) (held_as e k r x qs ps) where
  go : (b : Bool) → held_by e k r (argument_of qs ps x) ≡ holds_as e k r x qs ps
      → held_by e k r (cond b (Some p.name) (argument_of qs ps x)) ≡ cond b (holds e.owners k r p.name) (holds_as e k r x qs ps)
  go true h = refl
  go false h = h
