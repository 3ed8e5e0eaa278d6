-- A unit is judged by one unit after the other.
use Rattle.std.proofs.Common.{◌≡◌, ℕ, ◌+◌, ◌<◌, List, [], ◌∷◌, ◌++◌, length, take, get_or, Option, Some, None, sym, ap, ◌∙◌, subst, arith, inl, inr, ◌⊎◌}
use Rattle.std.specs.Prelude.{Contains}
use Rattle.std.proofs.lemmas.List.{take_more}
use Rattle.std.proofs.lemmas.List.Elements.{Contains-append_left, Contains-push, Contains-push_cases}
use Rattle.endpoint_link.specs.Linked.{HasCounterpart, SuitsCounterpart}
use Rattle.endpoint_link.specs.declared.fault.LinkRule.{LinkRule}
use Rattle.endpoint_link.specs.declared.fault.LinkRule.TheVariants.{K1, K2}
use Rattle.endpoint_link.specs.declared.verdict.Comparison.{Comparison}
use Rattle.endpoint_link.specs.declared.verdict.Comparison.TheVariants.{Other, Suited, Unsuited}
use Rattle.endpoint_link.specs.Judged.{IsVerdict, IsComparison, verdict_after}

module _ {A : Type 0} (Names Suits : A → A → Type 0) (x : A) where
  pub nothing_found : IsVerdict Names Suits [] x (Some K2)
  nothing_found (u, (i, l, e), named) = omega (arith, l)

  module _ (xs : List A) (u : A) where
    there_still : HasCounterpart Names xs x → HasCounterpart Names (xs ++ u ∷ []) x
    there_still (v, inside, named) = (v, Contains-append_left xs (u ∷ []) v inside, named)

    -- another unit changes nothing
    there_back : (Names x u → ⊥) → HasCounterpart Names (xs ++ u ∷ []) x → HasCounterpart Names xs x
    there_back other (v, inside, named) = go (Contains-push_cases xs u v inside)
      where
        go : Contains xs v ⊎ (u ≡ v) → HasCounterpart Names xs x
        go (inl k) = (v, k, named)
        go (inr same) = absurd (other (subst (Names x) (sym same) named))

    fits_less : SuitsCounterpart Names Suits (xs ++ u ∷ []) x → HasCounterpart Names xs x → SuitsCounterpart Names Suits xs x
    fits_less f there = record { there = there; suits = λ v inside named. f.suits v (Contains-append_left xs (u ∷ []) v inside) named }

    suits_more : ((v : A) → Contains xs v → Names x v → Suits x v) → (Names x u → Suits x u) → (v : A) → Contains (xs ++ u ∷ []) v → Names x v → Suits x v
    suits_more all one v inside named = go (Contains-push_cases xs u v inside)
      where
        go : Contains xs v ⊎ (u ≡ v) → Suits x v
        go (inl k) = all v k named
        go (inr same) = subst (Suits x) same (one (subst (Names x) (sym same) named))

    here : Names x u → HasCounterpart Names (xs ++ u ∷ []) x
    here named = (u, Contains-push xs u, named)

    pub judged_more : (v : Option LinkRule) (seen : Comparison) → IsVerdict Names Suits xs x v → IsComparison Names Suits x u seen → IsVerdict Names Suits (xs ++ u ∷ []) x (verdict_after v seen)
    judged_more None Other j other = record { there = there_still j.there; suits = suits_more j.suits (λ named. absurd (other named)) }
    judged_more (Some K1) Other j other = (there_still j.0, λ f. j.1 (fits_less f j.0))
    judged_more (Some K2) Other j other = λ there. j (there_back other there)
    judged_more v Unsuited j (named, unsuited) = (here named, λ f. unsuited (f.suits u (Contains-push xs u) named))
    judged_more None Suited j (named, suited) = record { there = here named; suits = suits_more j.suits (λ k. suited) }
    judged_more (Some K1) Suited j (named, suited) = (here named, λ f. j.1 (fits_less f j.0))
    judged_more (Some K2) Suited j (named, suited) = record { there = here named; suits = suits_more (λ v inside named. absurd (j (v, inside, named))) (λ k. suited) }

  pub judged_turn : (units : List A) (i : ℕ) (u : A) (v : Option LinkRule) (seen : Comparison) → i < length units → u ≡ get_or units i u → IsVerdict Names Suits (take i units) x v → IsComparison Names Suits x u seen
      → IsVerdict Names Suits (take (i + 1) units) x (verdict_after v seen)
  judged_turn units i u v seen lt is j l =
      subst (λ (xs : List A). IsVerdict Names Suits xs x (verdict_after v seen)) (ap (λ y. take i units ++ y ∷ []) is ∙ sym (take_more units i u lt)) (judged_more (take i units) u v seen j l)

  -- the same of an item by its place
  pub judged_at : (units : List A) (i : ℕ) (d : A) (v : Option LinkRule) (seen : Comparison) → i < length units → IsVerdict Names Suits (take i units) x v → IsComparison Names Suits x (get_or units i d) seen
      → IsVerdict Names Suits (take (i + 1) units) x (verdict_after v seen)
  judged_at units i d v seen lt j l =
      subst (λ (xs : List A). IsVerdict Names Suits xs x (verdict_after v seen)) (sym (take_more units i d lt)) (judged_more (take i units) (get_or units i d) v seen j l)
