-- Units are judged one after the other until one fails.
use Rattle.std.proofs.Common.{◌≡◌, ℕ, ◌+◌, ◌≤◌, List, [], ◌∷◌, ◌++◌, length, take, Option, Some, None, refl, sym, ap, ◌∙◌, subst}
use Rattle.std.specs.Prelude.{All, Contains, slice_get}
use Rattle.std.proofs.lemmas.List.{take_more, take_all}
use Rattle.std.proofs.lemmas.List.Elements.{All-push}
use Rattle.std.proofs.lemmas.Option.{slice_get_within, get_or_from_slice_get}
use Rattle.endpoint_link.specs.Linked.{SuitsCounterpart}
use Rattle.endpoint_link.specs.declared.fault.LinkRule.{LinkRule}
use Rattle.endpoint_link.specs.Judged.{IsVerdict, IsFirstUnsuited}

pub found_among : {X : Type 0} (xs : List X) (i : ℕ) (x : X) → slice_get xs i ≡ Some x → Contains xs x
found_among xs i x at = (i, slice_get_within xs i x at, get_or_from_slice_get xs i x x at)

module _ {A : Type 0} (Names Suits : A → A → Type 0) (units given : List A) where
  abbrev pub AllBefore : ℕ → Type 0
  AllBefore i = All (SuitsCounterpart Names Suits units) (take i given)

  pub fit_more : (i : ℕ) (x : A) (v : Option LinkRule) → slice_get given i ≡ Some x → AllBefore i → IsVerdict Names Suits units x v → ((rule : LinkRule) → v ≡ Some rule → ⊥) → AllBefore (i + 1)
  fit_more i x (Some rule) at h j other = absurd (other rule refl)
  fit_more i x None at h j other =
      subst (All (SuitsCounterpart Names Suits units)) (sym (take_more given i x (slice_get_within given i x at) ∙ ap (λ y. take i given ++ y ∷ []) (get_or_from_slice_get given i x x at)))
      (All-push (SuitsCounterpart Names Suits units) (take i given) x h j)

  pub fit_all : (i : ℕ) → length given ≤ i → AllBefore i → All (SuitsCounterpart Names Suits units) given
  fit_all i l h = subst (All (SuitsCounterpart Names Suits units)) (take_all i given l) h

  pub found_first : (i : ℕ) (x : A) (v : Option LinkRule) (rule : LinkRule) → slice_get given i ≡ Some x → AllBefore i → IsVerdict Names Suits units x v → v ≡ Some rule → IsFirstUnsuited Names Suits units given i rule
  found_first i x v rule at h j is = record { unit = x; here = at; before = h; violates = subst (IsVerdict Names Suits units x) is j }
