-- The first given unit that fails.
use Rattle.std.proofs.Common.{◌≡◌, ℕ, ◌<◌, List, length, take, Some, refl, sym, ap, ◌∙◌, subst, arith, inl, inr, ◌⊎◌}
use Rattle.std.specs.Prelude.{All, Contains, slice_get}
use Rattle.std.proofs.lemmas.Bool.{cases_order}
use Rattle.std.proofs.lemmas.List.{get_or-take, length-take-le}
use Rattle.std.proofs.lemmas.List.Elements.{All-contains}
use Rattle.std.proofs.lemmas.Option.{slice_get_within, get_or_from_slice_get}
use Rattle.endpoint_code.specs.declared.endpoints.Endpoints.{Endpoints}
use Rattle.endpoint_link.specs.Linked.{SuitsCounterpart, AllSuit}
use Rattle.endpoint_link.specs.declared.fault.LinkRule.{LinkRule}
use Rattle.endpoint_link.specs.declared.fault.LinkRule.TheVariants.{K1, K2}
use Rattle.endpoint_link.specs.declared.fault.Unit.{Unit as AnyUnit}
use Rattle.endpoint_link.specs.declared.fault.Unit.TheVariants.{Channel, Procedure, Service, Process}
use Rattle.endpoint_link.specs.Judged.{ViolatesLinkRule, IsFirstUnsuited, IsFirstLinkFault}

module _ {A : Type 0} (Replaces Suits : A → A → Type 0) (units given : List A) where
  -- what violates a rule doesn't suit its place
  unsuited : (x : A) (rule : LinkRule) → ViolatesLinkRule Replaces Suits units x rule → SuitsCounterpart Replaces Suits units x → ⊥
  unsuited x K1 v s = v.1 s
  unsuited x K2 v s = v s.there

  one_rule : (x : A) (a b : LinkRule) → ViolatesLinkRule Replaces Suits units x a → ViolatesLinkRule Replaces Suits units x b → a ≡ b
  one_rule x K1 K1 v w = refl
  one_rule x K1 K2 v w = absurd (w v.0)
  one_rule x K2 K1 v w = absurd (v w.0)
  one_rule x K2 K2 v w = refl

  there : (i : ℕ) (x : A) → slice_get given i ≡ Some x → Contains given x
  there i x at = (i, slice_get_within given i x at, get_or_from_slice_get given i x x at)

  pub not_all_suit : (i : ℕ) (rule : LinkRule) → IsFirstUnsuited Replaces Suits units given i rule → All (SuitsCounterpart Replaces Suits units) given → ⊥
  not_all_suit i rule f all = unsuited f.unit rule f.violates (All-contains (SuitsCounterpart Replaces Suits units) given f.unit all (there i f.unit f.here))

  -- the unit at an earlier place suits its place
  not_before : (i j : ℕ) (a b : LinkRule) → IsFirstUnsuited Replaces Suits units given i a → IsFirstUnsuited Replaces Suits units given j b → i < j → ⊥
  not_before i j a b f g lt =
      let at = get_or-take j given i f.unit lt ∙ get_or_from_slice_get given i f.unit f.unit f.here in
      let whole = length-take-le j given (omega (arith, slice_get_within given j g.unit g.here)) in
      let inside : i < length (take j given) = omega (arith, lt, whole) in
      unsuited f.unit a f.violates (All-contains (SuitsCounterpart Replaces Suits units) (take j given) f.unit g.before (i, inside, at))

  pub one_first : (i j : ℕ) (a b : LinkRule) → IsFirstUnsuited Replaces Suits units given i a → IsFirstUnsuited Replaces Suits units given j b → (a ≡ b) × (i ≡ j)
  one_first i j a b f g = go (cases_order i j)
    where
      go : (i ≡ j) ⊎ ((i < j) ⊎ (j < i)) → (a ≡ b) × (i ≡ j)
      go (inl same) =
          let both : Some f.unit ≡ Some g.unit = sym f.here ∙ ap (slice_get given) same ∙ g.here in
          let one : f.unit ≡ g.unit = cc in
          (one_rule g.unit a b (subst (λ x. ViolatesLinkRule Replaces Suits units x a) one f.violates) g.violates, same)
      go (inr (inl lt)) = absurd (not_before i j a b f g lt)
      go (inr (inr gt)) = absurd (not_before j i b a g f gt)

module _ (e g : Endpoints) where
  -- where all suit, none is the first that fails
  pub none_fails : AllSuit e g → (rule : LinkRule) (unit : AnyUnit) → IsFirstLinkFault e g rule unit → ⊥
  none_fails all rule (Channel i) f = not_all_suit _ _ _ _ i rule f all.channels
  none_fails all rule (Procedure i) f = not_all_suit _ _ _ _ i rule f.1 all.procedures
  none_fails all rule (Service i) f = not_all_suit _ _ _ _ i rule f.2 all.services
  none_fails all rule (Process i) f = not_all_suit _ _ _ _ i rule f.3 all.processes

  -- two first faults are one
  pub one_fault : (a b : LinkRule) (x y : AnyUnit) → IsFirstLinkFault e g a x → IsFirstLinkFault e g b y → (a ≡ b) × (x ≡ y)
  one_fault a b (Channel i) (Channel j) f h = let same = one_first _ _ _ _ i j a b f h in (same.0, ap Channel same.1)
  one_fault a b (Channel i) (Procedure j) f h = absurd (not_all_suit _ _ _ _ i a f h.0)
  one_fault a b (Channel i) (Service j) f h = absurd (not_all_suit _ _ _ _ i a f h.0)
  one_fault a b (Channel i) (Process j) f h = absurd (not_all_suit _ _ _ _ i a f h.0)
  one_fault a b (Procedure i) (Channel j) f h = absurd (not_all_suit _ _ _ _ j b h f.0)
  one_fault a b (Procedure i) (Procedure j) f h = let same = one_first _ _ _ _ i j a b f.1 h.1 in (same.0, ap Procedure same.1)
  one_fault a b (Procedure i) (Service j) f h = absurd (not_all_suit _ _ _ _ i a f.1 h.1)
  one_fault a b (Procedure i) (Process j) f h = absurd (not_all_suit _ _ _ _ i a f.1 h.1)
  one_fault a b (Service i) (Channel j) f h = absurd (not_all_suit _ _ _ _ j b h f.0)
  one_fault a b (Service i) (Procedure j) f h = absurd (not_all_suit _ _ _ _ j b h.1 f.1)
  one_fault a b (Service i) (Service j) f h = let same = one_first _ _ _ _ i j a b f.2 h.2 in (same.0, ap Service same.1)
  one_fault a b (Service i) (Process j) f h = absurd (not_all_suit _ _ _ _ i a f.2 h.2)
  one_fault a b (Process i) (Channel j) f h = absurd (not_all_suit _ _ _ _ j b h f.0)
  one_fault a b (Process i) (Procedure j) f h = absurd (not_all_suit _ _ _ _ j b h.1 f.1)
  one_fault a b (Process i) (Service j) f h = absurd (not_all_suit _ _ _ _ j b h.2 f.2)
  one_fault a b (Process i) (Process j) f h = let same = one_first _ _ _ _ i j a b f.3 h.3 in (same.0, ap Process same.1)
