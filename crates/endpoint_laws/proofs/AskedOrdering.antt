-- What is asked of code is asked of it in order.
use Rattle.std.proofs.Common.{◌≡◌, ◌==◌, ◌||◌, ℕ, Bool, true, false, List, refl, ap, ◌∙◌}
use Rattle.std.specs.Prelude.{if◌then◌else◌}
use Rattle.chor_base.specs.declared.names.NameId.{NameId}
use Rattle.chor_base.specs.Writing.{name_in}
use Rattle.endpoint_code.specs.declared.endpoints.Endpoints.{Endpoints}
use Rattle.endpoint_code.specs.Labels.{has_label, HasDistinctLabels, AreDistinctArms}
use Rattle.endpoint_code.specs.Trees.{CodeTree, Does, Offers, Tests, Calls, Ends, Arms, NoArms, Arm}
use Rattle.endpoint_names.proofs.Keys.{number_turned}
use Rattle.endpoint_text.specs.Ascending.{is_before}
use Rattle.merged_codes.specs.Scoped.{bound_after, IsScopedTree, AreScopedArms}
use Rattle.endpoint_code.specs.Asked.{AsksTree, AsksArms}
use Rattle.endpoint_laws.proofs.Backward.{IsFine}
use Rattle.endpoint_laws.specs.Ordered.{with_arm, in_order, arms_in_order}

module _ (names : List (List ℕ)) where
  abbrev chosen : Bool → NameId → CodeTree → NameId → CodeTree → Arms → Arms
  chosen b l c m d rest = if b then Arm m d (with_arm names l c rest) else Arm l c (Arm m d rest)

  -- ---- labels

  swapped : (a b c : Bool) → (a || (b || c)) ≡ (b || (a || c))
  swapped true true c = refl
  swapped true false c = refl
  swapped false b c = refl

  label_in : (k l : NameId) (c : CodeTree) (arms : Arms) → has_label k (with_arm names l c arms) ≡ ((k.0 == l.0) || has_label k arms)
  label_in k l c NoArms = refl
  label_in k l c (Arm m d rest) =
      let h = label_in k l c rest in
      elim (is_before (name_in names m) (name_in names l)) as (λ b. has_label k (chosen b l c m d rest) ≡ ((k.0 == l.0) || ((k.0 == m.0) || has_label k rest))) [
        | true ↦ ap (λ x. (k.0 == m.0) || x) h ∙ swapped (k.0 == m.0) (k.0 == l.0) (has_label k rest)
        | false ↦ refl
      ]

  label_ordered : (k : NameId) (arms : Arms) → has_label k (arms_in_order names arms) ≡ has_label k arms
  label_ordered k NoArms = refl
  label_ordered k (Arm l c rest) = label_in k l (in_order names c) (arms_in_order names rest) ∙ ap (λ x. (k.0 == l.0) || x) (label_ordered k rest)

  or_false : (a b : Bool) → a ≡ false → b ≡ false → (a || b) ≡ false
  or_false a b h k = cc

  of_or : (a b : Bool) → (a || b) ≡ false → (a ≡ false) × (b ≡ false)
  of_or true b h = absurd cc
  of_or false b h = (refl, h)

  arm_distinct : (l : NameId) (c : CodeTree) (arms : Arms) → has_label l arms ≡ false → HasDistinctLabels c → AreDistinctArms arms → AreDistinctArms (with_arm names l c arms)
  arm_distinct l c NoArms f h k = (refl, h, tt)
  arm_distinct l c (Arm m d rest) f h k =
      let two = of_or (l.0 == m.0) (has_label l rest) f in
      let r = arm_distinct l c rest two.1 h k.2 in
      let apart : has_label m (with_arm names l c rest) ≡ false = label_in m l c rest ∙ or_false (m.0 == l.0) (has_label m rest) (number_turned m.0 l.0 ∙ two.0) k.0 in
      elim (is_before (name_in names m) (name_in names l)) as (λ b. AreDistinctArms (chosen b l c m d rest)) [ true ↦ (apart, k.1, r) | false ↦ (f, h, k) ]

  mutual
    distinct_ordered : (c : CodeTree) → HasDistinctLabels c → HasDistinctLabels (in_order names c)
    distinct_ordered (Does a rest) h = distinct_ordered rest h
    distinct_ordered (Offers k a arms) h = distinct_arms arms h
    distinct_ordered (Tests t first second) h = (distinct_ordered first h.0, distinct_ordered second h.1)
    distinct_ordered (Calls f p ss) h = tt
    distinct_ordered Ends h = tt

    distinct_arms : (arms : Arms) → AreDistinctArms arms → AreDistinctArms (arms_in_order names arms)
    distinct_arms NoArms h = tt
    distinct_arms (Arm l c rest) h = arm_distinct l (in_order names c) (arms_in_order names rest) (label_ordered l rest ∙ h.0) (distinct_ordered c h.1) (distinct_arms rest h.2)

  -- ---- sessions

  module _ (e : Endpoints) where
    arm_scoped : (l : NameId) (c : CodeTree) (arms : Arms) (bs : List NameId) → IsScopedTree e c bs → AreScopedArms e arms bs → AreScopedArms e (with_arm names l c arms) bs
    arm_scoped l c NoArms bs h k = (h, tt)
    arm_scoped l c (Arm m d rest) bs h k =
        let r = arm_scoped l c rest bs h k.1 in
        elim (is_before (name_in names m) (name_in names l)) as (λ b. AreScopedArms e (chosen b l c m d rest) bs) [ true ↦ (k.0, r) | false ↦ (h, k) ]

    mutual
      scoped_ordered : (c : CodeTree) (bs : List NameId) → IsScopedTree e c bs → IsScopedTree e (in_order names c) bs
      scoped_ordered (Does a rest) bs h = (h.0, scoped_ordered rest (bound_after a bs) h.1)
      scoped_ordered (Offers k a arms) bs h = (h.0, scoped_arms arms bs h.1)
      scoped_ordered (Tests t first second) bs h = (scoped_ordered first bs h.0, scoped_ordered second bs h.1)
      scoped_ordered (Calls f p ss) bs h = h
      scoped_ordered Ends bs h = tt

      scoped_arms : (arms : Arms) (bs : List NameId) → AreScopedArms e arms bs → AreScopedArms e (arms_in_order names arms) bs
      scoped_arms NoArms bs h = tt
      scoped_arms (Arm l c rest) bs h = arm_scoped l (in_order names c) (arms_in_order names rest) bs (scoped_ordered c bs h.0) (scoped_arms rest bs h.1)

  -- ---- host functions

  module _ (known : NameId → Bool) where
    arm_asks : (l : NameId) (c : CodeTree) (arms : Arms) → AsksTree known c → AsksArms known arms → AsksArms known (with_arm names l c arms)
    arm_asks l c NoArms h k = (h, tt)
    arm_asks l c (Arm m d rest) h k =
        let r = arm_asks l c rest h k.1 in
        elim (is_before (name_in names m) (name_in names l)) as (λ b. AsksArms known (chosen b l c m d rest)) [ true ↦ (k.0, r) | false ↦ (h, k) ]

    mutual
      asks_ordered : (c : CodeTree) → AsksTree known c → AsksTree known (in_order names c)
      asks_ordered (Does a rest) h = (h.0, asks_ordered rest h.1)
      asks_ordered (Offers k a arms) h = asks_arms arms h
      asks_ordered (Tests t first second) h = (asks_ordered first h.0, asks_ordered second h.1)
      asks_ordered (Calls f p ss) h = tt
      asks_ordered Ends h = tt

      asks_arms : (arms : Arms) → AsksArms known arms → AsksArms known (arms_in_order names arms)
      asks_arms NoArms h = tt
      asks_arms (Arm l c rest) h = arm_asks l (in_order names c) (arms_in_order names rest) (asks_ordered c h.0) (asks_arms rest h.1)

  pub fine_ordered : (known : NameId → Bool) (e : Endpoints) (bs : List NameId) (c : CodeTree) → IsFine known e bs c → IsFine known e bs (in_order names c)
  fine_ordered known e bs c f = record { scoped = scoped_ordered e c bs f.scoped; distinct = distinct_ordered c f.distinct; asks = asks_ordered known c f.asks }
