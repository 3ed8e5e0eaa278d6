-- The text of code is that of its ordered arms, and what can be spelled can be spelled in order.
use Rattle.std.proofs.Common.{◌≡◌, ℕ, true, false, List, [], ◌∷◌, ◌++◌, refl, ap, ◌∙◌, codes}
use Rattle.std.specs.Prelude.{if◌then◌else◌}
use Rattle.std.specs.List.{flat_map}
use Rattle.chor_base.specs.declared.names.NameId.{NameId}
use Rattle.chor_base.specs.Writing.{name_in}
use Rattle.endpoint_code.specs.declared.endpoints.Endpoints.{Endpoints}
use Rattle.endpoint_code.specs.Trees.{CodeTree, Does, Offers, Tests, Calls, Ends, Arms, NoArms, Arm}
use Rattle.endpoint_text.specs.Ascending.{is_before, inserted, ascending}
use Rattle.endpoint_text.specs.Text.{name_text, spaced, listed, term_text, action_text, braced, arm_text, code_text, arms_of}
use Rattle.endpoint_laws.specs.Ordered.{with_arm, in_order, arms_in_order}
use Rattle.endpoint_laws.specs.Spelled.{IsNamed, IsCodeSpelled, AreArmsSpelled}

-- ---- the text of code, with its arms in the order in which they stand

abbrev mutual
  pub plain_text : Endpoints → CodeTree → List ℕ
  plain_text e (Does a rest) = action_text e a ++ codes "; " ++ plain_text e rest
  plain_text e (Offers k a arms) = codes "branch" ++ spaced e (k ∷ a ∷ []) ++ codes " { " ++ flat_map arm_text (plain_arms e arms) ++ codes "}"
  plain_text e (Tests t first second) = codes "if " ++ term_text e t ++ codes " " ++ braced (plain_text e first) ++ codes " else " ++ braced (plain_text e second)
  plain_text e (Calls f p ss) = codes "call" ++ spaced e (f ∷ p ∷ []) ++ codes " (" ++ listed e ss ++ codes ")"
  plain_text e Ends = codes "end"

  pub plain_arms : Endpoints → Arms → List (List ℕ × List ℕ)
  plain_arms e NoArms = []
  plain_arms e (Arm l c rest) = (name_text e l, plain_text e c) ∷ plain_arms e rest

module _ (e : Endpoints) where
  inserted_arm : (l : NameId) (c : CodeTree) (arms : Arms) → plain_arms e (with_arm e.names l c arms) ≡ inserted (λ arm. arm.0) (name_text e l, plain_text e c) (plain_arms e arms)
  inserted_arm l c NoArms = refl
  inserted_arm l c (Arm m d rest) =
      let h = inserted_arm l c rest in
      elim (is_before (name_in e.names m) (name_in e.names l)) as (λ b. plain_arms e (if b then Arm m d (with_arm e.names l c rest) else Arm l c (Arm m d rest)) ≡ (if b then (name_text e m, plain_text e d) ∷ inserted (λ arm. arm.0) (name_text e l, plain_text e c) (plain_arms e rest) else (name_text e l, plain_text e c) ∷ (name_text e m, plain_text e d) ∷ plain_arms e rest)) [
        | true ↦ ap (λ arms. (name_text e m, plain_text e d) ∷ arms) h
        | false ↦ refl
      ]

  mutual
    pub ordered_text : (c : CodeTree) → plain_text e (in_order e.names c) ≡ code_text e c
    ordered_text (Does a rest) = ap (λ t. action_text e a ++ codes "; " ++ t) (ordered_text rest)
    ordered_text (Offers k a arms) = ap (λ t. codes "branch" ++ spaced e (k ∷ a ∷ []) ++ codes " { " ++ flat_map arm_text t ++ codes "}") (ordered_arms arms)
    ordered_text (Tests t first second) =
        let h = ordered_text first in
        let k = ordered_text second in
        λ i. codes "if " ++ term_text e t ++ codes " " ++ braced (h i) ++ codes " else " ++ braced (k i)
    ordered_text (Calls f p ss) = refl
    ordered_text Ends = refl

    ordered_arms : (arms : Arms) → plain_arms e (arms_in_order e.names arms) ≡ ascending (λ arm. arm.0) (arms_of e arms)
    ordered_arms NoArms = refl
    ordered_arms (Arm l c rest) =
        let h = ordered_text c in
        let k = ordered_arms rest in
        inserted_arm l (in_order e.names c) (arms_in_order e.names rest) ∙ (λ i. inserted (λ arm. arm.0) (name_text e l, h i) (k i))

  -- ---- what can be spelled

  arm_spelled : (l : NameId) (c : CodeTree) (arms : Arms) → IsNamed e l → IsCodeSpelled e c → AreArmsSpelled e arms → AreArmsSpelled e (with_arm e.names l c arms)
  arm_spelled l c NoArms n h k = (n, h, tt)
  arm_spelled l c (Arm m d rest) n h k =
      let r = arm_spelled l c rest n h k.2 in
      elim (is_before (name_in e.names m) (name_in e.names l)) as (λ b. AreArmsSpelled e (if b then Arm m d (with_arm e.names l c rest) else Arm l c (Arm m d rest))) [
        | true ↦ (k.0, k.1, r)
        | false ↦ (n, h, k)
      ]

  mutual
    pub ordered_spelled : (c : CodeTree) → IsCodeSpelled e c → IsCodeSpelled e (in_order e.names c)
    ordered_spelled (Does a rest) h = (h.0, ordered_spelled rest h.1)
    ordered_spelled (Offers k a arms) h = (h.0, h.1, arms_spelled arms h.2)
    ordered_spelled (Tests t first second) h = (h.0, ordered_spelled first h.1, ordered_spelled second h.2)
    ordered_spelled (Calls f p ss) h = h
    ordered_spelled Ends h = tt

    arms_spelled : (arms : Arms) → AreArmsSpelled e arms → AreArmsSpelled e (arms_in_order e.names arms)
    arms_spelled NoArms h = tt
    arms_spelled (Arm l c rest) h = arm_spelled l (in_order e.names c) (arms_in_order e.names rest) h.0 (ordered_spelled c h.1) (arms_spelled rest h.2)
