-- Code that keeps the limits keeps them in order.
use Rattle.std.proofs.Common.{◌-◌, ℕ, true, false}
use Rattle.std.specs.Prelude.{if◌then◌else◌}
use Rattle.chor_base.specs.declared.names.NameId.{NameId}
use Rattle.chor_base.specs.Writing.{name_in}
use Rattle.endpoint_code.specs.declared.endpoints.Endpoints.{Endpoints}
use Rattle.endpoint_code.specs.Trees.{CodeTree, Does, Offers, Tests, Calls, Ends, Arms, NoArms, Arm}
use Rattle.endpoint_text.specs.Ascending.{is_before}
use Rattle.endpoint_laws.specs.Ordered.{with_arm, in_order, arms_in_order}
use Rattle.endpoint_laws.specs.Limits.{HasArm, Fits, EachFits}

module _ (e : Endpoints) where
  arm_fits : (p : ℕ) (l : NameId) (c : CodeTree) (arms : Arms) → Fits e p c → EachFits e p arms → EachFits e p (with_arm e.names l c arms)
  arm_fits p l c NoArms h k = (h, tt)
  arm_fits p l c (Arm m d rest) h k =
      let r = arm_fits p l c rest h k.1 in
      elim (is_before (name_in e.names m) (name_in e.names l)) as (λ b. EachFits e p (if b then Arm m d (with_arm e.names l c rest) else Arm l c (Arm m d rest))) [
        | true ↦ (k.0, r)
        | false ↦ (h, k)
      ]

  arm_stays : (l : NameId) (c : CodeTree) (arms : Arms) → HasArm (with_arm e.names l c arms)
  arm_stays l c NoArms = tt
  arm_stays l c (Arm m d rest) =
      elim (is_before (name_in e.names m) (name_in e.names l)) as (λ b. HasArm (if b then Arm m d (with_arm e.names l c rest) else Arm l c (Arm m d rest))) [ true ↦ tt | false ↦ tt ]

  has_arm : (arms : Arms) → HasArm arms → HasArm (arms_in_order e.names arms)
  has_arm NoArms h = h
  has_arm (Arm l c rest) h = arm_stays l (in_order e.names c) (arms_in_order e.names rest)

  mutual
    pub ordered_fits : (p : ℕ) (c : CodeTree) → Fits e p c → Fits e p (in_order e.names c)
    ordered_fits p (Does a rest) h = (h.0, h.1, ordered_fits (p - 1) rest h.2)
    ordered_fits p (Offers k a arms) h = (h.0, has_arm arms h.1, arms_fit (p - 1) arms h.2)
    ordered_fits p (Tests t first second) h = (h.0, h.1, ordered_fits (p - 1) first h.2, ordered_fits (p - 1) second h.3)
    ordered_fits p (Calls f x ss) h = h
    ordered_fits p Ends h = h

    arms_fit : (p : ℕ) (arms : Arms) → EachFits e p arms → EachFits e p (arms_in_order e.names arms)
    arms_fit p NoArms h = tt
    arms_fit p (Arm l c rest) h = arm_fits p l (in_order e.names c) (arms_in_order e.names rest) (ordered_fits p c h.0) (arms_fit p rest h.1)
