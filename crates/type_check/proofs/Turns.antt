-- The turns of a walk from node to node, which looks for the first fault of W and has found one before.
use Rattle.std.proofs.Common.{◌≡◌, List, [], ◌∷◌, map, refl, sym, ap, ◌∙◌, subst, None, Some, Option, inl, inr}
use Rattle.std.specs.Prelude.{Contains, is_some, Bool, true, false}
use Rattle.chor_base.specs.declared.rule.Rule.{Rule}
use Rattle.chor_base.specs.declared.rule.Place.{Place}
use Rattle.chor_base.specs.declared.fault.Fault.{Fault}
use Rattle.chor_base.specs.Faults.{IsFirst, earlier, fault}
use Rattle.chor_base.proofs.Members.{nowhere, at_head, at_tail, head_or_tail}
use Rattle.chor_base.proofs.Faults.{first_along, first_of_either, earlier_assoc, earlier_none}
use Rattle.chor_tree.specs.declared.tree.NodeId.{NodeId}
use Rattle.type_check.specs.NodeFaults.{fault_in}

-- ---- items under a map

pub map_contains : {A B : Type 0} (g : A → B) (xs : List A) (x : A) → Contains xs x → Contains (map g xs) (g x)
map_contains g [] x m = absurd (nowhere x m)
map_contains g (y ∷ ys) x m = elim (head_or_tail y ys x m) [ inl e ↦ at_head (g y) (map g ys) (g x) (ap g e) | inr n ↦ at_tail (g y) (map g ys) (g x) (map_contains g ys x n) ]

pub contains_map : {A B : Type 0} (g : A → B) (xs : List A) (b : B) → Contains (map g xs) b → (x : A) × Contains xs x × (g x ≡ b)
contains_map g [] b m = absurd (nowhere b m)
contains_map g (y ∷ ys) b m =
    elim (head_or_tail (g y) (map g ys) b m) [ inl e ↦ (y, at_head y ys y refl, e) | inr n ↦ let w = contains_map g ys b n in (w.0, at_tail y ys w.0 w.1, w.2) ]

-- ---- a fault that is there, or not

pub none_is : {A : Type 0} (o : Option A) → is_some o ≡ false → o ≡ None
none_is None h = refl
none_is (Some x) h = absurd cc

pub clash : (b : Bool) → b ≡ true → b ≡ false → ⊥
clash b i j = cc

pub no_rule : (p : Place) (c : Option Rule) (o : Option Fault) → o ≡ fault_in p c → is_some o ≡ false → c ≡ None
no_rule p None o is none = refl
no_rule p (Some r) o is none = absurd (clash (is_some o) (ap is_some is) none)

pub some_rule : (p : Place) (c : Option Rule) (o : Option Fault) → o ≡ fault_in p c → is_some o ≡ true → (r : Rule) × (c ≡ Some r) × (o ≡ Some (fault r p))
some_rule p None o is some = absurd (clash (is_some o) some (ap is_some is))
some_rule p (Some r) o is some = (r, refl, is)

-- ---- what follows

-- a fault of those that F tells at one of these nodes
abbrev pub IsFaultAfter : (NodeId → Fault → Type 0) → List NodeId → Fault → Type 0
IsFaultAfter F ids x = (next : NodeId) × Contains ids next × F next x

-- the first fault of B, where it comes after this one, is that of W
abbrev pub Rest : (Fault → Type 0) → Option Fault → (Fault → Type 0) → Type 0
Rest W first B = (o : Option Fault) → IsFirst B o → IsFirst W (earlier first o)

module _ (F : NodeId → Fault → Type 0) where
  after_none : IsFirst (IsFaultAfter F []) None
  after_none x a = nowhere a.0 a.1

  after_one : (next : NodeId) (o : Option Fault) → IsFirst (F next) o → IsFirst (IsFaultAfter F (next ∷ [])) o
  after_one next o h = first_along (F next) (IsFaultAfter F (next ∷ [])) o h
      (λ x b. (next, at_head next [] next refl, b))
      (λ x a. elim (head_or_tail next [] a.0 a.1) [ inl s ↦ subst (λ n. F n x) (sym s) a.2 | inr m ↦ absurd (nowhere a.0 m) ])

  after_two : (one other : NodeId) (o p : Option Fault) → IsFirst (F one) o → IsFirst (F other) p → IsFirst (IsFaultAfter F (one ∷ other ∷ [])) (earlier o p)
  after_two one other o p h k =
      first_of_either (F one) (IsFaultAfter F (other ∷ [])) (IsFaultAfter F (one ∷ other ∷ [])) o p h (after_one other p k)
      (λ x b. (one, at_head one (other ∷ []) one refl, b))
      (λ x a. (a.0, at_tail one (other ∷ []) a.0 a.1, a.2))
      (λ x a. elim (head_or_tail one (other ∷ []) a.0 a.1) [ inl s ↦ inl (subst (λ n. F n x) (sym s) a.2) | inr m ↦ inr (a.0, m, a.2) ])

  -- what follows a node decides
  module _ (W : Fault → Type 0) (first : Option Fault) (ids : List NodeId) (rest : Rest W first (IsFaultAfter F ids)) where
    pub turn_ends : [] ≡ ids → IsFirst W first
    turn_ends is = subst (λ p. IsFirst W p) (earlier_none first) (rest None (subst (λ l. IsFirst (IsFaultAfter F l) None) is after_none))

    pub turn_goes_on : (next : NodeId) → next ∷ [] ≡ ids → Rest W first (F next)
    turn_goes_on next is o h = rest o (subst (λ l. IsFirst (IsFaultAfter F l) o) is (after_one next o h))

    pub turn_branches : (one other : NodeId) (left new : Option Fault) → one ∷ other ∷ [] ≡ ids → IsFirst (F one) left → new ≡ earlier first left → Rest W new (F other)
    turn_branches one other left new is h is_new o k =
        subst (λ p. IsFirst W p) (sym (earlier_assoc first left o) ∙ ap (λ p. earlier p o) (sym is_new))
        (rest (earlier left o) (subst (λ l. IsFirst (IsFaultAfter F l) (earlier left o)) is (after_two one other left o h k)))
