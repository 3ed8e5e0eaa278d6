-- From code that is above other code, name by name, to a copy of it that is above by the same numbers.
use Rattle.std.proofs.Common.{◌≡◌, ℕ, List, [], ◌∷◌, refl, sym, ap, subst}
use Rattle.std.specs.List.{AllZip}
use Rattle.chor_base.specs.declared.names.NameId.{NameId}
use Rattle.chor_base.specs.declared.value.Value.{Value}
use Rattle.chor_base.specs.declared.value.Value.TheVariants.{Text, Part}
use Rattle.chor_base.specs.Expr.{Term, Constant, Variable, Unary, Binary}
use Rattle.endpoint_code.specs.Trees as tree
use Rattle.endpoint_code.specs.Trees.{Action, CodeTree, Arms}
use Rattle.endpoint_code.specs.Above as above
use Rattle.endpoint_code.specs.Above.{IsAbove, AreAbove, HasAbove}
use Rattle.endpoint_code.proofs.AboveOrder.{has_there, has_within}
use Rattle.same_programs.specs.Codes as same
use Rattle.same_programs.specs.Codes.{SameValue, SameTerm, SameAction, SameCode, SameArms}
use Rattle.endpoint_link.specs.AboveAs as across
use Rattle.endpoint_link.specs.AboveAs.{IsAboveAs, AreAboveAs, HasAboveAs}

-- N and T say which names and texts of the copied code are the same in the copy, M and U which are in the code below. What is
-- the same in both has one number there
module _ (N M : NameId → NameId → Type 0) (T U : ℕ → ℕ → Type 0) (one_name : (x y z : NameId) → N x y → M x z → y ≡ z) (one_text : (x y z : ℕ) → T x y → U x z → y ≡ z) where
  one_value : {x y z : Value} → SameValue N T x y → SameValue M U x z → y ≡ z
  one_value same.number same.number = refl
  one_value same.truth same.truth = refl
  one_value (same.text t) (same.text u) = ap Text (one_text _ _ _ t u)
  one_value (same.part {s = s} n) (same.part m) = ap (Part s) (one_name _ _ _ n m)

  one_term : {x y z : Term} → SameTerm N T x y → SameTerm M U x z → y ≡ z
  one_term (same.constant v) (same.constant w) = ap Constant (one_value v w)
  one_term (same.variable n) (same.variable m) = ap Variable (one_name _ _ _ n m)
  one_term (same.unary {o = o} t) (same.unary u) = ap (Unary o) (one_term t u)
  one_term (same.binary {o = o} s t) (same.binary u v) = λ i. Binary o (one_term s u i) (one_term t v i)

  one_action : {x y z : Action} → SameAction N T x y → SameAction M U x z → y ≡ z
  one_action (same.joins a b c) (same.joins d e f) = λ i. tree.Joins (one_name _ _ _ a d i) (one_name _ _ _ b e i) (one_name _ _ _ c f i)
  one_action (same.sends a b t) (same.sends d e u) = λ i. tree.Sends (one_name _ _ _ a d i) (one_name _ _ _ b e i) (one_term t u i)
  one_action (same.receives a b c) (same.receives d e f) = λ i. tree.Receives (one_name _ _ _ a d i) (one_name _ _ _ b e i) (one_name _ _ _ c f i)
  one_action (same.selects a b c) (same.selects d e f) = λ i. tree.Selects (one_name _ _ _ a d i) (one_name _ _ _ b e i) (one_name _ _ _ c f i)
  one_action (same.gives a b c) (same.gives d e f) = λ i. tree.Gives (one_name _ _ _ a d i) (one_name _ _ _ b e i) (one_name _ _ _ c f i)
  one_action (same.gains a b c) (same.gains d e f) = λ i. tree.Gains (one_name _ _ _ a d i) (one_name _ _ _ b e i) (one_name _ _ _ c f i)
  one_action (same.sets a t) (same.sets d u) = λ i. tree.Sets (one_name _ _ _ a d i) (one_term t u i)
  one_action (same.shows t) (same.shows u) = λ i. tree.Shows (one_term t u i)
  one_action (same.asks a b s t) (same.asks d e u v) = λ i. tree.Asks (one_name _ _ _ a d i) (one_name _ _ _ b e i) (one_term s u i) (one_term t v i)

  one_list : (xs ys zs : List NameId) → AllZip N xs ys → AllZip M xs zs → ys ≡ zs
  one_list [] [] [] a b = refl
  one_list [] [] (z ∷ zs) a b = absurd b
  one_list [] (y ∷ ys) zs a b = absurd a
  one_list (x ∷ xs) [] zs a b = absurd a
  one_list (x ∷ xs) (y ∷ ys) [] a b = absurd b
  one_list (x ∷ xs) (y ∷ ys) (z ∷ zs) a b = λ i. one_name x y z a.0 b.0 i ∷ one_list xs ys zs a.1 b.1 i

  mutual
    pub above_too : {c d p : CodeTree} → SameCode N T c d → IsAboveAs M U c p → IsAbove d p
    above_too (same.does {q = q} {p = d} a s) (across.does {b = b} {p = p} e h) = subst (λ (x : Action). IsAbove (tree.Does x d) (tree.Does b p)) (sym (one_action a e)) (above.does (above_too s h))
    above_too (same.offers {h = k'} {b = a'} {ps = ds} k a s) (across.offers {h = h} {b = b} {ps = ps} l e g) =
        subst (λ (x : NameId). IsAbove (tree.Offers x a' ds) (tree.Offers h b ps)) (sym (one_name _ k' h k l))
        (subst (λ (x : NameId). IsAbove (tree.Offers h x ds) (tree.Offers h b ps)) (sym (one_name _ a' b a e)) (above.offers (arms_too s g)))
    above_too (same.tests {p = d} {p' = d'} t s r) (across.tests {u = u} {p = p} {p' = p'} v g h) =
        subst (λ (x : Term). IsAbove (tree.Tests x d d') (tree.Tests u p p')) (sym (one_term t v)) (above.tests (above_too s g) (above_too r h))
    above_too (same.calls {g = f} {q = q} {ss = ss} {rs = ks} a b c) (across.calls {g = g} {q = p} {rs = rs} d e h) =
        subst (λ (x : CodeTree). IsAbove x (tree.Calls g p rs)) (λ i. tree.Calls (sym (one_name _ _ _ a d) i) (sym (one_name _ _ _ b e) i) (sym (one_list ss ks rs c h) i)) above.calls
    above_too same.ends across.ends = above.ends

    arms_too : {cs ds ps : Arms} → SameArms N T cs ds → AreAboveAs M U cs ps → AreAbove ds ps
    arms_too s across.no_arm = above.no_arm
    arms_too s (across.one_arm h g) = above.one_arm (has_too s h) (arms_too s g)

    has_too : {cs ds : Arms} {l : NameId} {p : CodeTree} → SameArms N T cs ds → HasAboveAs M U cs l p → HasAbove ds l p
    has_too same.no_arm h = elim h [ ]
    has_too {ds = ds} {p = p} (same.one_arm n s i rest) (across.first m h) = subst (λ (x : NameId). HasAbove ds x p) (one_name _ _ _ n m) (has_there i (above_too s h))
    has_too (same.one_arm n s i rest) (across.later h) = has_within i (has_too rest h)
