-- What stands at a node of a code, from the head of its tree.
use Rattle.std.proofs.Common.{◌≡◌, ℕ, zero, suc, ◌==◌, ◌<◌, ◌||◌, Bool, true, false, List, [], ◌∷◌, length, None, refl, arith, ◌⊎◌, inl, inr}
use Rattle.std.specs.Prelude.{slice_get}
use Rattle.std.proofs.lemmas.Bool.Decides.{nat_tests}
use Rattle.chor_base.specs.declared.names.NameId.{NameId}
use Rattle.chor_base.specs.declared.expr.Expr.{Expr}
use Rattle.chor_base.specs.Expr.{Term, term_of}
use Rattle.endpoint_code.specs.declared.code.CodeId.{CodeId}
use Rattle.endpoint_code.specs.declared.code.CodeNode.{CodeNode}
use Rattle.endpoint_code.specs.declared.code.CodeNode.TheVariants.{Join, Send, Recv, Pick, Branch, Throw, Catch, Set, Show, Host, If, Call, End}
use Rattle.endpoint_code.specs.Trees as action
use Rattle.endpoint_code.specs.Trees.{CodeTree, Arms, NoArms, Arm, tree_in, arms_in, node_tree, trees_of, code_at}
use Rattle.endpoint_code.specs.Heads.{Head, Acts, Branches, Decides, GoesTo, Stops, head_of}
use Rattle.endpoint_code.specs.Above.{IsAbove, does, offers, tests, calls, ends, AreAbove, one_arm, HasAbove, first, later}
use Rattle.endpoint_code.specs.Labels.{has_label}

-- ---- inversions of heads

pub record IsJoin (n : CodeNode) (c r k : NameId) : Type 0 where
  pub next : CodeId
  pub is : n ≡ Join c r k next

pub inv_join : {c r k : NameId} (n : CodeNode) → head_of n ≡ Acts (action.Joins c r k) → IsJoin n c r k
inv_join (Join c' r' k' next') h = record { next = next'; is = cc }
inv_join (Send k' b' x' next') h = absurd cc
inv_join (Recv k' a' x' next') h = absurd cc
inv_join (Pick k' b' l' next') h = absurd cc
inv_join (Branch k' a' arms') h = absurd cc
inv_join (Throw k' b' h' next') h = absurd cc
inv_join (Catch k' a' h' next') h = absurd cc
inv_join (Set x' v' next') h = absurd cc
inv_join (Show v' next') h = absurd cc
inv_join (Host x' f' u' v' next') h = absurd cc
inv_join (If v' f' g') h = absurd cc
inv_join (Call f' p' ss') h = absurd cc
inv_join End h = absurd cc

pub record IsSend (n : CodeNode) (k b : NameId) (t : Term) : Type 0 where
  pub e : Expr
  pub next : CodeId
  pub is : n ≡ Send k b e next
  pub term : term_of e ≡ t

pub inv_send : {k b : NameId} {t : Term} (n : CodeNode) → head_of n ≡ Acts (action.Sends k b t) → IsSend n k b t
inv_send (Join c' r' k' next') h = absurd cc
inv_send (Send k' b' x' next') h = record { e = x'; next = next'; is = cc; term = cc }
inv_send (Recv k' a' x' next') h = absurd cc
inv_send (Pick k' b' l' next') h = absurd cc
inv_send (Branch k' a' arms') h = absurd cc
inv_send (Throw k' b' h' next') h = absurd cc
inv_send (Catch k' a' h' next') h = absurd cc
inv_send (Set x' v' next') h = absurd cc
inv_send (Show v' next') h = absurd cc
inv_send (Host x' f' u' v' next') h = absurd cc
inv_send (If v' f' g') h = absurd cc
inv_send (Call f' p' ss') h = absurd cc
inv_send End h = absurd cc

pub record IsRecv (n : CodeNode) (k a x : NameId) : Type 0 where
  pub next : CodeId
  pub is : n ≡ Recv k a x next

pub inv_recv : {k a x : NameId} (n : CodeNode) → head_of n ≡ Acts (action.Receives k a x) → IsRecv n k a x
inv_recv (Join c' r' k' next') h = absurd cc
inv_recv (Send k' b' x' next') h = absurd cc
inv_recv (Recv k' a' x' next') h = record { next = next'; is = cc }
inv_recv (Pick k' b' l' next') h = absurd cc
inv_recv (Branch k' a' arms') h = absurd cc
inv_recv (Throw k' b' h' next') h = absurd cc
inv_recv (Catch k' a' h' next') h = absurd cc
inv_recv (Set x' v' next') h = absurd cc
inv_recv (Show v' next') h = absurd cc
inv_recv (Host x' f' u' v' next') h = absurd cc
inv_recv (If v' f' g') h = absurd cc
inv_recv (Call f' p' ss') h = absurd cc
inv_recv End h = absurd cc

pub record IsPick (n : CodeNode) (k b l : NameId) : Type 0 where
  pub next : CodeId
  pub is : n ≡ Pick k b l next

pub inv_pick : {k b l : NameId} (n : CodeNode) → head_of n ≡ Acts (action.Selects k b l) → IsPick n k b l
inv_pick (Join c' r' k' next') h = absurd cc
inv_pick (Send k' b' x' next') h = absurd cc
inv_pick (Recv k' a' x' next') h = absurd cc
inv_pick (Pick k' b' l' next') h = record { next = next'; is = cc }
inv_pick (Branch k' a' arms') h = absurd cc
inv_pick (Throw k' b' h' next') h = absurd cc
inv_pick (Catch k' a' h' next') h = absurd cc
inv_pick (Set x' v' next') h = absurd cc
inv_pick (Show v' next') h = absurd cc
inv_pick (Host x' f' u' v' next') h = absurd cc
inv_pick (If v' f' g') h = absurd cc
inv_pick (Call f' p' ss') h = absurd cc
inv_pick End h = absurd cc

pub record IsBranch (n : CodeNode) (k a : NameId) : Type 0 where
  pub arms : List (NameId × CodeId)
  pub is : n ≡ Branch k a arms

pub inv_branch : {k a : NameId} (n : CodeNode) → head_of n ≡ Branches k a → IsBranch n k a
inv_branch (Join c' r' k' next') h = absurd cc
inv_branch (Send k' b' x' next') h = absurd cc
inv_branch (Recv k' a' x' next') h = absurd cc
inv_branch (Pick k' b' l' next') h = absurd cc
inv_branch (Branch k' a' arms') h = record { arms = arms'; is = cc }
inv_branch (Throw k' b' h' next') h = absurd cc
inv_branch (Catch k' a' h' next') h = absurd cc
inv_branch (Set x' v' next') h = absurd cc
inv_branch (Show v' next') h = absurd cc
inv_branch (Host x' f' u' v' next') h = absurd cc
inv_branch (If v' f' g') h = absurd cc
inv_branch (Call f' p' ss') h = absurd cc
inv_branch End h = absurd cc

pub record IsThrow (n : CodeNode) (k b h : NameId) : Type 0 where
  pub next : CodeId
  pub is : n ≡ Throw k b h next

pub inv_throw : {k b h : NameId} (n : CodeNode) → head_of n ≡ Acts (action.Gives k b h) → IsThrow n k b h
inv_throw (Join c' r' k' next') h = absurd cc
inv_throw (Send k' b' x' next') h = absurd cc
inv_throw (Recv k' a' x' next') h = absurd cc
inv_throw (Pick k' b' l' next') h = absurd cc
inv_throw (Branch k' a' arms') h = absurd cc
inv_throw (Throw k' b' h' next') h = record { next = next'; is = cc }
inv_throw (Catch k' a' h' next') h = absurd cc
inv_throw (Set x' v' next') h = absurd cc
inv_throw (Show v' next') h = absurd cc
inv_throw (Host x' f' u' v' next') h = absurd cc
inv_throw (If v' f' g') h = absurd cc
inv_throw (Call f' p' ss') h = absurd cc
inv_throw End h = absurd cc

pub record IsCatch (n : CodeNode) (k a h : NameId) : Type 0 where
  pub next : CodeId
  pub is : n ≡ Catch k a h next

pub inv_catch : {k a h : NameId} (n : CodeNode) → head_of n ≡ Acts (action.Gains k a h) → IsCatch n k a h
inv_catch (Join c' r' k' next') h = absurd cc
inv_catch (Send k' b' x' next') h = absurd cc
inv_catch (Recv k' a' x' next') h = absurd cc
inv_catch (Pick k' b' l' next') h = absurd cc
inv_catch (Branch k' a' arms') h = absurd cc
inv_catch (Throw k' b' h' next') h = absurd cc
inv_catch (Catch k' a' h' next') h = record { next = next'; is = cc }
inv_catch (Set x' v' next') h = absurd cc
inv_catch (Show v' next') h = absurd cc
inv_catch (Host x' f' u' v' next') h = absurd cc
inv_catch (If v' f' g') h = absurd cc
inv_catch (Call f' p' ss') h = absurd cc
inv_catch End h = absurd cc

pub record IsSet (n : CodeNode) (x : NameId) (t : Term) : Type 0 where
  pub e : Expr
  pub next : CodeId
  pub is : n ≡ Set x e next
  pub term : term_of e ≡ t

pub inv_set : {x : NameId} {t : Term} (n : CodeNode) → head_of n ≡ Acts (action.Sets x t) → IsSet n x t
inv_set (Join c' r' k' next') h = absurd cc
inv_set (Send k' b' x' next') h = absurd cc
inv_set (Recv k' a' x' next') h = absurd cc
inv_set (Pick k' b' l' next') h = absurd cc
inv_set (Branch k' a' arms') h = absurd cc
inv_set (Throw k' b' h' next') h = absurd cc
inv_set (Catch k' a' h' next') h = absurd cc
inv_set (Set x' v' next') h = record { e = v'; next = next'; is = cc; term = cc }
inv_set (Show v' next') h = absurd cc
inv_set (Host x' f' u' v' next') h = absurd cc
inv_set (If v' f' g') h = absurd cc
inv_set (Call f' p' ss') h = absurd cc
inv_set End h = absurd cc

pub record IsShow (n : CodeNode) (t : Term) : Type 0 where
  pub e : Expr
  pub next : CodeId
  pub is : n ≡ Show e next
  pub term : term_of e ≡ t

pub inv_show : {t : Term} (n : CodeNode) → head_of n ≡ Acts (action.Shows t) → IsShow n t
inv_show (Join c' r' k' next') h = absurd cc
inv_show (Send k' b' x' next') h = absurd cc
inv_show (Recv k' a' x' next') h = absurd cc
inv_show (Pick k' b' l' next') h = absurd cc
inv_show (Branch k' a' arms') h = absurd cc
inv_show (Throw k' b' h' next') h = absurd cc
inv_show (Catch k' a' h' next') h = absurd cc
inv_show (Set x' v' next') h = absurd cc
inv_show (Show v' next') h = record { e = v'; next = next'; is = cc; term = cc }
inv_show (Host x' f' u' v' next') h = absurd cc
inv_show (If v' f' g') h = absurd cc
inv_show (Call f' p' ss') h = absurd cc
inv_show End h = absurd cc

pub record IsHost (n : CodeNode) (x f : NameId) (t s : Term) : Type 0 where
  pub e : Expr
  pub g : Expr
  pub next : CodeId
  pub is : n ≡ Host x f e g next
  pub term : term_of e ≡ t
  pub term2 : term_of g ≡ s

pub inv_host : {x f : NameId} {t s : Term} (n : CodeNode) → head_of n ≡ Acts (action.Asks x f t s) → IsHost n x f t s
inv_host (Join c' r' k' next') h = absurd cc
inv_host (Send k' b' x' next') h = absurd cc
inv_host (Recv k' a' x' next') h = absurd cc
inv_host (Pick k' b' l' next') h = absurd cc
inv_host (Branch k' a' arms') h = absurd cc
inv_host (Throw k' b' h' next') h = absurd cc
inv_host (Catch k' a' h' next') h = absurd cc
inv_host (Set x' v' next') h = absurd cc
inv_host (Show v' next') h = absurd cc
inv_host (Host x' f' u' v' next') h = record { e = u'; g = v'; next = next'; is = cc; term = cc; term2 = cc }
inv_host (If v' f' g') h = absurd cc
inv_host (Call f' p' ss') h = absurd cc
inv_host End h = absurd cc

pub record IsIf (n : CodeNode) (t : Term) : Type 0 where
  pub e : Expr
  pub one : CodeId
  pub other : CodeId
  pub is : n ≡ If e one other
  pub term : term_of e ≡ t

pub inv_if : {t : Term} (n : CodeNode) → head_of n ≡ Decides t → IsIf n t
inv_if (Join c' r' k' next') h = absurd cc
inv_if (Send k' b' x' next') h = absurd cc
inv_if (Recv k' a' x' next') h = absurd cc
inv_if (Pick k' b' l' next') h = absurd cc
inv_if (Branch k' a' arms') h = absurd cc
inv_if (Throw k' b' h' next') h = absurd cc
inv_if (Catch k' a' h' next') h = absurd cc
inv_if (Set x' v' next') h = absurd cc
inv_if (Show v' next') h = absurd cc
inv_if (Host x' f' u' v' next') h = absurd cc
inv_if (If v' f' g') h = record { e = v'; one = f'; other = g'; is = cc; term = cc }
inv_if (Call f' p' ss') h = absurd cc
inv_if End h = absurd cc

pub record IsCall (n : CodeNode) (f p : NameId) (ss : List NameId) : Type 0 where
  pub is : n ≡ Call f p ss

pub inv_call : {f p : NameId} {ss : List NameId} (n : CodeNode) → head_of n ≡ GoesTo f p ss → IsCall n f p ss
inv_call (Join c' r' k' next') h = absurd cc
inv_call (Send k' b' x' next') h = absurd cc
inv_call (Recv k' a' x' next') h = absurd cc
inv_call (Pick k' b' l' next') h = absurd cc
inv_call (Branch k' a' arms') h = absurd cc
inv_call (Throw k' b' h' next') h = absurd cc
inv_call (Catch k' a' h' next') h = absurd cc
inv_call (Set x' v' next') h = absurd cc
inv_call (Show v' next') h = absurd cc
inv_call (Host x' f' u' v' next') h = absurd cc
inv_call (If v' f' g') h = absurd cc
inv_call (Call f' p' ss') h = record { is = cc }
inv_call End h = absurd cc

pub record IsEnd (n : CodeNode) : Type 0 where
  pub is : n ≡ End

pub inv_end : (n : CodeNode) → head_of n ≡ Stops → IsEnd n
inv_end (Join c' r' k' next') h = absurd cc
inv_end (Send k' b' x' next') h = absurd cc
inv_end (Recv k' a' x' next') h = absurd cc
inv_end (Pick k' b' l' next') h = absurd cc
inv_end (Branch k' a' arms') h = absurd cc
inv_end (Throw k' b' h' next') h = absurd cc
inv_end (Catch k' a' h' next') h = absurd cc
inv_end (Set x' v' next') h = absurd cc
inv_end (Show v' next') h = absurd cc
inv_end (Host x' f' u' v' next') h = absurd cc
inv_end (If v' f' g') h = absurd cc
inv_end (Call f' p' ss') h = absurd cc
inv_end End h = record { is = cc }

-- ---- codes above others

pub rest_above : {a b : action.Action} {q p : CodeTree} → IsAbove (action.Does a q) (action.Does b p) → IsAbove q p
rest_above (does a) = a

pub arms_above : {k a h b : NameId} {qs ps : Arms} → IsAbove (action.Offers k a qs) (action.Offers h b ps) → AreAbove qs ps
arms_above (offers a) = a

pub first_above : {e f : Term} {q q' p p' : CodeTree} → IsAbove (action.Tests e q q') (action.Tests f p p') → IsAbove q p
first_above (tests a b) = a

pub second_above : {e f : Term} {q q' p p' : CodeTree} → IsAbove (action.Tests e q q') (action.Tests f p p') → IsAbove q' p'
second_above (tests a b) = b

pub here_or_later : {k l : NameId} {q p : CodeTree} {qs : Arms} → HasAbove (Arm k q qs) l p → ((k ≡ l) × IsAbove q p) ⊎ HasAbove qs l p
here_or_later (first a) = inl (refl, a)
here_or_later (later h) = inr h

pub both_above : {qs ps : Arms} {l : NameId} {p : CodeTree} → AreAbove qs (Arm l p ps) → HasAbove qs l p × AreAbove qs ps
both_above (one_arm h r) = (h, r)

pub labelled : {qs : Arms} {l : NameId} {p : CodeTree} → HasAbove qs l p → has_label l qs ≡ true
labelled (first {l = l} a) = grind (nat_tests, arith)
labelled (later {l = l} {k = k} {qs = qs} h) = let e = labelled h in go (l.0 == k.0) e
  where
    go : (b : Bool) → has_label l qs ≡ true → (b || has_label l qs) ≡ true
    go true e = refl
    go false e = e

-- a place inside a list has something
pub nothing_there : {A : Type 0} (xs : List A) (k : ℕ) → k < length xs → slice_get xs k ≡ None → ⊥
nothing_there [] k h e = omega arith
nothing_there (x ∷ xs) zero h e = absurd cc
nothing_there (x ∷ xs) (suc k) h e = nothing_there xs k (omega arith) e
