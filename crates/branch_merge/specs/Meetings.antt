-- What two nodes of code have in common.
use Rattle.std.specs.Prelude.{◌≡◌, Bool, true, false, List, [], ◌∷◌, Some}
use Rattle.chor_base.specs.declared.names.NameId.{NameId}
use Rattle.chor_base.specs.Expr.{Term}
use Rattle.endpoint_code.specs.declared.code.CodeId.{CodeId}
use Rattle.endpoint_code.specs.declared.code.CodeNode.{CodeNode}
use Rattle.endpoint_code.specs.declared.code.CodeNode.TheVariants.{Branch, If}
use Rattle.endpoint_code.specs.Code.{children_of}
use Rattle.endpoint_code.specs.Trees.{Action, CodeTree, Does, Tests, tree_in, node_tree}
use Rattle.endpoint_code.specs.Heads.{head_of, next_of}
use Rattle.branch_merge.specs.declared.meeting.Pair.{Pair}
use Rattle.branch_merge.specs.declared.meeting.Meeting.{Meeting}
use Rattle.branch_merge.specs.declared.meeting.Meeting.TheVariants.{Apart, Alike, Next, Either, Arms}

-- the node does this action and goes on at p
pub record GoesOn (n : CodeNode) (x : Action) (p : CodeId) : Type 0 where
  pub next : next_of n ≡ Some p
  pub children : children_of n ≡ p ∷ []
  pub tree : (ts : List CodeTree) → node_tree ts n ≡ Does x (tree_in ts p)

-- the node tests this and goes on at p or at r
pub record Forks (n : CodeNode) (e : Term) (p r : CodeId) : Type 0 where
  pub children : children_of n ≡ p ∷ r ∷ []
  pub tree : (ts : List CodeTree) → node_tree ts n ≡ Tests e (tree_in ts p) (tree_in ts r)

-- both do the same action
pub record GoOn (n m : CodeNode) (next : Pair) : Type 0 where
  pub action : Action
  pub left : GoesOn n action next.left
  pub right : GoesOn m action next.right

-- both test the same
pub record Fork (n m : CodeNode) (first second : Pair) : Type 0 where
  pub test : Term
  pub left : Forks n test first.left second.left
  pub right : Forks m test first.right second.right

-- both offer labels in the same session to the same role
pub record Offer (n m : CodeNode) (k a : NameId) (qs ps : List (NameId × CodeId)) : Type 0 where
  pub left : n ≡ Branch k a qs
  pub right : m ≡ Branch k a ps

-- not even their heads, all, or their heads, and then where each goes on
abbrev pub IsMeeting : CodeNode → CodeNode → Meeting → Type 0
IsMeeting n m Apart = head_of n ≡ head_of m → ⊥
IsMeeting n m Alike = (ts : List CodeTree) → node_tree ts n ≡ node_tree ts m
IsMeeting n m (Next next) = GoOn n m next
IsMeeting n m (Either first second) = Fork n m first second
IsMeeting n m (Arms k a qs ps) = Offer n m k a qs.items ps.items

abbrev pub is_test : CodeNode → Bool
is_test (If e first second) = true
is_test _ = false

-- a node that tests the same and goes on at first or second
abbrev pub TestsAs : CodeNode → CodeId → CodeId → CodeNode → Type 0
TestsAs n first second m = (e : Term) (p r : CodeId) → Forks n e p r → Forks m e first second
