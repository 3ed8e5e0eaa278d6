-- What two codes of a table have in common, and what the merging of arms makes.
use Rattle.std.specs.Prelude.{ℕ, ◌≡◌, ◌<◌, false, List, All, Some, length, slice_get}
use Rattle.chor_base.specs.declared.names.NameId.{NameId}
use Rattle.chor_base.specs.Expr.{Term}
use Rattle.endpoint_code.specs.declared.code.CodeId.{CodeId}
use Rattle.endpoint_code.specs.declared.code.CodeNode.{CodeNode}
use Rattle.endpoint_code.specs.Trees.{Action, CodeTree, Does, Tests, Offers, Arms, trees_of, arms_in, code_at}
use Rattle.endpoint_code.specs.Labels.{ArmIsIn, has_label}
use Rattle.branch_merge.specs.declared.meeting.Pair.{Pair}
use Rattle.branch_merge.specs.declared.meeting.Meeting.{Meeting}
use Rattle.branch_merge.specs.declared.meeting.Meeting.TheVariants.{Apart, Alike, Next, Either, Arms as Labels}
use Rattle.branch_merge.specs.Bounds.{IsLeast, HasNone, AreLeast}

-- ---- the codes at two numbers of a table

-- the arms that these are in a table
abbrev pub arms_at : List CodeNode → List (NameId × CodeId) → Arms
arms_at nodes arms = arms_in (trees_of nodes) arms

-- both stand in the table
pub record AreInside (nodes : List CodeNode) (pair : Pair) : Type 0 where
  pub left : pair.left.0 < length nodes
  pub right : pair.right.0 < length nodes

-- both stand before these two
pub record AreBefore (pair later : Pair) : Type 0 where
  pub left : pair.left.0 < later.left.0
  pub right : pair.right.0 < later.right.0

-- both do the same action
pub record DoSame (nodes : List CodeNode) (pair next : Pair) : Type 0 where
  pub action : Action
  pub left : code_at nodes pair.left ≡ Does action (code_at nodes next.left)
  pub right : code_at nodes pair.right ≡ Does action (code_at nodes next.right)
  pub before : AreBefore next pair

-- both test the same, and go on at the first where it holds, and else at the second
pub record TestSame (nodes : List CodeNode) (pair first second : Pair) : Type 0 where
  pub test : Term
  pub left : code_at nodes pair.left ≡ Tests test (code_at nodes first.left) (code_at nodes second.left)
  pub right : code_at nodes pair.right ≡ Tests test (code_at nodes first.right) (code_at nodes second.right)
  pub first_before : AreBefore first pair
  pub second_before : AreBefore second pair

-- both offer labels in the same session to the same role
pub record OfferSame (nodes : List CodeNode) (pair : Pair) (k from : NameId) (qs ps : List (NameId × CodeId)) : Type 0 where
  pub left : code_at nodes pair.left ≡ Offers k from (arms_at nodes qs)
  pub right : code_at nodes pair.right ≡ Offers k from (arms_at nodes ps)
  pub left_before : All (λ arm. arm.1.0 < pair.left.0) qs
  pub right_before : All (λ arm. arm.1.0 < pair.right.0) ps

-- what the codes at two numbers have in common: nothing, so that none is above both; all; or their heads
abbrev pub IsMeetingAt : List CodeNode → Pair → Meeting → Type 0
IsMeetingAt nodes pair Apart = HasNone (code_at nodes pair.left) (code_at nodes pair.right)
IsMeetingAt nodes pair Alike = code_at nodes pair.left ≡ code_at nodes pair.right
IsMeetingAt nodes pair (Next next) = DoSame nodes pair next
IsMeetingAt nodes pair (Either first second) = TestSame nodes pair first second
IsMeetingAt nodes pair (Labels k from qs ps) = OfferSame nodes pair k from qs.items ps.items

-- ---- arms

-- these arms stand in the table, and are the least above two others of the old table
pub record AreMerged (old new : List CodeNode) (qs ps rs : List (NameId × CodeId)) : Type 0 where
  pub inside : All (λ arm. arm.1.0 < length new) rs
  pub least : AreLeast (arms_at old qs) (arms_at old ps) (arms_at new rs)

-- an arm of this label stands at a place
pub record IsPlaceOf (arms : List (NameId × CodeId)) (label : NameId) (place : ℕ) : Type 0 where
  pub within : place < length arms
  pub code : CodeId
  pub at : slice_get arms place ≡ Some (label, code)

-- one arm goes on as m: alone, or merged with the arm of its label, which leaves the others
pub data IsTaken (l : NameId) (q m : CodeTree) (rest : Arms) : Arms → Type 0 where
  alone : has_label l rest ≡ false → m ≡ q → IsTaken l q m rest rest
  paired : {p : CodeTree} {others : Arms} → ArmIsIn l p others rest → IsLeast q p m → IsTaken l q m rest others

-- an arm has the same label, and no code is above both
pub record IsStuck (l : NameId) (q : CodeTree) (rest : Arms) : Type 0 where
  pub code : CodeTree
  pub others : Arms
  pub at : ArmIsIn l code others rest
  pub none : HasNone q code

-- an arm goes on at id, and these are left of the others
pub record Takes (old new : List CodeNode) (arm : NameId × CodeId) (rest left : List (NameId × CodeId)) (id : CodeId) : Type 0 where
  pub inside : id.0 < length new
  pub taken : IsTaken arm.0 (code_at old arm.1) (code_at new id) (arms_at old rest) (arms_at old left)
