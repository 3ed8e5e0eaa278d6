-- What two codes make when they are merged: all arms of both, where those of one label are merged in turn (this project's own).
use Rattle.std.specs.Prelude.{◌≡◌, false, List, [], ◌∷◌}
use Rattle.chor_base.specs.declared.names.NameId.{NameId}
use Rattle.chor_base.specs.Expr.{Term}
use Rattle.endpoint_code.specs.Trees.{Action, CodeTree, Does, Offers, Tests, Calls, Ends, Arms, NoArms, Arm}
use Rattle.endpoint_code.specs.Labels.{has_label, ArmIsIn, IsReordered}

-- IsMerge c d m: c and d are the same but for the labels of their branches, and m has the labels of both
mutual
  pub data IsMerge : CodeTree → CodeTree → CodeTree → Type 0 where
    both_do : {a : Action} {c d m : CodeTree} → IsMerge c d m → IsMerge (Does a c) (Does a d) (Does a m)
    both_offer : {k a : NameId} {cs ds ms : Arms} → AreMergedArms cs ds ms → IsMerge (Offers k a cs) (Offers k a ds) (Offers k a ms)
    both_test : {e : Term} {c d m c' d' m' : CodeTree} → IsMerge c d m → IsMerge c' d' m' → IsMerge (Tests e c c') (Tests e d d') (Tests e m m')
    both_call : {f p : NameId} {ss : List NameId} → IsMerge (Calls f p ss) (Calls f p ss) (Calls f p ss)
    both_end : IsMerge Ends Ends Ends

  -- each arm of the first is alone or merged with the arm of its label, and then come those that are left of the second
  pub data AreMergedArms : Arms → Arms → Arms → Type 0 where
    left_over : {ds : Arms} → AreMergedArms NoArms ds ds
    alone : {l : NameId} {c : CodeTree} {cs ds ms : Arms}
        → has_label l ds ≡ false → AreMergedArms cs ds ms → AreMergedArms (Arm l c cs) ds (Arm l c ms)
    in_both : {l : NameId} {c d m : CodeTree} {cs ds others ms : Arms}
        → ArmIsIn l d others ds → IsMerge c d m → AreMergedArms cs others ms → AreMergedArms (Arm l c cs) ds (Arm l m ms)

-- a code merged with these, one after the other
pub data IsMergeOf : CodeTree → List CodeTree → CodeTree → Type 0 where
  no_other : {c : CodeTree} → IsMergeOf c [] c
  one_other : {c d k m : CodeTree} {cs : List CodeTree} → IsMerge c d k → IsMergeOf k cs m → IsMergeOf c (d ∷ cs) m

-- the code is such a merge up to the order of labels
pub record IsMadeOf (c : CodeTree) (cs : List CodeTree) (q : CodeTree) : Type 0 where
  pub code : CodeTree
  pub merge : IsMergeOf c cs code
  pub same : IsReordered q code
