-- Codes whose branches have no label twice, and codes that are the same up to the order of labels.
use Rattle.std.specs.Prelude.{◌≡◌, ◌==◌, ◌||◌, Bool, false, List}
use Rattle.chor_base.specs.declared.names.NameId.{NameId}
use Rattle.chor_base.specs.Expr.{Term}
use Rattle.endpoint_code.specs.Trees.{Action, CodeTree, Does, Offers, Tests, Calls, Ends, Arms, NoArms, Arm}

-- some arm has this label
abbrev pub has_label : NameId → Arms → Bool
has_label l NoArms = false
has_label l (Arm k c rest) = (l.0 == k.0) || has_label l rest

-- no branch of the code has a label twice
abbrev mutual
  pub HasDistinctLabels : CodeTree → Type 0
  HasDistinctLabels (Does a rest) = HasDistinctLabels rest
  HasDistinctLabels (Offers k a arms) = AreDistinctArms arms
  HasDistinctLabels (Tests e first second) = HasDistinctLabels first × HasDistinctLabels second
  HasDistinctLabels (Calls f p ss) = Unit {0}
  HasDistinctLabels Ends = Unit {0}

  -- no two arms have one label, and no branch of their codes has one twice
  pub AreDistinctArms : Arms → Type 0
  AreDistinctArms NoArms = Unit {0}
  AreDistinctArms (Arm l c rest) = (has_label l rest ≡ false) × HasDistinctLabels c × AreDistinctArms rest

-- ArmIsIn l c rest arms: the arms are these others with one more, of label l and code c, at some place
pub data ArmIsIn (l : NameId) (c : CodeTree) : Arms → Arms → Type 0 where
  here : {rest : Arms} → ArmIsIn l c rest (Arm l c rest)
  there : {k : NameId} {d : CodeTree} {rest arms : Arms} → ArmIsIn l c rest arms → ArmIsIn l c (Arm k d rest) (Arm k d arms)

-- the same code up to the order of the labels in each branch
mutual
  pub data IsReordered : CodeTree → CodeTree → Type 0 where
    does : {a : Action} {q p : CodeTree} → IsReordered q p → IsReordered (Does a q) (Does a p)
    offers : {k a : NameId} {qs ps : Arms} → AreReordered qs ps → IsReordered (Offers k a qs) (Offers k a ps)
    tests : {e : Term} {q q' p p' : CodeTree} → IsReordered q p → IsReordered q' p' → IsReordered (Tests e q q') (Tests e p p')
    calls : {f p : NameId} {ss : List NameId} → IsReordered (Calls f p ss) (Calls f p ss)
    ends : IsReordered Ends Ends

  pub data AreReordered : Arms → Arms → Type 0 where
    no_arm : AreReordered NoArms NoArms
    one_arm : {l : NameId} {q p : CodeTree} {qs ps others : Arms} → ArmIsIn l p others ps → IsReordered q p → AreReordered qs others → AreReordered (Arm l q qs) ps
