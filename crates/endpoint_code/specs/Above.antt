-- When one code is above another: the same, with more labels in some branches.
use Rattle.std.specs.Prelude.{List}
use Rattle.chor_base.specs.declared.names.NameId.{NameId}
use Rattle.chor_base.specs.Expr.{Term}
use Rattle.endpoint_code.specs.Trees.{Action, CodeTree, Does, Offers, Tests, Calls, Ends, Arms, NoArms, Arm}

-- IsAbove q p: q offers at least the same branches as p, and is the same in all else
mutual
  pub data IsAbove : CodeTree → CodeTree → Type 0 where
    does : {a : Action} {q p : CodeTree} → IsAbove q p → IsAbove (Does a q) (Does a p)
    offers : {k a : NameId} {qs ps : Arms} → AreAbove qs ps → IsAbove (Offers k a qs) (Offers k a ps)
    tests : {e : Term} {q q' p p' : CodeTree} → IsAbove q p → IsAbove q' p' → IsAbove (Tests e q q') (Tests e p p')
    calls : {f p : NameId} {ss : List NameId} → IsAbove (Calls f p ss) (Calls f p ss)
    ends : IsAbove Ends Ends

  -- each arm of the second has one above it among the first
  pub data AreAbove : Arms → Arms → Type 0 where
    no_arm : {qs : Arms} → AreAbove qs NoArms
    one_arm : {qs ps : Arms} {l : NameId} {p : CodeTree} → HasAbove qs l p → AreAbove qs ps → AreAbove qs (Arm l p ps)

  -- an arm has this label, and code above this one
  pub data HasAbove : Arms → NameId → CodeTree → Type 0 where
    first : {l : NameId} {q p : CodeTree} {qs : Arms} → IsAbove q p → HasAbove (Arm l q qs) l p
    later : {l k : NameId} {q p : CodeTree} {qs : Arms} → HasAbove qs l p → HasAbove (Arm k q qs) l p
