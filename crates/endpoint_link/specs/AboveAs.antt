-- When code is above code with other tables of names and texts (this project's own). N says which names are the same, and T
-- which texts, those of the code above first.
use Rattle.std.specs.Prelude.{ℕ, List}
use Rattle.std.specs.List.{AllZip}
use Rattle.chor_base.specs.declared.names.NameId.{NameId}
use Rattle.chor_base.specs.Expr.{Term}
use Rattle.endpoint_code.specs.Trees.{Action, CodeTree, Does, Offers, Tests, Calls, Ends, Arms, NoArms, Arm}
use Rattle.same_programs.specs.Codes.{SameTerm, SameAction}

-- the first offers at least the same branches as the second, and is written like it in all else
mutual
  pub data IsAboveAs (N : NameId → NameId → Type 0) (T : ℕ → ℕ → Type 0) : CodeTree → CodeTree → Type 0 where
    does : {a b : Action} {q p : CodeTree} → SameAction N T a b → IsAboveAs N T q p → IsAboveAs N T (Does a q) (Does b p)
    offers : {k h a b : NameId} {qs ps : Arms} → N k h → N a b → AreAboveAs N T qs ps → IsAboveAs N T (Offers k a qs) (Offers h b ps)
    tests : {t u : Term} {q q' p p' : CodeTree} → SameTerm N T t u → IsAboveAs N T q p → IsAboveAs N T q' p' → IsAboveAs N T (Tests t q q') (Tests u p p')
    calls : {f g p q : NameId} {ss rs : List NameId} → N f g → N p q → AllZip N ss rs → IsAboveAs N T (Calls f p ss) (Calls g q rs)
    ends : IsAboveAs N T Ends Ends

  -- each arm of the second has one above it among the first
  pub data AreAboveAs (N : NameId → NameId → Type 0) (T : ℕ → ℕ → Type 0) : Arms → Arms → Type 0 where
    no_arm : {qs : Arms} → AreAboveAs N T qs NoArms
    one_arm : {qs ps : Arms} {l : NameId} {p : CodeTree} → HasAboveAs N T qs l p → AreAboveAs N T qs ps → AreAboveAs N T qs (Arm l p ps)

  -- an arm has the same label, and code above this one
  pub data HasAboveAs (N : NameId → NameId → Type 0) (T : ℕ → ℕ → Type 0) : Arms → NameId → CodeTree → Type 0 where
    first : {m l : NameId} {q p : CodeTree} {qs : Arms} → N m l → IsAboveAs N T q p → HasAboveAs N T (Arm m q qs) l p
    later : {l k : NameId} {q p : CodeTree} {qs : Arms} → HasAboveAs N T qs l p → HasAboveAs N T (Arm k q qs) l p
