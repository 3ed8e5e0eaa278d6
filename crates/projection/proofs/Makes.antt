-- How code is made, node by node.
use Rattle.std.proofs.Common.{◌≡◌, List, [], ◌∷◌, ◌++◌, length, refl, ap, ◌∙◌, Some, subst, arith, length-append}
use Rattle.std.specs.Prelude.{Option, Result, Ok, Err, IfOk}
use Rattle.std.specs.List.{AllZip}
use Rattle.std.proofs.lemmas.List.Elements.{All-nil, All-cons}
use Rattle.chor_base.specs.declared.memory.Memory.{Memory}
use Rattle.chor_base.specs.declared.names.NameId.{NameId}
use Rattle.chor_tree.specs.declared.file.Proc.{Proc}
use Rattle.chor_semantics.specs.Choreography.{Node, Choreography, Then}
use Rattle.endpoint_code.specs.declared.code.CodeId.{CodeId}
use Rattle.endpoint_code.specs.declared.code.CodeNode.{CodeNode}
use Rattle.endpoint_code.specs.Trees.{CodeTree, trees_of}
use Rattle.endpoint_code.proofs.CodeTables.{code_at-pushed}
use Rattle.projection.specs.Codes.{Part, Absent, Acts, Learns, part_in, IsCodeOf, acts, learns, absent}
use Rattle.projection.specs.Making.{part_tree, IsStep, Puts, DoesPart}

-- the code of a node is its part, and then the code of what follows
pub code_then : (procs : List Proc) (r : NameId) (n : Node) (rest : Choreography) (c : CodeTree) → IsCodeOf procs r rest c → IsCodeOf procs r (Then n rest) (part_tree (part_in r n) c)
code_then procs r n rest c h = go (part_in r n) refl
  where
    go : (p : Part) → part_in r n ≡ p → IsCodeOf procs r (Then n rest) (part_tree p c)
    go Absent e = absent e h
    go (Acts a) e = acts e h
    go (Learns k a l) e = learns e h

-- ---- one node more

puts_node : (old new : List CodeNode) (n : CodeNode) (part : Part) (next id : CodeId) → IsStep next part n → new ≡ old ++ n ∷ [] → id.0 ≡ length old → Puts old new part next id
puts_node old new n part next id s e i = record {
  inside = omega (arith, ap length e ∙ length-append old (n ∷ []));
  code = code_at-pushed old new n id e i ∙ s.tree (trees_of old);
  more = n ∷ [];
  is = e;
  only = All-cons (IsStep next part) n [] s (All-nil (IsStep next part));
}

pub puts_pushed : (old new : List CodeNode) (n : CodeNode) (part : Part) (next : CodeId) (made : Option CodeNode) (r : Result CodeId Memory) → DoesPart next part made → made ≡ Some n → IfOk r (λ id. (id.0 ≡ length old) × (new ≡ old ++ n ∷ [])) → IfOk r (Puts old new part next)
puts_pushed old new n part next made (Ok id) s e h = puts_node old new n part next id (subst (DoesPart next part) e s) h.1 h.0
puts_pushed old new n part next made (Err m) s e h = tt

-- one pair more
pub zip_push : {A B : Type 0} (R : A → B → Type 0) (xs : List A) (ys : List B) (x : A) (y : B) → AllZip R xs ys → R x y → AllZip R (xs ++ x ∷ []) (ys ++ y ∷ [])
zip_push R [] [] x y z r = (r, tt)
zip_push R [] (b ∷ ys) x y z r = absurd z
zip_push R (a ∷ xs) [] x y z r = absurd z
zip_push R (a ∷ xs) (b ∷ ys) x y z r = (z.0, zip_push R xs ys x y z.1 r)
