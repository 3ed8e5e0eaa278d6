-- The blocks of a table of nodes, when nodes are added.
use Rattle.std.proofs.Common.{◌≡◌, ◌<◌, List, [], ◌∷◌, ◌++◌, length, map, ap, refl, sym, ◌∙◌, subst, append_assoc, arith}
use Rattle.std.proofs.lemmas.List.{append-nil, length-append}
use Rattle.node_table.proofs.Tables.{tree_stays, tree_pushed}
use Rattle.chor_tree.specs.declared.file.Proc.{Proc}
use Rattle.chor_tree.specs.declared.tree.Node.{Node}
use Rattle.chor_tree.specs.declared.tree.NodeId.{NodeId}
use Rattle.chor_tree.specs.Source.{Block, Ends, Procedure, nowhere, block_in, block_of, node_block, blocks_of, procedure_of}
use Rattle.source_grammar.specs.Growing.{Grows, AreThere}

pub block_stays : (old new : List Node) (id : NodeId) → Grows old new → id.0 < length old → block_in (blocks_of new) id ≡ block_in (blocks_of old) id
block_stays old new id grows lt = tree_stays node_block (Ends nowhere) old new grows.0 id.0 grows.1 lt

pub block_pushed : (old new : List Node) (n : Node) (id : NodeId) → new ≡ old ++ n ∷ [] → id.0 ≡ length old → block_in (blocks_of new) id ≡ block_of (blocks_of old) n.place n.form
block_pushed old new n id e at = tree_pushed node_block (Ends nowhere) old new n id.0 e at

-- ---- growth

pub grows_none : (ns : List Node) → Grows ns ns
grows_none ns = ([], sym (append-nil ns))

pub grows_by : (old new : List Node) (n : Node) → new ≡ old ++ n ∷ [] → Grows old new
grows_by old new n e = (n ∷ [], e)

pub grows_on : (a b c : List Node) → Grows a b → Grows b c → Grows a c
grows_on a b c g h = (g.0 ++ h.0, h.1 ∙ ap (λ (l : List Node). l ++ h.0) g.1 ∙ append_assoc a g.0 h.0)

pub still_there : (a b : List Node) (id : NodeId) → Grows a b → id.0 < length a → id.0 < length b
still_there a b id g lt = let e = ap length g.1 in omega (arith, length-append a g.0)

pub last_there : (old new : List Node) (n : Node) (id : NodeId) → new ≡ old ++ n ∷ [] → id.0 ≡ length old → id.0 < length new
last_there old new n id e at = let k = ap length e in omega (arith, length-append old (n ∷ []))

-- ---- procedures

pub procedures_stay : (old new : List Node) (ps : List Proc) → Grows old new → AreThere old ps → map (procedure_of new) ps ≡ map (procedure_of old) ps
procedures_stay old new [] g h = refl
procedures_stay old new (p ∷ ps) g h =
    let same : procedure_of new p ≡ procedure_of old p = ap (λ (b : Block). let q : Procedure = record { name = p.name; params = p.params; sessions = p.sessions; body = b } in q) (block_stays old new p.body g h.0) in
    (λ i. same i ∷ procedures_stay old new ps g h.1 i)

pub all_there : (old new : List Node) (ps : List Proc) → Grows old new → AreThere old ps → AreThere new ps
all_there old new [] g h = h
all_there old new (p ∷ ps) g h = (still_there old new p.body g h.0, all_there old new ps g h.1)

pub last_is_there : (nodes : List Node) (ps : List Proc) (p : Proc) → AreThere nodes ps → p.body.0 < length nodes → AreThere nodes (ps ++ p ∷ [])
last_is_there nodes [] p h lt = (lt, tt)
last_is_there nodes (q ∷ ps) p h lt = (h.0, last_is_there nodes ps p h.1 lt)

pub none_there : (nodes : List Node) (ps : List Proc) → ps ≡ [] → AreThere nodes ps
none_there nodes ps e = subst (λ (l : List Proc). AreThere nodes l) (sym e) tt
