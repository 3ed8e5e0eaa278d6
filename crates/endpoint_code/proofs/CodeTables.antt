-- The code at a node is made of the codes of those that follow it.
use Rattle.std.proofs.Common.{◌≡◌, ℕ, ◌<◌, List, [], ◌∷◌, ◌++◌, length, refl, Some}
use Rattle.std.specs.Prelude.{slice_get, slice_index_or, All, map}
use Rattle.std.proofs.lemmas.List.Elements.{All-head, All-tail}
use Rattle.node_table.proofs.Tables.{trees_length, tree_stays, tree_pushed, tree_at_node}
use Rattle.chor_base.specs.declared.names.NameId.{NameId}
use Rattle.endpoint_code.specs.declared.code.CodeId.{CodeId}
use Rattle.endpoint_code.specs.declared.code.CodeNode.{CodeNode}
use Rattle.endpoint_code.specs.declared.code.CodeNode.TheVariants.{Join, Send, Recv, Pick, Branch, Throw, Catch, Set, Show, Host, If, Call, End}
use Rattle.endpoint_code.specs.Code.{children_of, IsClosed}
use Rattle.endpoint_code.specs.Trees.{CodeTree, Ends, arms_in, node_tree, trees_of, code_at}

-- all of these children come before i
abbrev pub Before : ℕ → List CodeId → Type 0
Before i cs = All (λ c. c.0 < i) cs

module _ (ts us : List CodeTree) (i : ℕ) (h : (j : ℕ) → j < i → slice_index_or us j Ends ≡ slice_index_or ts j Ends) where
  at_head : (c : CodeId) (cs : List CodeId) → Before i (c ∷ cs) → slice_index_or us c.0 Ends ≡ slice_index_or ts c.0 Ends
  at_head c cs a = h c.0 (All-head (λ d. d.0 < i) c cs a)

  pub arms_same : (arms : List (NameId × CodeId)) → Before i (map (λ arm. arm.1) arms) → arms_in us arms ≡ arms_in ts arms
  arms_same [] a = refl
  arms_same (arm ∷ arms) a =
      let here = at_head arm.1 (map (λ b. b.1) arms) a in
      let rest = arms_same arms (All-tail (λ d. d.0 < i) arm.1 (map (λ b. b.1) arms) a) in cc

  -- a node's code depends on the codes of those before it alone
  node_same : (n : CodeNode) → Before i (children_of n) → node_tree us n ≡ node_tree ts n
  node_same (Join c r k next) a = let e = at_head next [] a in cc
  node_same (Send k b e next) a = let f = at_head next [] a in cc
  node_same (Recv k b x next) a = let e = at_head next [] a in cc
  node_same (Pick k b l next) a = let e = at_head next [] a in cc
  node_same (Branch k b arms) a = let e = arms_same arms a in cc
  node_same (Throw k b g next) a = let e = at_head next [] a in cc
  node_same (Catch k b g next) a = let e = at_head next [] a in cc
  node_same (Set x e next) a = let f = at_head next [] a in cc
  node_same (Show e next) a = let f = at_head next [] a in cc
  node_same (Host x f l r next) a = let e = at_head next [] a in cc
  node_same (If e first second) a = let f = at_head first (second ∷ []) a in let g = at_head second [] (All-tail (λ d. d.0 < i) first (second ∷ []) a) in cc
  node_same (Call f p ss) a = refl
  node_same End a = refl

pub code_at-node : (nodes : List CodeNode) (id : CodeId) (n : CodeNode) → IsClosed nodes → slice_get nodes id.0 ≡ Some n → code_at nodes id ≡ node_tree (trees_of nodes) n
code_at-node nodes id n closed h = tree_at_node node_tree Ends (λ i m. Before i (children_of m)) node_same nodes id.0 n closed h

-- ---- a table with more nodes keeps what it has

pub length-trees_of : (ns : List CodeNode) → length (trees_of ns) ≡ length ns
length-trees_of ns = trees_length node_tree ns

pub code_at-kept : (old new more : List CodeNode) (id : CodeId) → new ≡ old ++ more → id.0 < length old → code_at new id ≡ code_at old id
code_at-kept old new more id e h = tree_stays node_tree Ends old new more id.0 e h

pub code_at-pushed : (old new : List CodeNode) (n : CodeNode) (id : CodeId) → new ≡ old ++ n ∷ [] → id.0 ≡ length old → code_at new id ≡ node_tree (trees_of old) n
code_at-pushed old new n id e i = tree_pushed node_tree Ends old new n id.0 e i
