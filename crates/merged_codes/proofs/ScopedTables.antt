-- The tree at a number of a table uses its session names well exactly where the code there does.
use Rattle.std.proofs.Common.{◌≡◌, ℕ, zero, suc, ◌<◌, List, [], ◌∷◌, length, refl, sym, ap, ◌∙◌, Some, ◌==◌, ◌||◌, subst, arith}
use Rattle.std.specs.Prelude.{slice_get, All, map}
use Rattle.std.proofs.lemmas.List.Elements.{All-head, All-tail}
use Rattle.chor_base.specs.declared.names.NameId.{NameId}
use Rattle.endpoint_code.specs.declared.code.CodeId.{CodeId}
use Rattle.endpoint_code.specs.declared.code.CodeNode.{CodeNode}
use Rattle.endpoint_code.specs.declared.code.CodeNode.TheVariants.{Join, Send, Recv, Pick, Branch, Throw, Catch, Set, Show, Host, If, Call, End}
use Rattle.endpoint_code.specs.declared.endpoints.Endpoints.{Endpoints}
use Rattle.endpoint_code.specs.Code.{children_of}
use Rattle.endpoint_code.specs.Faults.{is_among, AreDistinct, no_name, one_more, IsScoped, joins, sends, receives, picks, offers, gives, gains, sets, shows, asks, tests, calls, ends, AllScoped, no_arm, one_arm}
use Rattle.endpoint_code.specs.Labels.{has_label, HasDistinctLabels, AreDistinctArms}
use Rattle.endpoint_code.specs.Network.{node_at}
use Rattle.endpoint_code.specs.Trees.{CodeTree, arms_in, node_tree, trees_of, code_at}
use Rattle.endpoint_code.proofs.CodeTables.{code_at-node}
use Rattle.merged_codes.specs.Scoped.{IsScopedTree, AreScopedArms, IsScopedCode}

-- a node stands at each place of a table
record Stands (nodes : List CodeNode) (i : ℕ) : Type 0 where
  node : CodeNode
  is : slice_get nodes i ≡ Some node

stands : (nodes : List CodeNode) (i : ℕ) → i < length nodes → Stands nodes i
stands [] i l = absurd (omega (arith, l))
stands (n ∷ ns) zero l = record { node = n; is = refl }
stands (n ∷ ns) (suc i) l = let w = stands ns i (omega (arith, l)) in record { node = w.node; is = w.is }

-- the labels of arms are those of their trees
label_same : (ts : List CodeTree) (l : NameId) (arms : List (NameId × CodeId)) → is_among l (map (λ arm. arm.0) arms) ≡ has_label l (arms_in ts arms)
label_same ts l [] = refl
label_same ts l (arm ∷ arms) = ap (λ b. (l.0 == arm.0.0) || b) (label_same ts l arms)

labels_apart : (ts : List CodeTree) (arms : List (NameId × CodeId)) → AreDistinctArms (arms_in ts arms) → AreDistinct (map (λ arm. arm.0) arms)
labels_apart ts [] d = no_name
labels_apart ts (arm ∷ arms) d = one_more (label_same ts arm.0 arms ∙ d.0) (labels_apart ts arms d.2)

module _ (e : Endpoints) where
  abbrev ts : List CodeTree
  ts = trees_of e.code.nodes

  -- so it is with what follows the node at i
  abbrev Goes : ℕ → Type 0
  Goes i = (c : CodeId) (bs : List NameId) → c.0 < i → HasDistinctLabels (code_at e.code.nodes c) → IsScopedTree e (code_at e.code.nodes c) bs → IsScoped e c bs

  first_low : (i : ℕ) (c : CodeId) (cs : List CodeId) → All (λ d. d.0 < i) (c ∷ cs) → c.0 < i
  first_low i c cs a = All-head (λ d. d.0 < i) c cs a

  arms_scoped : (i : ℕ) (bs : List NameId) → Goes i → (arms : List (NameId × CodeId)) → All (λ c. c.0 < i) (map (λ arm. arm.1) arms) → AreDistinctArms (arms_in ts arms) → AreScopedArms e (arms_in ts arms) bs → AllScoped e arms bs
  arms_scoped i bs go [] low d s = no_arm
  arms_scoped i bs go (arm ∷ arms) low d s =
      one_arm (go arm.1 bs (first_low i arm.1 (map (λ b. b.1) arms) low) d.1 s.0) (arms_scoped i bs go arms (All-tail (λ c. c.0 < i) arm.1 (map (λ b. b.1) arms) low) d.2 s.1)

  at_node : (id : CodeId) (bs : List NameId) (n : CodeNode) → node_at e id ≡ Some n → Goes id.0 → All (λ c. c.0 < id.0) (children_of n) → HasDistinctLabels (node_tree ts n) → IsScopedTree e (node_tree ts n) bs → IsScoped e id bs
  at_node id bs (Join c r k next) is go low d s = joins is s.0.0 s.0.1 (go next (k ∷ bs) (first_low id.0 next [] low) d s.1)
  at_node id bs (Send k b x next) is go low d s = sends is s.0 (go next bs (first_low id.0 next [] low) d s.1)
  at_node id bs (Recv k a x next) is go low d s = receives is s.0 (go next bs (first_low id.0 next [] low) d s.1)
  at_node id bs (Pick k b l next) is go low d s = picks is s.0 (go next bs (first_low id.0 next [] low) d s.1)
  at_node id bs (Branch k a arms) is go low d s = offers is s.0 (labels_apart ts arms d) (arms_scoped id.0 bs go arms low d s.1)
  at_node id bs (Throw k b h next) is go low d s = gives is s.0.0 s.0.1 (go next _ (first_low id.0 next [] low) d s.1)
  at_node id bs (Catch k a h next) is go low d s = gains is s.0.0 s.0.1 (go next (h ∷ bs) (first_low id.0 next [] low) d s.1)
  at_node id bs (Set x v next) is go low d s = sets is (go next bs (first_low id.0 next [] low) d s.1)
  at_node id bs (Show v next) is go low d s = shows is (go next bs (first_low id.0 next [] low) d s.1)
  at_node id bs (Host x f v w next) is go low d s = asks is (go next bs (first_low id.0 next [] low) d s.1)
  at_node id bs (If v first second) is go low d s =
      tests is (go first bs (first_low id.0 first (second ∷ []) low) d.0 s.0) (go second bs (first_low id.0 second [] (All-tail (λ c. c.0 < id.0) first (second ∷ []) low)) d.1 s.1)
  at_node id bs (Call f p ss) is go low d s = calls is s.found s.count s.bound s.apart
  at_node id bs End is go low d s = ends is

  below : (fuel : ℕ) (id : CodeId) (bs : List NameId) → id.0 < fuel → id.0 < length e.code.nodes → HasDistinctLabels (code_at e.code.nodes id) → IsScopedTree e (code_at e.code.nodes id) bs → IsScoped e id bs
  below zero id bs l there d s = absurd (omega (arith, l))
  below (suc fuel) id bs l there d s =
      let w = stands e.code.nodes id.0 there in
      let is = code_at-node e.code.nodes id w.node e.code.closed w.is in
      at_node id bs w.node w.is (λ c cs low d s. below fuel c cs (omega (arith, l, low)) (omega (arith, low, there)) d s) (e.code.closed id.0 w.node w.is)
      (subst HasDistinctLabels is d) (subst (λ t. IsScopedTree e t bs) is s)

  -- Where the tree at a number uses its session names well, the code there does
  pub tree_tells : (id : CodeId) (bs : List NameId) → id.0 < length e.code.nodes → IsScopedCode e bs (code_at e.code.nodes id) → IsScoped e id bs
  tree_tells id bs there c = below (suc id.0) id bs (omega arith) there c.distinct c.scoped

  -- ---- and back

  put : (bs : List NameId) (id : CodeId) (c : CodeTree) → code_at e.code.nodes id ≡ c → IsScopedTree e c bs → IsScopedTree e (code_at e.code.nodes id) bs
  put bs id c is h = subst (λ t. IsScopedTree e t bs) (sym is) h

  mutual
    pub tree_scoped : {id : CodeId} {bs : List NameId} → IsScoped e id bs → IsScopedTree e (code_at e.code.nodes id) bs
    tree_scoped {id} {bs} (joins h a f d) = put bs id _ (code_at-node e.code.nodes id _ e.code.closed h) ((a, f), tree_scoped d)
    tree_scoped {id} {bs} (sends h a d) = put bs id _ (code_at-node e.code.nodes id _ e.code.closed h) (a, tree_scoped d)
    tree_scoped {id} {bs} (receives h a d) = put bs id _ (code_at-node e.code.nodes id _ e.code.closed h) (a, tree_scoped d)
    tree_scoped {id} {bs} (picks h a d) = put bs id _ (code_at-node e.code.nodes id _ e.code.closed h) (a, tree_scoped d)
    tree_scoped {id} {bs} (offers h a u d) = put bs id _ (code_at-node e.code.nodes id _ e.code.closed h) (a, trees_scoped d)
    tree_scoped {id} {bs} (gives h a f d) = put bs id _ (code_at-node e.code.nodes id _ e.code.closed h) ((a, f), tree_scoped d)
    tree_scoped {id} {bs} (gains h a f d) = put bs id _ (code_at-node e.code.nodes id _ e.code.closed h) ((a, f), tree_scoped d)
    tree_scoped {id} {bs} (sets h d) = put bs id _ (code_at-node e.code.nodes id _ e.code.closed h) (tt, tree_scoped d)
    tree_scoped {id} {bs} (shows h d) = put bs id _ (code_at-node e.code.nodes id _ e.code.closed h) (tt, tree_scoped d)
    tree_scoped {id} {bs} (asks h d) = put bs id _ (code_at-node e.code.nodes id _ e.code.closed h) (tt, tree_scoped d)
    tree_scoped {id} {bs} (tests h c d) = put bs id _ (code_at-node e.code.nodes id _ e.code.closed h) (tree_scoped c, tree_scoped d)
    tree_scoped {id} {bs} (calls {q = q} h f n b u) = put bs id _ (code_at-node e.code.nodes id _ e.code.closed h) (record { unit = q; found = f; count = n; bound = b; apart = u })
    tree_scoped {id} {bs} (ends h) = put bs id _ (code_at-node e.code.nodes id _ e.code.closed h) tt

    trees_scoped : {arms : List (NameId × CodeId)} {bs : List NameId} → AllScoped e arms bs → AreScopedArms e (arms_in ts arms) bs
    trees_scoped no_arm = tt
    trees_scoped (one_arm d ds) = (tree_scoped d, trees_scoped ds)
