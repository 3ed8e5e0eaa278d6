-- The host functions that bodies ask, by their nodes and by their trees.
use Rattle.std.proofs.Common.{◌≡◌, ℕ, Bool, true, List, [], ◌∷◌, map, refl, sym, ap, ◌∙◌, subst, Some}
use Rattle.std.specs.Prelude.{All, Contains, slice_get, slice_index_or}
use Rattle.std.specs.List.{AllByRecursion}
use Rattle.std.proofs.lemmas.List.Elements.{All-nil, All-cons, All-contains, All-from_recursion}
use Rattle.node_table.proofs.Tables.{trees_all}
use Rattle.chor_base.specs.declared.names.NameId.{NameId}
use Rattle.endpoint_code.specs.declared.code.CodeId.{CodeId}
use Rattle.endpoint_code.specs.declared.code.CodeNode.{CodeNode}
use Rattle.endpoint_code.specs.declared.code.CodeNode.TheVariants.{Join, Send, Recv, Pick, Branch, Throw, Catch, Set, Show, Host, If, Call, End}
use Rattle.endpoint_code.specs.declared.endpoints.Endpoints.{Endpoints}
use Rattle.endpoint_code.specs.Asked.{AsksTree, AsksArms}
use Rattle.endpoint_code.specs.Code.{children_of}
use Rattle.endpoint_code.specs.Faults.{asks_known, AsksKnown, TableAsksKnown}
use Rattle.endpoint_code.specs.InBodies.{IsInBody, of_procedure, of_service, of_process, after_node}
use Rattle.endpoint_code.specs.Network.{node_at}
use Rattle.endpoint_code.specs.Trees.{CodeTree, Ends, Arms, arms_in, tree_in, node_tree, trees_of, code_at}
use Rattle.endpoint_code.proofs.CodeTables.{code_at-node}

-- ---- from the nodes of a table to its trees

module _ (known : NameId → Bool) where
  abbrev AllAsk : List CodeTree → Type 0
  AllAsk ts = (i : ℕ) → AsksTree known (slice_index_or ts i Ends)

  arms_ask : (ts : List CodeTree) → AllAsk ts → (arms : List (NameId × CodeId)) → AsksArms known (arms_in ts arms)
  arms_ask ts s [] = tt
  arms_ask ts s (arm ∷ arms) = (s arm.1.0, arms_ask ts s arms)

  node_asks : (ts : List CodeTree) → AllAsk ts → (n : CodeNode) → asks_known known n ≡ true → AsksTree known (node_tree ts n)
  node_asks ts s (Join c r k next) h = (tt, s next.0)
  node_asks ts s (Send k b x next) h = (tt, s next.0)
  node_asks ts s (Recv k a x next) h = (tt, s next.0)
  node_asks ts s (Pick k b l next) h = (tt, s next.0)
  node_asks ts s (Branch k a arms) h = arms_ask ts s arms
  node_asks ts s (Throw k b g next) h = (tt, s next.0)
  node_asks ts s (Catch k a g next) h = (tt, s next.0)
  node_asks ts s (Set x v next) h = (tt, s next.0)
  node_asks ts s (Show v next) h = (tt, s next.0)
  node_asks ts s (Host x f v u next) h = (h, s next.0)
  node_asks ts s (If v first second) h = (s first.0, s second.0)
  node_asks ts s (Call f p ss) h = tt
  node_asks ts s End h = tt

  all_ask : (nodes : List CodeNode) → All (λ n. asks_known known n ≡ true) nodes → AllAsk (trees_of nodes)
  all_ask nodes h = trees_all node_tree Ends (λ n. asks_known known n ≡ true) (AsksTree known) tt node_asks nodes h

  -- ---- and back

  node_known : (ts : List CodeTree) (n : CodeNode) → AsksTree known (node_tree ts n) → asks_known known n ≡ true
  node_known ts (Join c r k next) h = refl
  node_known ts (Send k b x next) h = refl
  node_known ts (Recv k a x next) h = refl
  node_known ts (Pick k b l next) h = refl
  node_known ts (Branch k a arms) h = refl
  node_known ts (Throw k b g next) h = refl
  node_known ts (Catch k a g next) h = refl
  node_known ts (Set x v next) h = refl
  node_known ts (Show v next) h = refl
  node_known ts (Host x f v u next) h = h.0
  node_known ts (If v first second) h = refl
  node_known ts (Call f p ss) h = refl
  node_known ts End h = refl

  abbrev Child : List CodeTree → CodeId → Type 0
  Child ts c = AsksTree known (tree_in ts c)

  one_child : (ts : List CodeTree) (c : CodeId) → AsksTree known (tree_in ts c) → All (Child ts) (c ∷ [])
  one_child ts c h = All-cons (Child ts) c [] h (All-nil (Child ts))

  arm_children : (ts : List CodeTree) (arms : List (NameId × CodeId)) → AsksArms known (arms_in ts arms) → All (Child ts) (map (λ arm. arm.1) arms)
  arm_children ts [] h = All-nil (Child ts)
  arm_children ts (arm ∷ arms) h = All-cons (Child ts) arm.1 (map (λ b. b.1) arms) h.0 (arm_children ts arms h.1)

  children_ask : (ts : List CodeTree) (n : CodeNode) → AsksTree known (node_tree ts n) → All (Child ts) (children_of n)
  children_ask ts (Join c r k next) h = one_child ts next h.1
  children_ask ts (Send k b x next) h = one_child ts next h.1
  children_ask ts (Recv k a x next) h = one_child ts next h.1
  children_ask ts (Pick k b l next) h = one_child ts next h.1
  children_ask ts (Branch k a arms) h = arm_children ts arms h
  children_ask ts (Throw k b g next) h = one_child ts next h.1
  children_ask ts (Catch k a g next) h = one_child ts next h.1
  children_ask ts (Set x v next) h = one_child ts next h.1
  children_ask ts (Show v next) h = one_child ts next h.1
  children_ask ts (Host x f v u next) h = one_child ts next h.1
  children_ask ts (If v first second) h = All-cons (Child ts) first (second ∷ []) h.0 (one_child ts second h.1)
  children_ask ts (Call f p ss) h = All-nil (Child ts)
  children_ask ts End h = All-nil (Child ts)

  -- ---- bodies

  pub tree_known : (e : Endpoints) (id : CodeId) (n : CodeNode) → node_at e id ≡ Some n → AsksTree known (code_at e.code.nodes id) → asks_known known n ≡ true
  tree_known e id n found asks = node_known (trees_of e.code.nodes) n (subst (AsksTree known) (code_at-node e.code.nodes id n e.code.closed found) asks)

  each_asks : {A : Type 0} (e : Endpoints) (body : A → CodeId) (xs : List A) (x : A) (id : CodeId) → AllByRecursion (λ y. AsksTree known (code_at e.code.nodes (body y))) xs → Contains xs x → body x ≡ id
      → AsksTree known (code_at e.code.nodes id)
  each_asks e body xs x id all among is =
      subst (λ (d : CodeId). AsksTree known (code_at e.code.nodes d)) is
      (All-contains (λ y. AsksTree known (code_at e.code.nodes (body y))) xs x (All-from_recursion (λ y. AsksTree known (code_at e.code.nodes (body y))) xs all) among)

  -- the code at each node of a body asks known functions alone
  pub body_asks : (e : Endpoints) → AsksKnown known e → {id : CodeId} → IsInBody e id → AsksTree known (code_at e.code.nodes id)
  body_asks e h {id} (of_procedure {q = q} among is) = each_asks e (λ q. q.body) e.procedures q id h.procedures among is
  body_asks e h {id} (of_service {s = s} among is) = each_asks e (λ s. s.body) e.services s id h.services among is
  body_asks e h {id} (of_process {p = p} among is) = each_asks e (λ p. p.body) e.processes p id h.processes among is
  body_asks e h {id} (after_node {id = first} {n = n} before found k) =
      All-contains (Child (trees_of e.code.nodes)) (children_of n) id (children_ask (trees_of e.code.nodes) n (subst (AsksTree known) (code_at-node e.code.nodes first n e.code.closed found) (body_asks e h before))) k

  -- so does each node
  pub known_in_body : (e : Endpoints) → AsksKnown known e → {id : CodeId} → IsInBody e id → (n : CodeNode) → node_at e id ≡ Some n → asks_known known n ≡ true
  known_in_body e h {id} inside n found = tree_known e id n found (body_asks e h inside)

  -- where the whole table asks no other function, no body does
  pub table_asks : (e : Endpoints) → TableAsksKnown known e → AsksKnown known e
  table_asks e h = record {
    procedures = each (λ q. q.body) e.procedures;
    services = each (λ s. s.body) e.services;
    processes = each (λ p. p.body) e.processes;
  }
    where
      each : {A : Type 0} (body : A → CodeId) (xs : List A) → AllByRecursion (λ x. AsksTree known (code_at e.code.nodes (body x))) xs
      each body [] = tt
      each body (x ∷ xs) = (all_ask e.code.nodes h (body x).0, each body xs)
