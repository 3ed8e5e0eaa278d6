-- The nodes at which codes that are the same stand.
use Rattle.std.proofs.Common.{◌≡◌, ℕ, ◌<◌, Bool, true, false, ◌==◌, List, [], ◌∷◌, length, map, refl, subst, Option, Some, None, arith, if◌then◌else◌}
use Rattle.std.specs.Prelude.{All, slice_index_or}
use Rattle.std.specs.List.{AllZip}
use Rattle.std.proofs.lemmas.List.Elements.{All-head, All-tail}
use Rattle.std.proofs.lemmas.Option.{slice_get-get_or}
use Rattle.chor_base.specs.declared.names.NameId.{NameId}
use Rattle.chor_base.specs.declared.expr.Expr.{Expr}
use Rattle.chor_base.specs.Expr.{term_of}
use Rattle.endpoint_code.specs.declared.code.CodeId.{CodeId}
use Rattle.endpoint_code.specs.declared.code.CodeNode.{CodeNode}
use Rattle.endpoint_code.specs.declared.code.CodeNode.TheVariants.{Join, Send, Recv, Pick, Branch, Throw, Catch, Set, Show, Host, If, Call, End}
use Rattle.endpoint_code.specs.declared.endpoints.Endpoints.{Endpoints}
use Rattle.endpoint_code.specs.Code.{children_of}
use Rattle.endpoint_code.specs.Labels.{HasDistinctLabels}
use Rattle.endpoint_code.specs.Network.{arm_at, node_at}
use Rattle.endpoint_code.specs.Trees.{Joins, Sends, Receives, Selects, Gives, Gains, Sets, Shows, Asks, CodeTree, Does, Offers, Tests, Calls, Ends, arms_in, tree_in, node_tree, trees_of, code_at}
use Rattle.endpoint_code.proofs.CodeTables.{code_at-node}
use Rattle.same_programs.specs.Words.{SameName, SameText, BothOrNeither}
use Rattle.same_programs.specs.Codes as same
use Rattle.same_programs.specs.Codes.{SameTerm, SameCode}
use Rattle.same_programs.specs.Programs.{SameCodeAt}
use Rattle.same_programs.proofs.Tests.{TellsNames}
use Rattle.same_programs.proofs.Zips.{both_map}
use Rattle.same_programs.proofs.Branches.{SameOnce, arms_same, code_for, tree_at, arm_in_table}

-- the same node, where what follows is related by K
pub data SameNode (N : NameId → NameId → Type 0) (T : ℕ → ℕ → Type 0) (K : CodeId → CodeId → Type 0) : CodeNode → CodeNode → Type 0 where
  join : {c d r q k h : NameId} {i j : CodeId} → N c d → N r q → N k h → K i j → SameNode N T K (Join c r k i) (Join d q h j)
  send : {k h b c : NameId} {x y : Expr} {i j : CodeId} → N k h → N b c → SameTerm N T (term_of x) (term_of y) → K i j → SameNode N T K (Send k b x i) (Send h c y j)
  recv : {k h a b x y : NameId} {i j : CodeId} → N k h → N a b → N x y → K i j → SameNode N T K (Recv k a x i) (Recv h b y j)
  pick : {k h b c l m : NameId} {i j : CodeId} → N k h → N b c → N l m → K i j → SameNode N T K (Pick k b l i) (Pick h c m j)
  branch : {k h a b : NameId} {qs ps : List (NameId × CodeId)} → N k h → N a b → ((l m : NameId) → N l m → BothOrNeither K (arm_at qs l) (arm_at ps m))
      → SameNode N T K (Branch k a qs) (Branch h b ps)
  throw : {k h b c g f : NameId} {i j : CodeId} → N k h → N b c → N g f → K i j → SameNode N T K (Throw k b g i) (Throw h c f j)
  catch : {k h a b g f : NameId} {i j : CodeId} → N k h → N a b → N g f → K i j → SameNode N T K (Catch k a g i) (Catch h b f j)
  set : {x y : NameId} {v w : Expr} {i j : CodeId} → N x y → SameTerm N T (term_of v) (term_of w) → K i j → SameNode N T K (Set x v i) (Set y w j)
  show : {v w : Expr} {i j : CodeId} → SameTerm N T (term_of v) (term_of w) → K i j → SameNode N T K (Show v i) (Show w j)
  host : {x y f g : NameId} {t u v w : Expr} {i j : CodeId} → N x y → N f g → SameTerm N T (term_of t) (term_of u) → SameTerm N T (term_of v) (term_of w) → K i j
      → SameNode N T K (Host x f t v i) (Host y g u w j)
  fork : {v w : Expr} {i i' j j' : CodeId} → SameTerm N T (term_of v) (term_of w) → K i j → K i' j' → SameNode N T K (If v i i') (If w j j')
  call : {f g p q : NameId} {ss rs : List NameId} → N f g → N p q → AllZip N ss rs → SameNode N T K (Call f p ss) (Call g q rs)
  stop : SameNode N T K End End

-- a node and its tree
data IsTreeOf (ts : List CodeTree) : CodeNode → CodeTree → Type 0 where
  joins : {c r k : NameId} {i : CodeId} → IsTreeOf ts (Join c r k i) (Does (Joins c r k) (tree_in ts i))
  sends : {k b : NameId} {x : Expr} {i : CodeId} → IsTreeOf ts (Send k b x i) (Does (Sends k b (term_of x)) (tree_in ts i))
  recvs : {k a x : NameId} {i : CodeId} → IsTreeOf ts (Recv k a x i) (Does (Receives k a x) (tree_in ts i))
  picks : {k b l : NameId} {i : CodeId} → IsTreeOf ts (Pick k b l i) (Does (Selects k b l) (tree_in ts i))
  branches : {k a : NameId} {arms : List (NameId × CodeId)} → IsTreeOf ts (Branch k a arms) (Offers k a (arms_in ts arms))
  throws : {k b h : NameId} {i : CodeId} → IsTreeOf ts (Throw k b h i) (Does (Gives k b h) (tree_in ts i))
  catches : {k a h : NameId} {i : CodeId} → IsTreeOf ts (Catch k a h i) (Does (Gains k a h) (tree_in ts i))
  sets : {x : NameId} {v : Expr} {i : CodeId} → IsTreeOf ts (Set x v i) (Does (Sets x (term_of v)) (tree_in ts i))
  shows : {v : Expr} {i : CodeId} → IsTreeOf ts (Show v i) (Does (Shows (term_of v)) (tree_in ts i))
  hosts : {x f : NameId} {v w : Expr} {i : CodeId} → IsTreeOf ts (Host x f v w i) (Does (Asks x f (term_of v) (term_of w)) (tree_in ts i))
  forks : {v : Expr} {i j : CodeId} → IsTreeOf ts (If v i j) (Tests (term_of v) (tree_in ts i) (tree_in ts j))
  calls : {f p : NameId} {ss : List NameId} → IsTreeOf ts (Call f p ss) (Calls f p ss)
  stops : IsTreeOf ts End Ends

tree_of : (ts : List CodeTree) (n : CodeNode) → IsTreeOf ts n (node_tree ts n)
tree_of ts (Join c r k i) = joins
tree_of ts (Send k b x i) = sends
tree_of ts (Recv k a x i) = recvs
tree_of ts (Pick k b l i) = picks
tree_of ts (Branch k a arms) = branches
tree_of ts (Throw k b h i) = throws
tree_of ts (Catch k a h i) = catches
tree_of ts (Set x v i) = sets
tree_of ts (Show v i) = shows
tree_of ts (Host x f v w i) = hosts
tree_of ts (If v i j) = forks
tree_of ts (Call f p ss) = calls
tree_of ts End = stops

-- the children come before i
abbrev Before : ℕ → List CodeId → Type 0
Before i cs = All (λ c. c.0 < i) cs

one_before : (i : ℕ) (c : CodeId) (cs : List CodeId) → Before i (c ∷ cs) → c.0 < i
one_before i c cs h = All-head (λ d. d.0 < i) c cs h

others_before : (i : ℕ) (c : CodeId) (cs : List CodeId) → Before i (c ∷ cs) → Before i cs
others_before i c cs h = All-tail (λ d. d.0 < i) c cs h

arm_before : (i : ℕ) (arms : List (NameId × CodeId)) → Before i (map (λ arm. arm.1) arms) → (l : NameId) (c : CodeId) → arm_at arms l ≡ Some c → c.0 < i
arm_before i [] b l c h = absurd cc
arm_before i (arm ∷ arms) b l c h = go (arm.0.0 == l.0) h (λ k. arm_before i arms (others_before i arm.1 (map (λ a. a.1) arms) b) l c k)
  where
    go : (t : Bool) → (if t then Some arm.1 else arm_at arms l) ≡ Some c → (arm_at arms l ≡ Some c → c.0 < i) → c.0 < i
    go true k more = let e : arm.1 ≡ c = cc in subst (λ (d : CodeId). d.0 < i) e (one_before i arm.1 (map (λ a. a.1) arms) b)
    go false k more = more k

module _ (N : NameId → NameId → Type 0) (T : ℕ → ℕ → Type 0) (tell : TellsNames N) (ts us : List CodeTree) (i j : ℕ) where
  -- nodes before these, with the same code
  pub record IsNext (c d : CodeId) : Type 0 where
    pub here : c.0 < i
    pub there : d.0 < j
    pub code : SameCode N T (tree_in ts c) (tree_in us d)
    pub distinct : HasDistinctLabels (tree_in ts c)

  next : (c d : CodeId) (cs ds : List CodeId) → Before i (c ∷ cs) → Before j (d ∷ ds) → SameCode N T (tree_in ts c) (tree_in us d) → HasDistinctLabels (tree_in ts c) → IsNext c d
  next c d cs ds b b' s u = record { here = one_before i c cs b; there = one_before j d ds b'; code = s; distinct = u }

  arms_next : (qs ps : List (NameId × CodeId)) → Before i (map (λ arm. arm.1) qs) → Before j (map (λ arm. arm.1) ps) → (l m : NameId)
      → BothOrNeither (SameOnce N T tell) (code_for (arms_in ts qs) l) (code_for (arms_in us ps) m) → BothOrNeither IsNext (arm_at qs l) (arm_at ps m)
  arms_next qs ps b b' l m h =
      go (arm_at qs l) refl (arm_at ps m) refl
      (subst (λ (o : Option CodeTree). BothOrNeither (SameOnce N T tell) o (tree_at us (arm_at ps m))) (arm_in_table ts qs l)
      (subst (λ (o : Option CodeTree). BothOrNeither (SameOnce N T tell) (code_for (arms_in ts qs) l) o) (arm_in_table us ps m) h))
    where
      go : (o : Option CodeId) → arm_at qs l ≡ o → (u : Option CodeId) → arm_at ps m ≡ u → BothOrNeither (SameOnce N T tell) (tree_at ts o) (tree_at us u) → BothOrNeither IsNext o u
      go None e None f k = tt
      go None e (Some d) f k = absurd k
      go (Some c) e None f k = absurd k
      go (Some c) e (Some d) f k = record { here = arm_before i qs b l c e; there = arm_before j ps b' m d f; code = k.code; distinct = k.distinct }

  nodes_same : {n m : CodeNode} {q p : CodeTree} → SameCode N T q p → IsTreeOf ts n q → IsTreeOf us m p → HasDistinctLabels q → Before i (children_of n) → Before j (children_of m)
      → SameNode N T IsNext n m
  nodes_same (same.does (same.joins c r k) s) joins joins u b b' = join c r k (next _ _ [] [] b b' s u)
  nodes_same (same.does (same.sends k c t) s) sends sends u b b' = send k c t (next _ _ [] [] b b' s u)
  nodes_same (same.does (same.receives k a x) s) recvs recvs u b b' = recv k a x (next _ _ [] [] b b' s u)
  nodes_same (same.does (same.selects k c l) s) picks picks u b b' = pick k c l (next _ _ [] [] b b' s u)
  nodes_same (same.does (same.gives k c g) s) throws throws u b b' = throw k c g (next _ _ [] [] b b' s u)
  nodes_same (same.does (same.gains k a g) s) catches catches u b b' = catch k a g (next _ _ [] [] b b' s u)
  nodes_same (same.does (same.sets x t) s) sets sets u b b' = set x t (next _ _ [] [] b b' s u)
  nodes_same (same.does (same.shows t) s) shows shows u b b' = show t (next _ _ [] [] b b' s u)
  nodes_same (same.does (same.asks x f t v) s) hosts hosts u b b' = host x f t v (next _ _ [] [] b b' s u)
  nodes_same (same.offers k a arms) (branches {arms = qs}) (branches {arms = ps}) u b b' = branch k a (λ l m n. arms_next qs ps b b' l m (arms_same N T tell arms u l m n))
  nodes_same (same.tests t s s') (forks {i = c} {j = c'}) (forks {i = d} {j = d'}) u b b' =
      fork t (next c d (c' ∷ []) (d' ∷ []) b b' s u.0) (next c' d' [] [] (others_before i c (c' ∷ []) b) (others_before j d (d' ∷ []) b') s' u.1)
  nodes_same (same.calls f p ss) calls calls u b b' = call f p ss
  nodes_same same.ends stops stops u b b' = stop

-- ---- in the tables of two programs

-- both numbers are in their tables, and the codes there are the same, with no label twice in a branch
pub record IsSpot (e e' : Endpoints) (c d : CodeId) : Type 0 where
  pub inside : c.0 < length e.code.nodes
  pub copied_inside : d.0 < length e'.code.nodes
  pub code : SameCodeAt e e' c d
  pub distinct : HasDistinctLabels (code_at e.code.nodes c)

abbrev pub Alike : Endpoints → Endpoints → CodeNode → CodeNode → Type 0
Alike e e' n m = SameNode (SameName e e') (SameText e e') (IsSpot e e') n m

-- the nodes there
pub record AreThere (e e' : Endpoints) (c d : CodeId) : Type 0 where
  pub node : CodeNode
  pub copied : CodeNode
  pub here : node_at e c ≡ Some node
  pub there : node_at e' d ≡ Some copied
  pub same : Alike e e' node copied

module _ {N : NameId → NameId → Type 0} {T : ℕ → ℕ → Type 0} {K L : CodeId → CodeId → Type 0} (f : (c d : CodeId) → K c d → L c d) where
  wider : {n m : CodeNode} → SameNode N T K n m → SameNode N T L n m
  wider (join c r k s) = join c r k (f _ _ s)
  wider (send k b x s) = send k b x (f _ _ s)
  wider (recv k a x s) = recv k a x (f _ _ s)
  wider (pick k b l s) = pick k b l (f _ _ s)
  wider (branch k a s) = branch k a (λ l m n. both_map K L f _ _ (s l m n))
  wider (throw k b g s) = throw k b g (f _ _ s)
  wider (catch k a g s) = catch k a g (f _ _ s)
  wider (set x v s) = set x v (f _ _ s)
  wider (show v s) = show v (f _ _ s)
  wider (host x g t v s) = host x g t v (f _ _ s)
  wider (fork v s r) = fork v (f _ _ s) (f _ _ r)
  wider (call g p ss) = call g p ss
  wider stop = stop

pub nodes_there : (e e' : Endpoints) → TellsNames (SameName e e') → (c d : CodeId) → IsSpot e e' c d → AreThere e e' c d
nodes_there e e' tell c d s =
    let n : CodeNode = slice_index_or e.code.nodes c.0 End in
    let m : CodeNode = slice_index_or e'.code.nodes d.0 End in
    let h : node_at e c ≡ Some n = slice_get-get_or e.code.nodes c.0 End s.inside in
    let k : node_at e' d ≡ Some m = slice_get-get_or e'.code.nodes d.0 End s.copied_inside in
    found n m h k
  where
    found : (n m : CodeNode) → node_at e c ≡ Some n → node_at e' d ≡ Some m → AreThere e e' c d
    found n m h k =
        let is = code_at-node e.code.nodes c n e.code.closed h in
        let are = code_at-node e'.code.nodes d m e'.code.closed k in
        let trees : SameCode (SameName e e') (SameText e e') (node_tree (trees_of e.code.nodes) n) (node_tree (trees_of e'.code.nodes) m) =
        subst (λ (t : CodeTree). SameCode (SameName e e') (SameText e e') t (node_tree (trees_of e'.code.nodes) m)) is
        (subst (λ (t : CodeTree). SameCode (SameName e e') (SameText e e') (code_at e.code.nodes c) t) are s.code) in
        let distinct : HasDistinctLabels (node_tree (trees_of e.code.nodes) n) = subst (λ (t : CodeTree). HasDistinctLabels t) is s.distinct in
        record {
          node = n;
          copied = m;
          here = h;
          there = k;
          same = wider (λ a b x. record { inside = omega (arith, x.here, s.inside); copied_inside = omega (arith, x.there, s.copied_inside); code = x.code; distinct = x.distinct })
              (nodes_same (SameName e e') (SameText e e') tell (trees_of e.code.nodes) (trees_of e'.code.nodes) c.0 d.0 trees
              (tree_of (trees_of e.code.nodes) n) (tree_of (trees_of e'.code.nodes) m) distinct (e.code.closed c.0 n h) (e'.code.closed d.0 m k));
        }
