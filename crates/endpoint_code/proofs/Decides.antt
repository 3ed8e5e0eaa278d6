-- What decides whether codes are above each other, form by form.
use Rattle.std.proofs.Common.{◌≡◌, ℕ, ◌+◌, ◌<◌, ◌≤◌, Bool, true, false, IsTrue, ◌↔◌, List, [], ◌∷◌, length, ◌==◌, subst, sym, ap, ◌∙◌, refl, arith, Some, None, ◌⊎◌, inl, inr, ◌++◌, zero, suc}
use Rattle.std.proofs.lemmas.Bool.Decides.{nat_tests}
use Rattle.std.specs.Prelude.{take, slice_index_or, All, map}
use Rattle.std.proofs.lemmas.List.{take_more}
use Rattle.std.proofs.lemmas.List.Elements.{All-nil, All-cons, All-head, All-tail}
use Rattle.chor_base.specs.declared.names.NameId.{NameId}
use Rattle.chor_base.specs.declared.expr.Expr.{Expr}
use Rattle.chor_base.specs.Expr.{Term, term_of}
use Rattle.endpoint_code.specs.declared.code.CodeId.{CodeId}
use Rattle.endpoint_code.specs.declared.code.CodeNode.{CodeNode}
use Rattle.endpoint_code.specs.declared.code.CodeNode.TheVariants.{Join, Send, Recv, Pick, Branch, Throw, Catch, Set, Show, Host, If, Call, End}
use Rattle.endpoint_code.specs.Trees.{Action, CodeTree, Does, Offers, Tests, Calls, Ends, Arms, NoArms, Arm, tree_in, arms_in, node_tree}
use Rattle.endpoint_code.specs.Code.{children_of}
use Rattle.endpoint_code.proofs.Sizes.{size, size_of_arms}
use Rattle.endpoint_code.specs.Heads.{Head, Acts, Branches, Decides, GoesTo, Stops, head_of, next_of}
use Rattle.endpoint_code.specs.Above.{IsAbove, does, offers, tests, calls, ends, AreAbove, no_arm, one_arm, HasAbove, first, later}

-- names by their numbers
pub name_same : {r : Bool} (k l : NameId) → r ≡ (k.0 == l.0) → r ≡ true → k ≡ l
name_same k l h t =
    let both : (k.0 == l.0) ≡ true = sym h ∙ t in
    let e : k.0 ≡ l.0 = grind (arith, nat_tests) in
    let f : ℕ → NameId = λ n. record { 0 = n } in ap f e

-- ---- nodes

-- the head of a code without its table
abbrev pub tree_head : CodeTree → Head
tree_head (Does a rest) = Acts a
tree_head (Offers k a arms) = Branches k a
tree_head (Tests e f g) = Decides e
tree_head (Calls f p ss) = GoesTo f p ss
tree_head Ends = Stops

pub node_head : (ts : List CodeTree) (n : CodeNode) → tree_head (node_tree ts n) ≡ head_of n
node_head ts (Join c r k next) = refl
node_head ts (Send k b e next) = refl
node_head ts (Recv k a x next) = refl
node_head ts (Pick k b l next) = refl
node_head ts (Branch k a arms) = refl
node_head ts (Throw k b h next) = refl
node_head ts (Catch k a h next) = refl
node_head ts (Set x e next) = refl
node_head ts (Show e next) = refl
node_head ts (Host x f a b next) = refl
node_head ts (If e f g) = refl
node_head ts (Call f p ss) = refl
node_head ts End = refl

pub above_head : {q p : CodeTree} → IsAbove q p → tree_head q ≡ tree_head p
above_head (does a) = refl
above_head (offers a) = refl
above_head (tests a b) = refl
above_head calls = refl
above_head ends = refl

-- codes with different heads aren't above each other
pub differs : (ts : List CodeTree) (n m : CodeNode) {x y : CodeTree} {r : Bool} → r ≡ false → x ≡ node_tree ts n → y ≡ node_tree ts m → (head_of n ≡ head_of m → ⊥) → IsTrue r ↔ IsAbove x y
differs ts n m {x = x} {y = y} i e f apart =
    ((λ t. absurd cc), (λ a. absurd (apart (sym (node_head ts n) ∙ sym (ap tree_head e) ∙ above_head a ∙ ap tree_head f ∙ node_head ts m))))

-- an action and what follows it
pub record Acting (ts : List CodeTree) (n : CodeNode) (q : CodeId) : Type 0 where
  pub action : Action
  pub head : head_of n ≡ Acts action
  pub tree : node_tree ts n ≡ Does action (tree_in ts q)

pub acting : (ts : List CodeTree) (n : CodeNode) (q : CodeId) → next_of n ≡ Some q → Acting ts n q
acting ts (Join c r k next) q h = record { action = _; head = refl; tree = cc }
acting ts (Send k b e next) q h = record { action = _; head = refl; tree = cc }
acting ts (Recv k a x next) q h = record { action = _; head = refl; tree = cc }
acting ts (Pick k b l next) q h = record { action = _; head = refl; tree = cc }
acting ts (Throw k b g next) q h = record { action = _; head = refl; tree = cc }
acting ts (Catch k a g next) q h = record { action = _; head = refl; tree = cc }
acting ts (Set x e next) q h = record { action = _; head = refl; tree = cc }
acting ts (Show e next) q h = record { action = _; head = refl; tree = cc }
acting ts (Host x f a b next) q h = record { action = _; head = refl; tree = cc }
acting ts (Branch k a arms) q h = absurd cc
acting ts (If e f g) q h = absurd cc
acting ts (Call f p ss) q h = absurd cc
acting ts End q h = absurd cc

module _ (ts : List CodeTree) (n m : CodeNode) (r : Bool) (same : head_of n ≡ head_of m) where
  abbrev IsDecided : Type 0
  IsDecided = IsTrue r ↔ IsAbove (node_tree ts n) (node_tree ts m)

  -- by a fact, where the two trees are these
  decided : {P : Type 0} {q p : CodeTree} → node_tree ts n ≡ q → node_tree ts m ≡ p → (P → IsAbove q p) → (IsAbove q p → P) → (IsTrue r ↔ P) → IsDecided
  decided {q = q} e f i j h =
      subst (λ (z : CodeTree). IsTrue r ↔ IsAbove z (node_tree ts m)) (sym e)
      (subst (λ (z : CodeTree). IsTrue r ↔ IsAbove q z) (sym f) ((λ t. i (h.0 t)), (λ a. h.1 (j a))))

  pub by_next : (q p : CodeId) → next_of n ≡ Some q → next_of m ≡ Some p → (IsTrue r ↔ IsAbove (tree_in ts q) (tree_in ts p)) → IsDecided
  by_next q p e f h =
      let a = acting ts n q e in
      let b = acting ts m p f in
      let heads : Acts a.action ≡ Acts b.action = sym a.head ∙ same ∙ b.head in
      let action : a.action ≡ b.action = cc in
      decided (a.tree ∙ ap (λ d. Does d (tree_in ts q)) action) b.tree does rest h
    where
      rest : {a b : Action} {q p : CodeTree} → IsAbove (Does a q) (Does b p) → IsAbove q p
      rest (does a) = a

  pub by_arms : {k a h b : NameId} (qs ps xs ys : List (NameId × CodeId)) → n ≡ Branch k a qs → m ≡ Branch h b ps → xs ≡ qs → ys ≡ ps
      → (IsTrue r ↔ AreAbove (arms_in ts xs) (arms_in ts ys)) → IsDecided
  by_arms {k = k} {a = a} {h = h} {b = b} qs ps xs ys e f i j g =
      let heads : Branches k a ≡ Branches h b = sym (ap head_of e) ∙ same ∙ ap head_of f in
      let up : node_tree ts n ≡ Offers h b (arms_in ts xs) = ap (node_tree ts) e ∙ cc in
      let low : node_tree ts m ≡ Offers h b (arms_in ts ys) = ap (node_tree ts) f ∙ cc in
      decided up low offers arms g
    where
      arms : {k a h b : NameId} {qs ps : Arms} → IsAbove (Offers k a qs) (Offers h b ps) → AreAbove qs ps
      arms (offers a) = a

  pub by_branches : {e f : Expr} (q q' p p' : CodeId) → n ≡ If e q q' → m ≡ If f p p' → IsAbove (tree_in ts q) (tree_in ts p) → (IsTrue r ↔ IsAbove (tree_in ts q') (tree_in ts p')) → IsDecided
  by_branches {e = e} {f = f} q q' p p' i j a h =
      let heads : Decides (term_of e) ≡ Decides (term_of f) = sym (ap head_of i) ∙ same ∙ ap head_of j in
      let up : node_tree ts n ≡ Tests (term_of f) (tree_in ts q) (tree_in ts q') = ap (node_tree ts) i ∙ cc in
      decided up (ap (node_tree ts) j) (tests a) second h
    where
      second : {e f : Term} {q q' p p' : CodeTree} → IsAbove (Tests e q q') (Tests f p p') → IsAbove q' p'
      second (tests a b) = b

pub calls_of : {f p : NameId} {ss : List NameId} (t : CodeTree) → tree_head t ≡ GoesTo f p ss → t ≡ Calls f p ss
calls_of (Does a rest) h = absurd cc
calls_of (Offers k a arms) h = absurd cc
calls_of (Tests e f g) h = absurd cc
calls_of (Calls f p ss) h = cc
calls_of Ends h = absurd cc

pub ends_of : (t : CodeTree) → tree_head t ≡ Stops → t ≡ Ends
ends_of (Does a rest) h = absurd cc
ends_of (Offers k a arms) h = absurd cc
ends_of (Tests e f g) h = absurd cc
ends_of (Calls f p ss) h = absurd cc
ends_of Ends h = refl

-- a node with a branch's head is a branch, and one with a conditional's a conditional
pub is_branch : (n m : CodeNode) {k a : NameId} {arms : List (NameId × CodeId)} → head_of n ≡ head_of m → n ≡ Branch k a arms → ((k a : NameId) (arms : List (NameId × CodeId)) → m ≡ Branch k a arms → ⊥) → ⊥
is_branch n m {k = k} {a = a} same e other = go m (sym same ∙ ap head_of e) other
  where
    go : (m : CodeNode) → head_of m ≡ Branches k a → ((k a : NameId) (arms : List (NameId × CodeId)) → m ≡ Branch k a arms → ⊥) → ⊥
    go (Branch k a arms) i no' = no' k a arms refl
    go (Join c r k next) i no' = cc
    go (Send k b e next) i no' = cc
    go (Recv k a x next) i no' = cc
    go (Pick k b l next) i no' = cc
    go (Throw k b h next) i no' = cc
    go (Catch k a h next) i no' = cc
    go (Set x e next) i no' = cc
    go (Show e next) i no' = cc
    go (Host x f a b next) i no' = cc
    go (If e f g) i no' = cc
    go (Call f p ss) i no' = cc
    go End i no' = cc

pub is_if : (n m : CodeNode) {e : Expr} {f g : CodeId} → head_of n ≡ head_of m → n ≡ If e f g → ((e : Expr) (f g : CodeId) → m ≡ If e f g → ⊥) → ⊥
is_if n m {e = x} same e other = go m (sym same ∙ ap head_of e) other
  where
    go : (m : CodeNode) → head_of m ≡ Decides (term_of x) → ((e : Expr) (f g : CodeId) → m ≡ If e f g → ⊥) → ⊥
    go (If e f g) i no' = no' e f g refl
    go (Branch k a arms) i no' = cc
    go (Join c r k next) i no' = cc
    go (Send k b e next) i no' = cc
    go (Recv k a x next) i no' = cc
    go (Pick k b l next) i no' = cc
    go (Throw k b h next) i no' = cc
    go (Catch k a h next) i no' = cc
    go (Set x e next) i no' = cc
    go (Show e next) i no' = cc
    go (Host x f a b next) i no' = cc
    go (Call f p ss) i no' = cc
    go End i no' = cc

-- nodes that nothing follows are above each other where their heads are the same
pub by_head : (ts : List CodeTree) (n m : CodeNode) → head_of n ≡ head_of m → next_of n ≡ None
    → ((k a : NameId) (arms : List (NameId × CodeId)) → n ≡ Branch k a arms → ⊥) → ((e : Expr) (f g : CodeId) → n ≡ If e f g → ⊥)
    → IsTrue true ↔ IsAbove (node_tree ts n) (node_tree ts m)
by_head ts n m same stops no_branch no_if = ((λ t. go n same stops no_branch no_if), (λ a. refl))
  where
    go : (n : CodeNode) → head_of n ≡ head_of m → next_of n ≡ None
        → ((k a : NameId) (arms : List (NameId × CodeId)) → n ≡ Branch k a arms → ⊥) → ((e : Expr) (f g : CodeId) → n ≡ If e f g → ⊥)
        → IsAbove (node_tree ts n) (node_tree ts m)
    go (Branch k a arms) i h b f = absurd (b k a arms refl)
    go (If x c d) i h b f = absurd (f x c d refl)
    go (Call g p ss) i h b f = subst (λ (z : CodeTree). IsAbove (Calls g p ss) z) (sym (calls_of (node_tree ts m) (node_head ts m ∙ sym i))) calls
    go End i h b f = subst (λ (z : CodeTree). IsAbove Ends z) (sym (ends_of (node_tree ts m) (node_head ts m ∙ sym i))) ends
    go (Join c r k next) i h b f = absurd cc
    go (Send k b' e next) i h b f = absurd cc
    go (Recv k a x next) i h b f = absurd cc
    go (Pick k b' l next) i h b f = absurd cc
    go (Throw k b' g next) i h b f = absurd cc
    go (Catch k a g next) i h b f = absurd cc
    go (Set x e next) i h b f = absurd cc
    go (Show e next) i h b f = absurd cc
    go (Host x g a b' next) i h b f = absurd cc

-- ---- what follows

pub inside : (n : ℕ) (arms : List (NameId × CodeId)) → All (λ c. c.0 < n) (map (λ arm. arm.1) arms) → All (λ arm. arm.1.0 < n) arms
inside n [] h = All-nil (λ arm. arm.1.0 < n)
inside n (arm ∷ arms) h =
    All-cons (λ b. b.1.0 < n) arm arms (All-head (λ c. c.0 < n) arm.1 (map (λ b. b.1) arms) h) (inside n arms (All-tail (λ c. c.0 < n) arm.1 (map (λ b. b.1) arms) h))

pub branch_inside : (l : ℕ) (n : CodeNode) {k a : NameId} {arms xs : List (NameId × CodeId)} → n ≡ Branch k a arms → xs ≡ arms → All (λ c. c.0 < l) (children_of n) → All (λ arm. arm.1.0 < l) xs
branch_inside l n {arms = arms} e f h =
    subst (λ (ys : List (NameId × CodeId)). All (λ arm. arm.1.0 < l) ys) (sym f) (inside l arms (subst (λ (m : CodeNode). All (λ c. c.0 < l) (children_of m)) e h))

pub branch_smaller : (ts : List CodeTree) (n : CodeNode) {k a : NameId} {arms xs : List (NameId × CodeId)} → n ≡ Branch k a arms → xs ≡ arms → size_of_arms (arms_in ts xs) < size (node_tree ts n)
branch_smaller ts n {arms = arms} {xs = xs} e f =
    let here : size (node_tree ts n) ≡ size_of_arms (arms_in ts arms) + 1 = ap (λ m. size (node_tree ts m)) e in
    let same : size_of_arms (arms_in ts xs) ≡ size_of_arms (arms_in ts arms) = ap (λ ys. size_of_arms (arms_in ts ys)) f in
    omega arith

-- ---- arms one after another

-- an arm's code is smaller than all arms
pub arm_smaller : (ts : List CodeTree) (arms : List (NameId × CodeId)) (k : ℕ) (d : NameId × CodeId) → k < length arms → size (tree_in ts (slice_index_or arms k d).1) + 2 ≤ size_of_arms (arms_in ts arms)
arm_smaller ts [] k d h = absurd (omega arith)
arm_smaller ts (arm ∷ arms) zero d h = omega arith
arm_smaller ts (arm ∷ arms) (suc k) d h = let i = arm_smaller ts arms k d (omega arith) in omega arith

all_of : {X : Type 0} (xs : List X) (k : ℕ) → length xs ≤ k → take k xs ≡ xs
all_of [] zero h = refl
all_of [] (suc k) h = refl
all_of (x ∷ xs) zero h = absurd (omega arith)
all_of (x ∷ xs) (suc k) h = ap (λ ys. x ∷ ys) (all_of xs k (omega arith))

module _ (ts : List CodeTree) (l : NameId) (p : CodeTree) where
  -- the arm at a place has this label, and code above p
  abbrev HasHere : NameId × CodeId → Type 0
  HasHere arm = (arm.0 ≡ l) × IsAbove (tree_in ts arm.1) p

  pub has_at : (arms : List (NameId × CodeId)) (k : ℕ) (d : NameId × CodeId) → k < length arms → HasHere (slice_index_or arms k d) → HasAbove (arms_in ts arms) l p
  has_at [] k d h a = absurd (omega arith)
  has_at (arm ∷ arms) zero d h a = subst (λ (j : NameId). HasAbove (Arm j (tree_in ts arm.1) (arms_in ts arms)) l p) (sym a.0) (first a.1)
  has_at (arm ∷ arms) (suc k) d h a = later (has_at arms k d (omega arith) a)

  split : {j : NameId} {q : CodeTree} {us : Arms} → HasAbove (Arm j q us) l p → ((j ≡ l) × IsAbove q p) ⊎ HasAbove us l p
  split (first a) = inl (refl, a)
  split (later h) = inr h

  nothing : HasAbove NoArms l p → ⊥
  nothing h = elim h [ ]

  none_more : (arms : List (NameId × CodeId)) (arm : NameId × CodeId) → (HasAbove (arms_in ts arms) l p → ⊥) → (HasHere arm → ⊥) → HasAbove (arms_in ts (arms ++ arm ∷ [])) l p → ⊥
  none_more [] arm n m h = go (split h)
    where
      go : ((arm.0 ≡ l) × IsAbove (tree_in ts arm.1) p) ⊎ HasAbove NoArms l p → ⊥
      go (inl a) = m a
      go (inr g) = nothing g
  none_more (x ∷ arms) arm n m h = go (split h) (λ g. none_more arms arm (λ k. n (later k)) m g)
    where
      go : ((x.0 ≡ l) × IsAbove (tree_in ts x.1) p) ⊎ HasAbove (arms_in ts (arms ++ arm ∷ [])) l p → (HasAbove (arms_in ts (arms ++ arm ∷ [])) l p → ⊥) → ⊥
      go (inl a) ih = n (has_at (x ∷ arms) 0 x (omega arith) a)
      go (inr g) ih = ih g

  pub none_next : (arms : List (NameId × CodeId)) (k : ℕ) (d : NameId × CodeId) → k < length arms → (HasAbove (arms_in ts (take k arms)) l p → ⊥) → (HasHere (slice_index_or arms k d) → ⊥)
      → HasAbove (arms_in ts (take (k + 1) arms)) l p → ⊥
  none_next arms k d h n m g =
      none_more (take k arms) (slice_index_or arms k d) n m (subst (λ (ys : List (NameId × CodeId)). HasAbove (arms_in ts ys) l p) (take_more arms k d h) g)

  pub none_at_all : (arms : List (NameId × CodeId)) (k : ℕ) → length arms ≤ k → (HasAbove (arms_in ts (take k arms)) l p → ⊥) → HasAbove (arms_in ts arms) l p → ⊥
  none_at_all arms k h n g = n (subst (λ (ys : List (NameId × CodeId)). HasAbove (arms_in ts ys) l p) (sym (all_of arms k h)) g)

module _ (ts : List CodeTree) (us : Arms) where
  pub above_here : (arms : List (NameId × CodeId)) (k : ℕ) (d : NameId × CodeId) → k < length arms → AreAbove us (arms_in ts arms) → HasAbove us (slice_index_or arms k d).0 (tree_in ts (slice_index_or arms k d).1)
  above_here [] k d h a = absurd (omega arith)
  above_here (arm ∷ arms) zero d h (one_arm g a) = g
  above_here (arm ∷ arms) (suc k) d h (one_arm g a) = above_here arms k d (omega arith) a

  above_last : (arms : List (NameId × CodeId)) (arm : NameId × CodeId) → AreAbove us (arms_in ts arms) → HasAbove us arm.0 (tree_in ts arm.1) → AreAbove us (arms_in ts (arms ++ arm ∷ []))
  above_last [] arm a h = one_arm h no_arm
  above_last (x ∷ arms) arm (one_arm g a) h = one_arm g (above_last arms arm a h)

  pub above_next : (arms : List (NameId × CodeId)) (k : ℕ) (d : NameId × CodeId) → k < length arms → AreAbove us (arms_in ts (take k arms)) → HasAbove us (slice_index_or arms k d).0 (tree_in ts (slice_index_or arms k d).1)
      → AreAbove us (arms_in ts (take (k + 1) arms))
  above_next arms k d h a g = subst (λ (ys : List (NameId × CodeId)). AreAbove us (arms_in ts ys)) (sym (take_more arms k d h)) (above_last (take k arms) (slice_index_or arms k d) a g)

  pub above_all : (arms : List (NameId × CodeId)) (k : ℕ) → length arms ≤ k → AreAbove us (arms_in ts (take k arms)) → AreAbove us (arms_in ts arms)
  above_all arms k h a = subst (λ (ys : List (NameId × CodeId)). AreAbove us (arms_in ts ys)) (all_of arms k h) a
