-- Code with other numbers is the same code, and is above others where that is.
use Rattle.std.proofs.Common.{◌≡◌, ℕ, zero, suc, ◌<◌, ◌&&◌, Bool, true, List, [], ◌∷◌, map, length, Some, refl, sym, subst, arith, inl, inr, ◌⊎◌}
use Rattle.std.specs.Prelude.{All, slice_get}
use Rattle.std.specs.List.{AllZip, list_all}
use Rattle.std.proofs.lemmas.List.Elements.{All-head, All-tail, All-nil, All-cons}
use Rattle.chor_base.specs.declared.names.NameId.{NameId}
use Rattle.chor_base.specs.declared.value.Value.TheVariants.{Int, Bool as Truth, Text, Part}
use Rattle.chor_base.specs.Expr.{Term, Constant, Variable, Unary, Binary}
use Rattle.endpoint_code.specs.declared.code.CodeId.{CodeId}
use Rattle.endpoint_code.specs.declared.code.CodeNode.{CodeNode}
use Rattle.endpoint_code.specs.declared.code.CodeNode.TheVariants.{Join, Send, Recv, Pick, Branch, Throw, Catch, Set, Show, Host, If, Call, End}
use Rattle.endpoint_code.specs.Code.{children_of, IsClosed}
use Rattle.endpoint_code.specs.Kept.{term_there, node_there}
use Rattle.endpoint_code.specs.Labels.{here}
use Rattle.endpoint_code.specs.Trees as tree
use Rattle.endpoint_code.specs.Trees.{Action, CodeTree, Arms, tree_in, arms_in, node_tree, trees_of, code_at}
use Rattle.endpoint_code.specs.Above as above
use Rattle.endpoint_code.specs.Above.{IsAbove, AreAbove, HasAbove}
use Rattle.endpoint_code.proofs.CodeTables.{code_at-node}
use Rattle.endpoint_link.specs.declared.renumbering.Renumbering.{Renumbering}
use Rattle.endpoint_link.specs.Renumbered.{renumbered_name, renumbered_text, renumbered_term, renumbered_action, renumbered_tree, renumbered_arms}
use Rattle.same_programs.specs.Codes as same
use Rattle.same_programs.specs.Codes.{SameTerm, SameAction, SameCode, SameArms}
use Rattle.endpoint_link.specs.AboveAs as across
use Rattle.endpoint_link.specs.AboveAs.{IsAboveAs, AreAboveAs, HasAboveAs}
use Rattle.endpoint_link.proofs.Basics.{both, at_number}

-- ---- what a code names is there

abbrev pub action_there : (NameId → Bool) → (ℕ → Bool) → Action → Bool
action_there n t (tree.Joins c r k) = n c && n r && n k
action_there n t (tree.Sends k b e) = n k && n b && term_there n t e
action_there n t (tree.Receives k a x) = n k && n a && n x
action_there n t (tree.Selects k b l) = n k && n b && n l
action_there n t (tree.Gives k b h) = n k && n b && n h
action_there n t (tree.Gains k a h) = n k && n a && n h
action_there n t (tree.Sets x e) = n x && term_there n t e
action_there n t (tree.Shows e) = term_there n t e
action_there n t (tree.Asks x f e g) = n x && n f && term_there n t e && term_there n t g

abbrev mutual
  pub IsTreeThere : (NameId → Bool) → (ℕ → Bool) → CodeTree → Type 0
  IsTreeThere n t (tree.Does a rest) = (action_there n t a ≡ true) × IsTreeThere n t rest
  IsTreeThere n t (tree.Offers k a arms) = ((n k && n a) ≡ true) × AreArmsThere n t arms
  IsTreeThere n t (tree.Tests e first second) = (term_there n t e ≡ true) × IsTreeThere n t first × IsTreeThere n t second
  IsTreeThere n t (tree.Calls f p ss) = (n f && n p && list_all n ss) ≡ true
  IsTreeThere n t tree.Ends = Unit {0}

  pub AreArmsThere : (NameId → Bool) → (ℕ → Bool) → Arms → Type 0
  AreArmsThere n t tree.NoArms = Unit {0}
  AreArmsThere n t (tree.Arm l c rest) = (n l ≡ true) × IsTreeThere n t c × AreArmsThere n t rest

all_at : {X : Type 0} (P : X → Type 0) (xs : List X) (i : ℕ) (x : X) → All P xs → slice_get xs i ≡ Some x → P x
all_at P [] i x all h = absurd cc
all_at P (y ∷ ys) zero x all h = let is : y ≡ x = cc in subst P is (All-head P y ys all)
all_at P (y ∷ ys) (suc i) x all h = all_at P ys i x (All-tail P y ys all) h

module _ (n : NameId → Bool) (t : ℕ → Bool) (nodes : List CodeNode) (closed : IsClosed nodes) (there : All (λ o. node_there n t o ≡ true) nodes) where
  abbrev ts : List CodeTree
  ts = trees_of nodes

  abbrev Next : CodeId → Type 0
  Next c = IsTreeThere n t (tree_in (trees_of nodes) c)

  arms_there : (arms : List (NameId × CodeId)) → list_all (λ arm. n arm.0) arms ≡ true → All Next (map (λ arm. arm.1) arms) → AreArmsThere n t (arms_in ts arms)
  arms_there [] h next = tt
  arms_there (arm ∷ arms) h next = let w = both (n arm.0) (list_all (λ a. n a.0) arms) h in (w.0, All-head Next arm.1 (map (λ a. a.1) arms) next, arms_there arms w.1 (All-tail Next arm.1 (map (λ a. a.1) arms) next))

  at_node : (o : CodeNode) → node_there n t o ≡ true → All Next (children_of o) → IsTreeThere n t (node_tree ts o)
  at_node (Join c r k next) h a = (h, All-head Next next [] a)
  at_node (Send k b e next) h a = (h, All-head Next next [] a)
  at_node (Recv k b x next) h a = (h, All-head Next next [] a)
  at_node (Pick k b l next) h a = (h, All-head Next next [] a)
  at_node (Branch k b arms) h a = let w = both (n k && n b) (list_all (λ arm. n arm.0) arms) h in (w.0, arms_there arms w.1 a)
  at_node (Throw k b g next) h a = (h, All-head Next next [] a)
  at_node (Catch k b g next) h a = (h, All-head Next next [] a)
  at_node (Set x e next) h a = (h, All-head Next next [] a)
  at_node (Show e next) h a = (h, All-head Next next [] a)
  at_node (Host x f e g next) h a = (h, All-head Next next [] a)
  at_node (If e first second) h a = (h, All-head Next first (second ∷ []) a, All-head Next second [] (All-tail Next first (second ∷ []) a))
  at_node (Call f p ss) h a = h
  at_node End h a = tt

  each : (i : ℕ) → ((c : CodeId) → c.0 < i → Next c) → (cs : List CodeId) → All (λ c. c.0 < i) cs → All Next cs
  each i lower [] low = All-nil Next
  each i lower (c ∷ cs) low = All-cons Next c cs (lower c (All-head (λ c. c.0 < i) c cs low)) (each i lower cs (All-tail (λ c. c.0 < i) c cs low))

  below : (fuel : ℕ) (id : CodeId) → id.0 < fuel → id.0 < length nodes → IsTreeThere n t (code_at nodes id)
  below zero id l inside = absurd (omega (arith, l))
  below (suc fuel) id l inside =
      let w = at_number nodes id.0 inside in
      subst (IsTreeThere n t) (sym (code_at-node nodes id w.0 closed w.1))
      (at_node w.0 (all_at (λ o. node_there n t o ≡ true) nodes id.0 w.0 there w.1) (each id.0 (λ c k. below fuel c (omega (arith, k, l)) (omega (arith, k, inside))) (children_of w.0) (closed id.0 w.0 w.1)))

  pub code_there : (id : CodeId) → id.0 < length nodes → IsTreeThere n t (code_at nodes id)
  code_there id inside = below (suc id.0) id (omega arith) inside

-- ---- what is below a code of each kind

record UnderDoes (a : Action) (q p : CodeTree) : Type 0 where
  rest : CodeTree
  is : p ≡ tree.Does a rest
  over : IsAbove q rest

under_does : {a : Action} {q p : CodeTree} → IsAbove (tree.Does a q) p → UnderDoes a q p
under_does (above.does {p = p} w) = record { rest = p; is = refl; over = w }

record UnderOffers (x a : NameId) (qs : Arms) (p : CodeTree) : Type 0 where
  arms : Arms
  is : p ≡ tree.Offers x a arms
  over : AreAbove qs arms

under_offers : {x a : NameId} {qs : Arms} {p : CodeTree} → IsAbove (tree.Offers x a qs) p → UnderOffers x a qs p
under_offers (above.offers {ps = ps} w) = record { arms = ps; is = refl; over = w }

record UnderTests (e : Term) (q r p : CodeTree) : Type 0 where
  first : CodeTree
  second : CodeTree
  is : p ≡ tree.Tests e first second
  over : IsAbove q first
  under : IsAbove r second

under_tests : {e : Term} {q r p : CodeTree} → IsAbove (tree.Tests e q r) p → UnderTests e q r p
under_tests (above.tests {p = p} {p' = p'} v w) = record { first = p; second = p'; is = refl; over = v; under = w }

under_calls : {f q : NameId} {ss : List NameId} {p : CodeTree} → IsAbove (tree.Calls f q ss) p → p ≡ tree.Calls f q ss
under_calls above.calls = refl

under_ends : {p : CodeTree} → IsAbove tree.Ends p → p ≡ tree.Ends
under_ends above.ends = refl

under_arm : {x l : NameId} {c p : CodeTree} {rest : Arms} → HasAbove (tree.Arm x c rest) l p → ((l ≡ x) × IsAbove c p) ⊎ HasAbove rest l p
under_arm (above.first w) = inl (refl, w)
under_arm (above.later w) = inr w

-- an arm, or one of the rest
has_one : (s : Renumbering) (N : NameId → NameId → Type 0) (T : ℕ → ℕ → Type 0) (x : NameId) (c : CodeTree) (rest : Arms) (l : NameId) (p : CodeTree)
    → ((l ≡ renumbered_name s x) × IsAbove (renumbered_tree s c) p) ⊎ HasAbove (renumbered_arms s rest) l p → (l ≡ renumbered_name s x → IsAbove (renumbered_tree s c) p → N x (renumbered_name s x)) → (IsAbove (renumbered_tree s c) p → IsAboveAs N T c p)
    → (HasAbove (renumbered_arms s rest) l p → HasAboveAs N T rest l p) → HasAboveAs N T (tree.Arm x c rest) l p
has_one s N T x c rest l p (inl (same, w)) label code more = subst (λ y. HasAboveAs N T (tree.Arm x c rest) y p) (sym same) (across.first (label same w) (code w))
has_one s N T x c rest l p (inr w) label code more = across.later (more w)

-- ---- the same code

-- N and T tell which names and texts are the same; each that is among n and whose other number is among m is the same as that
module _ (s : Renumbering) (N : NameId → NameId → Type 0) (T : ℕ → ℕ → Type 0) (n m : NameId → Bool) (t u : ℕ → Bool)
    (name : (x : NameId) → n x ≡ true → m (renumbered_name s x) ≡ true → N x (renumbered_name s x)) (text : (x : ℕ) → t x ≡ true → u (renumbered_text s x) ≡ true → T x (renumbered_text s x)) where
  term_same : (e : Term) → term_there n t e ≡ true → term_there m u (renumbered_term s e) ≡ true → SameTerm N T e (renumbered_term s e)
  term_same (Constant (Int z)) h k = same.constant same.number
  term_same (Constant (Truth b)) h k = same.constant same.truth
  term_same (Constant (Text x)) h k = same.constant (same.text (text x h k))
  term_same (Constant (Part i r)) h k = absurd cc
  term_same (Variable x) h k = same.variable (name x h k)
  term_same (Unary op e) h k = same.unary (term_same e h k)
  term_same (Binary op e f) h k =
      let v = both (term_there n t e) (term_there n t f) h in
      let w = both (term_there m u (renumbered_term s e)) (term_there m u (renumbered_term s f)) k in
      same.binary (term_same e v.0 w.0) (term_same f v.1 w.1)

  record Two (x y : NameId) : Type 0 where
    one : N x (renumbered_name s x)
    other : N y (renumbered_name s y)

  two : (x y : NameId) → (n x && n y) ≡ true → (m (renumbered_name s x) && m (renumbered_name s y)) ≡ true → Two x y
  two x y h k = let v = both (n x) (n y) h in let w = both (m (renumbered_name s x)) (m (renumbered_name s y)) k in record { one = name x v.0 w.0; other = name y v.1 w.1 }

  record Three (x y z : NameId) : Type 0 where
    first : N x (renumbered_name s x)
    second : N y (renumbered_name s y)
    third : N z (renumbered_name s z)

  three : (x y z : NameId) → (n x && n y && n z) ≡ true → (m (renumbered_name s x) && m (renumbered_name s y) && m (renumbered_name s z)) ≡ true → Three x y z
  three x y z h k =
      let v = both (n x && n y) (n z) h in
      let w = both (m (renumbered_name s x) && m (renumbered_name s y)) (m (renumbered_name s z)) k in
      let p = two x y v.0 w.0 in record { first = p.one; second = p.other; third = name z v.1 w.1 }

  action_same : (a : Action) → action_there n t a ≡ true → action_there m u (renumbered_action s a) ≡ true → SameAction N T a (renumbered_action s a)
  action_same (tree.Joins c r k) h g = let p = three c r k h g in same.joins p.first p.second p.third
  action_same (tree.Sends k b e) h g =
      let v = both (n k && n b) (term_there n t e) h in
      let w = both (m (renumbered_name s k) && m (renumbered_name s b)) (term_there m u (renumbered_term s e)) g in
      let p = two k b v.0 w.0 in same.sends p.one p.other (term_same e v.1 w.1)
  action_same (tree.Receives k a x) h g = let p = three k a x h g in same.receives p.first p.second p.third
  action_same (tree.Selects k b l) h g = let p = three k b l h g in same.selects p.first p.second p.third
  action_same (tree.Gives k b x) h g = let p = three k b x h g in same.gives p.first p.second p.third
  action_same (tree.Gains k a x) h g = let p = three k a x h g in same.gains p.first p.second p.third
  action_same (tree.Sets x e) h g =
      let v = both (n x) (term_there n t e) h in
      let w = both (m (renumbered_name s x)) (term_there m u (renumbered_term s e)) g in
      same.sets (name x v.0 w.0) (term_same e v.1 w.1)
  action_same (tree.Shows e) h g = same.shows (term_same e h g)
  action_same (tree.Asks x f e d) h g =
      let v = both (n x && n f && term_there n t e) (term_there n t d) h in
      let w = both (m (renumbered_name s x) && m (renumbered_name s f) && term_there m u (renumbered_term s e)) (term_there m u (renumbered_term s d)) g in
      let a = both (n x && n f) (term_there n t e) v.0 in
      let b = both (m (renumbered_name s x) && m (renumbered_name s f)) (term_there m u (renumbered_term s e)) w.0 in
      let p = two x f a.0 b.0 in same.asks p.one p.other (term_same e a.1 b.1) (term_same d v.1 w.1)

  list_same : (xs : List NameId) → list_all n xs ≡ true → list_all m (map (renumbered_name s) xs) ≡ true → AllZip N xs (map (renumbered_name s) xs)
  list_same [] h k = tt
  list_same (x ∷ xs) h k =
      let v = both (n x) (list_all n xs) h in
      let w = both (m (renumbered_name s x)) (list_all m (map (renumbered_name s) xs)) k in
      (name x v.0 w.0, list_same xs v.1 w.1)

  record Called (f p : NameId) (ss : List NameId) : Type 0 where
    names : Two f p
    sessions : AllZip N ss (map (renumbered_name s) ss)

  called : (f p : NameId) (ss : List NameId) → (n f && n p && list_all n ss) ≡ true → (m (renumbered_name s f) && m (renumbered_name s p) && list_all m (map (renumbered_name s) ss)) ≡ true → Called f p ss
  called f p ss h k =
      let v = both (n f && n p) (list_all n ss) h in
      let w = both (m (renumbered_name s f) && m (renumbered_name s p)) (list_all m (map (renumbered_name s) ss)) k in
      record { names = two f p v.0 w.0; sessions = list_same ss v.1 w.1 }

  mutual
    pub tree_same : (c : CodeTree) → IsTreeThere n t c → IsTreeThere m u (renumbered_tree s c) → SameCode N T c (renumbered_tree s c)
    tree_same (tree.Does a rest) h k = same.does (action_same a h.0 k.0) (tree_same rest h.1 k.1)
    tree_same (tree.Offers x a arms) h k = let p = two x a h.0 k.0 in same.offers p.one p.other (arms_same arms h.1 k.1)
    tree_same (tree.Tests e first second) h k = same.tests (term_same e h.0 k.0) (tree_same first h.1 k.1) (tree_same second h.2 k.2)
    tree_same (tree.Calls f p ss) h k = let w = called f p ss h k in same.calls w.names.one w.names.other w.sessions
    tree_same tree.Ends h k = same.ends

    arms_same : (arms : Arms) → AreArmsThere n t arms → AreArmsThere m u (renumbered_arms s arms) → SameArms N T arms (renumbered_arms s arms)
    arms_same tree.NoArms h k = same.no_arm
    arms_same (tree.Arm l c rest) h k = same.one_arm (name l h.0 k.0) (tree_same c h.1 k.1) here (arms_same rest h.2 k.2)

  -- ---- and above what its copy is above

  each_back : (arms qs : Arms) → ((l : NameId) (p : CodeTree) → m l ≡ true → IsTreeThere m u p → HasAbove qs l p → HasAboveAs N T arms l p) → (ps : Arms) → AreArmsThere m u ps → AreAbove qs ps → AreAboveAs N T arms ps
  each_back arms qs back tree.NoArms k above.no_arm = across.no_arm
  each_back arms qs back (tree.Arm l p ps) k (above.one_arm w g) = across.one_arm (back l p k.0 k.1 w) (each_back arms qs back ps k.2 g)

  mutual
    pub above_back : (c p : CodeTree) → IsTreeThere n t c → IsTreeThere m u p → IsAbove (renumbered_tree s c) p → IsAboveAs N T c p
    above_back (tree.Does a rest) p h k w =
        let i = under_does w in
        let there = subst (IsTreeThere m u) i.is k in
        subst (IsAboveAs N T (tree.Does a rest)) (sym i.is) (across.does (action_same a h.0 there.0) (above_back rest i.rest h.1 there.1 i.over))
    above_back (tree.Offers x a arms) p h k w =
        let i = under_offers w in
        let there = subst (IsTreeThere m u) i.is k in
        let v = two x a h.0 there.0 in
        subst (IsAboveAs N T (tree.Offers x a arms)) (sym i.is) (across.offers v.one v.other (each_back arms (renumbered_arms s arms) (has_back arms h.1) i.arms there.1 i.over))
    above_back (tree.Tests e first second) p h k w =
        let i = under_tests w in
        let there = subst (IsTreeThere m u) i.is k in
        subst (IsAboveAs N T (tree.Tests e first second)) (sym i.is) (across.tests (term_same e h.0 there.0) (above_back first i.first h.1 there.1 i.over) (above_back second i.second h.2 there.2 i.under))
    above_back (tree.Calls f q ss) p h k w =
        let is = under_calls w in
        let there = subst (IsTreeThere m u) is k in
        let v = called f q ss h there in
        subst (IsAboveAs N T (tree.Calls f q ss)) (sym is) (across.calls v.names.one v.names.other v.sessions)
    above_back tree.Ends p h k w = subst (IsAboveAs N T tree.Ends) (sym (under_ends w)) across.ends

    has_back : (arms : Arms) → AreArmsThere n t arms → (l : NameId) (p : CodeTree) → m l ≡ true → IsTreeThere m u p → HasAbove (renumbered_arms s arms) l p → HasAboveAs N T arms l p
    has_back tree.NoArms h l p j k w = elim w [ ]
    has_back (tree.Arm x c rest) h l p j k w = has_one s N T x c rest l p (under_arm w) (λ same v. name x h.0 (subst (λ y. m y ≡ true) same j)) (λ v. above_back c p h.1 k v) (λ v. has_back rest h.2 l p j k v)
