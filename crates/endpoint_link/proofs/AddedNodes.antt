-- A table to which the nodes of another are added.
use Rattle.std.proofs.Common.{◌≡◌, ℕ, ◌+◌, ◌<◌, Bool, true, false, take, get_or, List, [], ◌∷◌, ◌++◌, map, length, Some, refl, sym, ap, ◌∙◌, subst, arith, length-append, append_assoc, inl, inr, ◌⊎◌}
use Rattle.std.specs.Prelude.{All, slice_get, nat_lt}
use Rattle.std.proofs.lemmas.Bool.Decides.{nat_tests}
use Rattle.std.proofs.lemmas.List.{take_more, append-nil}
use Rattle.std.proofs.Math.Seq.{take-length}
use Rattle.std.proofs.lemmas.Option.{slice_get-get_or}
use Rattle.std.proofs.lemmas.List.Elements.{All-head, All-tail, All-nil, All-cons}
use Rattle.chor_base.specs.declared.names.NameId.{NameId}
use Rattle.chor_base.specs.Expr.{term_of}
use Rattle.endpoint_code.specs.declared.code.CodeId.{CodeId}
use Rattle.endpoint_code.specs.declared.code.CodeNode.{CodeNode}
use Rattle.endpoint_code.specs.declared.code.CodeNode.TheVariants.{Join, Send, Recv, Pick, Branch, Throw, Catch, Set, Show, Host, If, Call, End}
use Rattle.endpoint_code.specs.Code.{children_of, IsClosed}
use Rattle.endpoint_code.specs.Faults.{asks_known}
use Rattle.endpoint_code.specs.Kept.{node_there}
use Rattle.endpoint_code.specs.Trees.{CodeTree, Joins, Sends, Receives, Selects, Gives, Gains, Sets, Shows, Asks, Arm, Does, Offers, Tests, arms_in, tree_in, node_tree, trees_of, code_at}
use Rattle.endpoint_code.proofs.CodeTables.{code_at-node, code_at-kept, code_at-pushed}
use Rattle.endpoint_link.specs.declared.renumbering.Renumbering.{Renumbering}
use Rattle.endpoint_link.specs.Renumbered.{renumbered_name, renumbered_code, renumbered_action, renumbered_term, renumbered_text, renumbered_tree, renumbered_arms, joined_arms, joined_tree, AreNodesJoined}
use Rattle.endpoint_link.proofs.Basics.{all_of}

module _ (s : Renumbering) (ts us : List CodeTree) where
  -- each of these codes is in the new table, renumbered
  abbrev AreThere : List CodeId → Type 0
  AreThere cs = All (λ c. tree_in us (renumbered_code s c) ≡ renumbered_tree s (tree_in ts c)) cs

  arms_are : (arms : List (NameId × CodeId)) → AreThere (map (λ arm. arm.1) arms) → joined_arms s us arms ≡ renumbered_arms s (arms_in ts arms)
  arms_are [] h = refl
  arms_are (arm ∷ arms) h =
      λ i. Arm (renumbered_name s arm.0) (All-head (λ c. tree_in us (renumbered_code s c) ≡ renumbered_tree s (tree_in ts c)) arm.1 (map (λ a. a.1) arms) h i)
      (arms_are arms (All-tail (λ c. tree_in us (renumbered_code s c) ≡ renumbered_tree s (tree_in ts c)) arm.1 (map (λ a. a.1) arms) h) i)

  one : (c : CodeId) (cs : List CodeId) → AreThere (c ∷ cs) → tree_in us (renumbered_code s c) ≡ renumbered_tree s (tree_in ts c)
  one c cs h = All-head (λ c. tree_in us (renumbered_code s c) ≡ renumbered_tree s (tree_in ts c)) c cs h

  pub joined_is : (n : CodeNode) → AreThere (children_of n) → joined_tree s us n ≡ renumbered_tree s (node_tree ts n)
  joined_is (Join c r k next) h = ap (Does (renumbered_action s (Joins c r k))) (one next [] h)
  joined_is (Send k b e next) h = ap (Does (renumbered_action s (Sends k b (term_of e)))) (one next [] h)
  joined_is (Recv k a x next) h = ap (Does (renumbered_action s (Receives k a x))) (one next [] h)
  joined_is (Pick k b l next) h = ap (Does (renumbered_action s (Selects k b l))) (one next [] h)
  joined_is (Branch k a arms) h = ap (Offers (renumbered_name s k) (renumbered_name s a)) (arms_are arms h)
  joined_is (Throw k b g next) h = ap (Does (renumbered_action s (Gives k b g))) (one next [] h)
  joined_is (Catch k a g next) h = ap (Does (renumbered_action s (Gains k a g))) (one next [] h)
  joined_is (Set x e next) h = ap (Does (renumbered_action s (Sets x (term_of e)))) (one next [] h)
  joined_is (Show e next) h = ap (Does (renumbered_action s (Shows (term_of e)))) (one next [] h)
  joined_is (Host x f a b next) h = ap (Does (renumbered_action s (Asks x f (term_of a) (term_of b)))) (one next [] h)
  joined_is (If e first second) h =
      λ i. Tests (renumbered_term s (term_of e)) (one first (second ∷ []) h i) (one second [] (All-tail (λ c. tree_in us (renumbered_code s c) ≡ renumbered_tree s (tree_in ts c)) first (second ∷ []) h) i)
  joined_is (Call f p ss) h = refl
  joined_is End h = refl

-- what is said of so many nodes of the given table
abbrev pub AreAdded : Renumbering → List CodeNode → List CodeNode → ℕ → Type 0
AreAdded s given nodes i = (id : CodeId) → id.0 < i → code_at nodes (renumbered_code s id) ≡ renumbered_tree s (code_at given id)

pub below_turn : (s : Renumbering) (given nodes : List CodeNode) (i : ℕ) (n made : CodeNode) → IsClosed given → slice_get given i ≡ Some n → length nodes ≡ s.first + i → children_of made ≡ map (renumbered_code s) (children_of n)
    → All (λ c. c.0 < length nodes) (children_of made)
below_turn s given nodes i n made closed at count same = subst (All (λ c. c.0 < length nodes)) (sym same) (mapped (children_of n) (closed i n at))
  where
    mapped : (cs : List CodeId) → All (λ c. c.0 < i) cs → All (λ c. c.0 < length nodes) (map (renumbered_code s) cs)
    mapped [] h = All-nil (λ c. c.0 < length nodes)
    mapped (c ∷ cs) h =
        let l : c.0 < i = All-head (λ c. c.0 < i) c cs h in
        All-cons (λ c. c.0 < length nodes) (renumbered_code s c) (map (renumbered_code s) cs) (omega (arith, l, count)) (mapped cs (All-tail (λ c. c.0 < i) c cs h))

pub added_turn : (s : Renumbering) (given old new : List CodeNode) (i : ℕ) (n made : CodeNode) → IsClosed given → slice_get given i ≡ Some n → length old ≡ s.first + i → new ≡ old ++ made ∷ []
    → ((ts : List CodeTree) → node_tree ts made ≡ joined_tree s ts n) → AreAdded s given old i → AreAdded s given new (i + 1)
added_turn s given old new i n made closed at count grown tree added id l = go (split (nat_lt id.0 i) refl)
  where
    split : (b : Bool) → nat_lt id.0 i ≡ b → (id.0 < i) ⊎ (id.0 ≡ i)
    split true t = inl (grind (arith, nat_tests, t))
    split false t = inr (grind (arith, nat_tests, t, l))

    go : (id.0 < i) ⊎ (id.0 ≡ i) → code_at new (renumbered_code s id) ≡ renumbered_tree s (code_at given id)
    go (inl less) = code_at-kept old new (made ∷ []) (renumbered_code s id) grown (omega (arith, less, count)) ∙ added id less
    go (inr same) =
        let here : slice_get given id.0 ≡ Some n = ap (slice_get given) same ∙ at in
        code_at-pushed old new made (renumbered_code s id) grown (omega (arith, same, count)) ∙ tree (trees_of old)
        ∙ joined_is s (trees_of given) (trees_of old) n (all_of (λ c. c.0 < i) (λ c. tree_in (trees_of old) (renumbered_code s c) ≡ renumbered_tree s (tree_in (trees_of given) c)) (λ c less. added c less) (children_of n) (closed i n at))
        ∙ ap (renumbered_tree s) (sym (code_at-node given id n closed here))

-- the item at a place of a slice
pub at_place : {A : Type 0} (xs ys : List A) (i : ℕ) (x : A) → ys ≡ xs → i < length xs → x ≡ get_or ys i x → x ≡ get_or xs i x
at_place xs ys i x same lt is = is ∙ ap (λ l. get_or l i x) same

-- ---- the loop

-- after so many nodes of the given table
pub record Underway (s : Renumbering) (given old now : List CodeNode) (i : ℕ) : Type 0 where
  pub kept : (more : List CodeNode) × (now ≡ old ++ more)
  pub count : length now ≡ length old + i
  pub codes : AreAdded s given now i
  pub there : (n : NameId → Bool) (t : ℕ → Bool) → All (λ o. node_there n t o ≡ true) old → All (λ o. node_there (λ x. n (renumbered_name s x)) (λ x. t (renumbered_text s x)) o ≡ true) (take i given) → All (λ o. node_there n t o ≡ true) now
  pub asks : (known : NameId → Bool) → All (λ o. asks_known known o ≡ true) old → All (λ o. asks_known (λ x. known (renumbered_name s x)) o ≡ true) (take i given) → All (λ o. asks_known known o ≡ true) now

all_first : {A : Type 0} (P : A → Type 0) (xs : List A) (x : A) → All P (xs ++ x ∷ []) → All P xs × P x
all_first P [] x h = (All-nil P, All-head P x [] h)
all_first P (y ∷ ys) x h = let w = all_first P ys x (All-tail P y (ys ++ x ∷ []) h) in (All-cons P y ys (All-head P y (ys ++ x ∷ []) h) w.0, w.1)

all_last : {A : Type 0} (P : A → Type 0) (xs : List A) (x : A) → All P xs → P x → All P (xs ++ x ∷ [])
all_last P [] x h p = All-cons P x [] p (All-nil P)
all_last P (y ∷ ys) x h p = All-cons P y (ys ++ x ∷ []) (All-head P y ys h) (all_last P ys x (All-tail P y ys h) p)

pub begins : (s : Renumbering) (given old : List CodeNode) → Underway s given old old 0
begins s given old = record {
  kept = ([], sym (append-nil old));
  count = omega arith;
  codes = λ id l. absurd (omega (arith, l));
  there = λ n t all none. all;
  asks = λ known all none. all;
}

pub turns : (s : Renumbering) (given old mid new : List CodeNode) (i : ℕ) (n made : CodeNode) → s.first ≡ length old → IsClosed given → i < length given → n ≡ get_or given i n → new ≡ mid ++ made ∷ []
    → ((ts : List CodeTree) → node_tree ts made ≡ joined_tree s ts n)
    → ((m : NameId → Bool) (t : ℕ → Bool) → node_there m t made ≡ node_there (λ x. m (renumbered_name s x)) (λ x. t (renumbered_text s x)) n)
    → ((known : NameId → Bool) → asks_known known made ≡ asks_known (λ x. known (renumbered_name s x)) n)
    → Underway s given old mid i → Underway s given old new (i + 1)
turns s given old mid new i n made first closed lt is grown tree there asks u = record {
  kept = (u.kept.0 ++ made ∷ [], grown ∙ ap (λ l. l ++ made ∷ []) u.kept.1 ∙ append_assoc old u.kept.0 (made ∷ []));
  count = (let e : length new ≡ length mid + 1 = ap (λ l. length l) grown ∙ length-append mid (made ∷ []) in let c : length mid ≡ length old + i = u.count in omega (arith, e, c));
  codes = added_turn s given mid new i n made closed at (u.count ∙ ap (λ k. k + i) (sym first)) grown tree u.codes;
  there = λ m t all more.
      let w = all_first (λ o. node_there (λ x. m (renumbered_name s x)) (λ x. t (renumbered_text s x)) o ≡ true) (take i given) n (subst (All (λ o. node_there (λ x. m (renumbered_name s x)) (λ x. t (renumbered_text s x)) o ≡ true)) longer more) in
      subst (All (λ o. node_there m t o ≡ true)) (sym grown) (all_last (λ o. node_there m t o ≡ true) mid made (u.there m t all w.0) (there m t ∙ w.1));
  asks = λ known all more.
      let w = all_first (λ o. asks_known (λ x. known (renumbered_name s x)) o ≡ true) (take i given) n (subst (All (λ o. asks_known (λ x. known (renumbered_name s x)) o ≡ true)) longer more) in
      subst (All (λ o. asks_known known o ≡ true)) (sym grown) (all_last (λ o. asks_known known o ≡ true) mid made (u.asks known all w.0) (asks known ∙ w.1));
}
  where
    at : slice_get given i ≡ Some n
    at = slice_get-get_or given i n lt ∙ ap Some (sym is)

    longer : take (i + 1) given ≡ take i given ++ n ∷ []
    longer = take_more given i n lt ∙ ap (λ x. take i given ++ x ∷ []) (sym is)

pub ends : (s : Renumbering) (given old now : List CodeNode) (i : ℕ) → i ≡ length given → Underway s given old now i → AreNodesJoined s given old now
ends s given old now i all u = record {
  kept = u.kept;
  count = u.count ∙ ap (λ k. length old + k) all;
  codes = λ id l. u.codes id (subst (λ k. id.0 < k) (sym all) l);
  there = λ n t h k. u.there n t h (subst (All (λ o. node_there (λ x. n (renumbered_name s x)) (λ x. t (renumbered_text s x)) o ≡ true)) (sym whole) k);
  asks = λ known h k. u.asks known h (subst (All (λ o. asks_known (λ x. known (renumbered_name s x)) o ≡ true)) (sym whole) k);
}
  where
    whole : take i given ≡ given
    whole = ap (λ k. take k given) all ∙ take-length given
