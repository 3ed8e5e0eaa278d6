-- Programs in one set of tables.
use Rattle.std.proofs.Common.{◌≡◌, ℕ, zero, suc, ◌+◌, ◌<◌, ◌&&◌, Bool, true, List, [], ◌∷◌, ◌++◌, map, length, refl, sym, ap, subst, arith}
use Rattle.std.specs.Prelude.{slice_index_or, nat_lt}
use Rattle.std.specs.List.{list_all}
use Rattle.std.proofs.lemmas.Option.{slice_get-get_or, slice_get_within}
use Rattle.chor_base.specs.declared.names.NameId.{NameId}
use Rattle.chor_base.specs.declared.value.Value.TheVariants.{Int, Bool as Truth, Text, Part}
use Rattle.chor_base.specs.Expr.{Term, Constant, Variable, Unary, Binary, term_of}
use Rattle.endpoint_code.specs.declared.code.CodeId.{CodeId}
use Rattle.endpoint_code.specs.declared.code.CodeNode.{CodeNode}
use Rattle.endpoint_code.specs.declared.code.CodeNode.TheVariants.{Join, Send, Recv, Pick, Branch, Throw, Catch, Set, Show, Host, If, Call, End}
use Rattle.endpoint_code.specs.Kept.{term_there, node_there}
use Rattle.endpoint_code.specs.Trees as tree
use Rattle.endpoint_code.specs.Trees.{CodeTree, Arms, code_at}
use Rattle.endpoint_link.specs.declared.renumbering.Renumbering.{Renumbering}
use Rattle.endpoint_link.specs.Renumbered.{renumbered_name, renumbered_text, renumbered_code, renumbered_term, renumbered_action, renumbered_tree, renumbered_arms}
use Rattle.endpoint_link.specs.JoinedWords.{AreWordsJoined}
use Rattle.same_programs.specs.Words.{IsSameWord}
use Rattle.endpoint_link.proofs.Basics.{both, join, is_below, below_is}

-- ---- the same numbers

-- no name, no text and no node has another number
abbrev pub IsOwn : Renumbering → Type 0
IsOwn s = (s.names ≡ []) × (s.texts ≡ []) × (s.first ≡ 0)

module _ (s : Renumbering) (own : IsOwn s) where
  pub name_own : (x : NameId) → renumbered_name s x ≡ x
  name_own x = ap (λ (l : List NameId). slice_index_or l x.0 x) own.0

  pub text_own : (t : ℕ) → renumbered_text s t ≡ t
  text_own t = ap (λ (l : List ℕ). slice_index_or l t t) own.1

  pub code_own : (id : CodeId) → renumbered_code s id ≡ id
  code_own id = let e : s.first ≡ 0 = own.2 in let h : s.first + id.0 ≡ id.0 = omega (arith, e) in ap (λ n. record { 0 = n }) h

  names_own : (xs : List NameId) → map (renumbered_name s) xs ≡ xs
  names_own [] = refl
  names_own (x ∷ xs) = λ i. name_own x i ∷ names_own xs i

  term_own : (e : Term) → renumbered_term s e ≡ e
  term_own (Constant (Int z)) = refl
  term_own (Constant (Truth b)) = refl
  term_own (Constant (Text t)) = ap (λ n. Constant (Text n)) (text_own t)
  term_own (Constant (Part k r)) = ap (λ n. Constant (Part k n)) (name_own r)
  term_own (Variable x) = ap Variable (name_own x)
  term_own (Unary op e) = ap (Unary op) (term_own e)
  term_own (Binary op e f) = λ i. Binary op (term_own e i) (term_own f i)

  action_own : (a : tree.Action) → renumbered_action s a ≡ a
  action_own (tree.Joins c r k) = λ i. tree.Joins (name_own c i) (name_own r i) (name_own k i)
  action_own (tree.Sends k b e) = λ i. tree.Sends (name_own k i) (name_own b i) (term_own e i)
  action_own (tree.Receives k a x) = λ i. tree.Receives (name_own k i) (name_own a i) (name_own x i)
  action_own (tree.Selects k b l) = λ i. tree.Selects (name_own k i) (name_own b i) (name_own l i)
  action_own (tree.Gives k b h) = λ i. tree.Gives (name_own k i) (name_own b i) (name_own h i)
  action_own (tree.Gains k a h) = λ i. tree.Gains (name_own k i) (name_own a i) (name_own h i)
  action_own (tree.Sets x e) = λ i. tree.Sets (name_own x i) (term_own e i)
  action_own (tree.Shows e) = ap tree.Shows (term_own e)
  action_own (tree.Asks x f e g) = λ i. tree.Asks (name_own x i) (name_own f i) (term_own e i) (term_own g i)

  mutual
    pub tree_own : (c : CodeTree) → renumbered_tree s c ≡ c
    tree_own (tree.Does a rest) = λ i. tree.Does (action_own a i) (tree_own rest i)
    tree_own (tree.Offers k a arms) = λ i. tree.Offers (name_own k i) (name_own a i) (arms_own arms i)
    tree_own (tree.Tests e first second) = λ i. tree.Tests (term_own e i) (tree_own first i) (tree_own second i)
    tree_own (tree.Calls f p ss) = λ i. tree.Calls (name_own f i) (name_own p i) (names_own ss i)
    tree_own tree.Ends = refl

    arms_own : (arms : Arms) → renumbered_arms s arms ≡ arms
    arms_own tree.NoArms = refl
    arms_own (tree.Arm l c rest) = λ i. tree.Arm (name_own l i) (tree_own c i) (arms_own rest i)

-- ---- what is there in one table is there in another

module _ (n m : NameId → Bool) (t u : ℕ → Bool) (names : (x : NameId) → n x ≡ true → m x ≡ true) (texts : (x : ℕ) → t x ≡ true → u x ≡ true) where
  term_more : (e : Term) → term_there n t e ≡ true → term_there m u e ≡ true
  term_more (Constant (Int z)) h = refl
  term_more (Constant (Truth b)) h = refl
  term_more (Constant (Text x)) h = texts x h
  term_more (Constant (Part s r)) h = absurd cc
  term_more (Variable x) h = names x h
  term_more (Unary op e) h = term_more e h
  term_more (Binary op e f) h = let w = both (term_there n t e) (term_there n t f) h in join (term_there m u e) (term_there m u f) (term_more e w.0) (term_more f w.1)

  two : (x y : NameId) → (n x && n y) ≡ true → (m x && m y) ≡ true
  two x y h = let w = both (n x) (n y) h in join (m x) (m y) (names x w.0) (names y w.1)

  three : (x y z : NameId) → ((n x && n y) && n z) ≡ true → ((m x && m y) && m z) ≡ true
  three x y z h = let w = both (n x && n y) (n z) h in join (m x && m y) (m z) (two x y w.0) (names z w.1)

  list_more : (xs : List NameId) → list_all n xs ≡ true → list_all m xs ≡ true
  list_more [] h = refl
  list_more (x ∷ xs) h = let w = both (n x) (list_all n xs) h in join (m x) (list_all m xs) (names x w.0) (list_more xs w.1)

  arms_more : (arms : List (NameId × CodeId)) → list_all (λ arm. n arm.0) arms ≡ true → list_all (λ arm. m arm.0) arms ≡ true
  arms_more [] h = refl
  arms_more (arm ∷ arms) h = let w = both (n arm.0) (list_all (λ a. n a.0) arms) h in join (m arm.0) (list_all (λ a. m a.0) arms) (names arm.0 w.0) (arms_more arms w.1)

  pub node_more : (o : CodeNode) → node_there n t o ≡ true → node_there m u o ≡ true
  node_more (Join c r k next) h = three c r k h
  node_more (Send k b e next) h = let w = both (n k && n b) (term_there n t (term_of e)) h in join (m k && m b) (term_there m u (term_of e)) (two k b w.0) (term_more (term_of e) w.1)
  node_more (Recv k a x next) h = three k a x h
  node_more (Pick k b l next) h = three k b l h
  node_more (Branch k a arms) h = let w = both (n k && n a) (list_all (λ arm. n arm.0) arms) h in join (m k && m a) (list_all (λ arm. m arm.0) arms) (two k a w.0) (arms_more arms w.1)
  node_more (Throw k b g next) h = three k b g h
  node_more (Catch k a g next) h = three k a g h
  node_more (Set x e next) h = let w = both (n x) (term_there n t (term_of e)) h in join (m x) (term_there m u (term_of e)) (names x w.0) (term_more (term_of e) w.1)
  node_more (Show e next) h = term_more (term_of e) h
  node_more (Host x f a b next) h =
      let w = both ((n x && n f) && term_there n t (term_of a)) (term_there n t (term_of b)) h in
      let v = both (n x && n f) (term_there n t (term_of a)) w.0 in
      join ((m x && m f) && term_there m u (term_of a)) (term_there m u (term_of b)) (join (m x && m f) (term_there m u (term_of a)) (two x f v.0) (term_more (term_of a) v.1)) (term_more (term_of b) w.1)
  node_more (If e c d) h = term_more (term_of e) h
  node_more (Call f p ss) h = let w = both (n f && n p) (list_all n ss) h in join (m f && m p) (list_all m ss) (two f p w.0) (list_more ss w.1)
  node_more End h = refl

-- ---- words

more_words : (xs ys : List (List ℕ)) (i : ℕ) → i < length xs → i < length (xs ++ ys)
more_words [] ys i l = absurd (omega (arith, l))
more_words (x ∷ xs) ys zero l = omega arith
more_words (x ∷ xs) ys (suc i) l = let k = more_words xs ys i (omega (arith, l)) in omega (arith, k)

module _ {A : Type 0} (f : A → ℕ) (base given joined : List (List ℕ)) (numbers : List A) (w : AreWordsJoined f base given joined numbers) where
  pub word_same : (i : ℕ) (d : A) → i < length given → IsSameWord given joined i (f (slice_index_or numbers i d))
  word_same i d l = w.same i (slice_index_or numbers i d) (slice_get-get_or numbers i d (subst (λ k. i < k) (sym w.count) l))

  pub word_there : (i : ℕ) (d : A) → nat_lt i (length given) ≡ true → nat_lt (f (slice_index_or numbers i d)) (length joined) ≡ true
  word_there i d h =
      let s = word_same i d (is_below i (length given) h) in
      below_is (f (slice_index_or numbers i d)) (length joined) (slice_get_within joined (f (slice_index_or numbers i d)) s.word s.there)

  pub base_there : (i : ℕ) → nat_lt i (length base) ≡ true → nat_lt i (length joined) ≡ true
  base_there i h = below_is i (length joined) (subst (λ (l : List (List ℕ)). i < length l) (sym w.begins.1) (more_words base w.begins.0 i (is_below i (length base) h)))
