-- The block at a node is made of the blocks at those that follow it.
use Rattle.std.proofs.Common.{◌≡◌, ℕ, ◌<◌, ◌≤◌, Bool, true, false, List, [], ◌∷◌, length, map, refl, sym, ap, ◌∙◌, Some, arith}
use Rattle.std.specs.Prelude.{slice_get, slice_index_or, All, ◌&&◌}
use Rattle.std.proofs.lemmas.List.Elements.{All-head, All-tail}
use Rattle.node_table.proofs.Tables.{tree_at_node, tree_past}
use Rattle.chor_base.specs.declared.names.NameId.{NameId}
use Rattle.chor_base.specs.declared.rule.Place.{Place}
use Rattle.chor_base.specs.Expr.{term_of}
use Rattle.chor_tree.specs.declared.tree.Form.{Form}
use Rattle.chor_tree.specs.declared.tree.Form.TheVariants.{Start, Value, Label, Give, Set, Host, Show, If, Call, End}
use Rattle.chor_tree.specs.declared.tree.Node.{Node}
use Rattle.chor_tree.specs.declared.tree.NodeId.{NodeId}
use Rattle.chor_tree.specs.declared.walks.Following.{Following}
use Rattle.chor_tree.specs.declared.walks.Following.TheVariants.{Nothing, One, Either as Two}
use Rattle.chor_tree.specs.Children.{children_of, IsClosed}
use Rattle.chor_tree.specs.Following.{followers}
use Rattle.chor_tree.specs.Source.{procedure_of, Starts, Sends, Selects, Gives, Sets, Asks, Shows, Block, Then, Either, Calls, Ends, nowhere, block_in, block_of, node_block, blocks_of, tails_of}
use Rattle.chor_tree.specs.declared.file.Proc.{Proc}
use Rattle.chor_tree.specs.declared.file.File.{File}
use Rattle.chor_tree.specs.Both.{words_of, texts_of, procedure_same}
use Rattle.chor_tree.specs.Same.{Same, all_same, same_procedure, same_named, same_term, same_statement, same_block}
use Rattle.chor_tree.specs.Forms.{head_of}

-- all of these children come before i
abbrev Before : ℕ → List NodeId → Type 0
Before i cs = All (λ c. c.0 < i) cs

module _ (bs us : List Block) (i : ℕ) (h : (j : ℕ) → j < i → slice_index_or us j (Ends nowhere) ≡ slice_index_or bs j (Ends nowhere)) where
  at_head : (c : NodeId) (cs : List NodeId) → Before i (c ∷ cs) → block_in us c ≡ block_in bs c
  at_head c cs a = h c.0 (All-head (λ d. d.0 < i) c cs a)

  -- a form's block depends on the blocks of those before it alone
  form_same : (p : Place) (f : Form) → Before i (children_of f) → block_of us p f ≡ block_of bs p f
  form_same p (Start c k active serve next) a = ap (Then p (Starts c k active serve)) (at_head next [] a)
  form_same p (Value from e to x k next) a = ap (Then p (Sends from (term_of e) to x k)) (at_head next [] a)
  form_same p (Label from to k l next) a = ap (Then p (Selects from to k l)) (at_head next [] a)
  form_same p (Give from to k given next) a = ap (Then p (Gives from to k given)) (at_head next [] a)
  form_same p (Set q x e next) a = ap (Then p (Sets q x (term_of e))) (at_head next [] a)
  form_same p (Host q x f l r next) a = ap (Then p (Asks q x f (term_of l) (term_of r))) (at_head next [] a)
  form_same p (Show q e next) a = ap (Then p (Shows q (term_of e))) (at_head next [] a)
  form_same p (If q e first second) a =
      λ j. Either p q (term_of e) (at_head first (second ∷ []) a j) (at_head second [] (All-tail (λ d. d.0 < i) first (second ∷ []) a) j)
  form_same p (Call f ps ss) a = refl
  form_same p End a = refl

pub block_at : (nodes : List Node) (id : NodeId) (n : Node) → IsClosed nodes → slice_get nodes id.0 ≡ Some n → block_in (blocks_of nodes) id ≡ block_of (blocks_of nodes) n.place n.form
block_at nodes id n closed h =
    tree_at_node node_block (Ends nowhere) (λ i m. Before i (children_of m.form)) (λ bs us i old m. form_same bs us i old m.place m.form) nodes id.0 n closed h

-- no block where no node is
pub block_past : (nodes : List Node) (id : NodeId) → length nodes ≤ id.0 → block_in (blocks_of nodes) id ≡ Ends nowhere
block_past nodes id h = tree_past node_block (Ends nowhere) nodes id.0 h

-- ---- a block, and what follows its first statement

-- the block in which nothing follows it
abbrev alone : Block → Block
alone (Then p s next) = Then nowhere s (Ends nowhere)
alone (Either p q e first second) = Either nowhere q e (Ends nowhere) (Ends nowhere)
alone (Calls p g ps ks) = Calls nowhere g ps ks
alone (Ends p) = Ends nowhere

pub tails_same : (bs : List Block) (p : Place) (f : Form) → tails_of (block_of bs p f) ≡ map (block_in bs) (children_of f)
tails_same bs p (Start c k active serve next) = refl
tails_same bs p (Value from e to x k next) = refl
tails_same bs p (Label from to k l next) = refl
tails_same bs p (Give from to k given next) = refl
tails_same bs p (Set q x e next) = refl
tails_same bs p (Host q x f l r next) = refl
tails_same bs p (Show q e next) = refl
tails_same bs p (If q e first second) = refl
tails_same bs p (Call f ps ss) = refl
tails_same bs p End = refl

alone_same : (bs : List Block) (p : Place) (f : Form) → alone (block_of bs p f) ≡ head_of f
alone_same bs p (Start c k active serve next) = refl
alone_same bs p (Value from e to x k next) = refl
alone_same bs p (Label from to k l next) = refl
alone_same bs p (Give from to k given next) = refl
alone_same bs p (Set q x e next) = refl
alone_same bs p (Host q x f l r next) = refl
alone_same bs p (Show q e next) = refl
alone_same bs p (If q e first second) = refl
alone_same bs p (Call f ps ss) = refl
alone_same bs p End = refl

-- ---- two blocks are the same where their first statements are, and what follows these

with_one : (a b : Bool) → (a && b) ≡ ((a && true) && (b && true))
with_one true true = refl
with_one true false = refl
with_one false b = refl

with_two : (x e a b : Bool) → (((x && e) && a) && b) ≡ ((((x && e) && true) && true) && (a && (b && true)))
with_two true true true true = refl
with_two true true true false = refl
with_two true true false b = refl
with_two true false a b = refl
with_two false e a b = refl

with_none : (a : Bool) → a ≡ (a && true)
with_none true = refl
with_none false = refl

none_with : (a : Bool) → false ≡ (a && false)
none_with true = refl
none_with false = refl

module _ (n : Same NameId) (t : Same ℕ) where
  blocks_same : (b c : Block) → same_block n t b c ≡ (same_block n t (alone b) (alone c) && all_same (same_block n t) (tails_of b) (tails_of c))
  blocks_same (Then p s b) (Then q r c) = with_one (same_statement n t s r) (same_block n t b c)
  blocks_same (Then p s b) (Either q y f c d) = refl
  blocks_same (Then p s b) (Calls q h rs ls) = refl
  blocks_same (Then p s b) (Ends q) = refl
  blocks_same (Either p x e a b) (Then q r c) = refl
  blocks_same (Either p x e a b) (Either q y f c d) = with_two (same_named n x y) (same_term n t e f) (same_block n t a c) (same_block n t b d)
  blocks_same (Either p x e a b) (Calls q h rs ls) = refl
  blocks_same (Either p x e a b) (Ends q) = refl
  blocks_same (Calls p g ps ks) (Then q r c) = refl
  blocks_same (Calls p g ps ks) (Either q y f c d) = refl
  blocks_same (Calls p g ps ks) (Calls q h rs ls) = with_none (same_block n t (Calls p g ps ks) (Calls q h rs ls))
  blocks_same (Calls p g ps ks) (Ends q) = refl
  blocks_same (Ends p) (Then q r c) = refl
  blocks_same (Ends p) (Either q y f c d) = refl
  blocks_same (Ends p) (Calls q h rs ls) = refl
  blocks_same (Ends p) (Ends q) = refl

  -- the blocks of two nodes are the same where the nodes are, and the blocks of those that follow them
  pub forms_same : (bs cs : List Block) (p q : Place) (f g : Form)
      → same_block n t (block_of bs p f) (block_of cs q g)
      ≡ (same_block n t (head_of f) (head_of g) && all_same (same_block n t) (map (block_in bs) (children_of f)) (map (block_in cs) (children_of g)))
  forms_same bs cs p q f g =
      blocks_same (block_of bs p f) (block_of cs q g)
      ∙ (λ i. same_block n t (alone_same bs p f i) (alone_same cs q g i) && all_same (same_block n t) (tails_same bs p f i) (tails_same cs q g i))

  -- where the nodes differ, the blocks do
  pub heads_differ : (bs cs : List Block) (p q : Place) (f g : Form) (b c : Block)
      → b ≡ block_of bs p f → c ≡ block_of cs q g → same_block n t (head_of f) (head_of g) ≡ false → false ≡ same_block n t b c
  heads_differ bs cs p q f g b c e h differ =
      sym ((λ i. same_block n t (e i) (h i)) ∙ forms_same bs cs p q f g
      ∙ (λ i. differ i && all_same (same_block n t) (map (block_in bs) (children_of f)) (map (block_in cs) (children_of g))))

  -- where they are the same, the blocks are the same if those of what follows are
  pub all_follow : (bs cs : List Block) (p q : Place) (f g : Form) (b c : Block) (ds es : List NodeId)
      → b ≡ block_of bs p f → c ≡ block_of cs q g → same_block n t (head_of f) (head_of g) ≡ true → children_of f ≡ ds → children_of g ≡ es
      → all_same (same_block n t) (map (block_in bs) ds) (map (block_in cs) es) ≡ same_block n t b c
  all_follow bs cs p q f g b c ds es e h same k l =
      sym ((λ i. same_block n t (e i) (h i)) ∙ forms_same bs cs p q f g
      ∙ (λ i. same i && all_same (same_block n t) (map (block_in bs) (k i)) (map (block_in cs) (l i))))

  module _ (bs cs : List Block) where
    -- what follows two nodes is the same
    abbrev pub follow_same : List NodeId → List NodeId → Bool
    follow_same ds es = all_same (same_block n t) (map (block_in bs) ds) (map (block_in cs) es)

    pub none_alone : (y : Following) → (y ≡ Nothing → ⊥) → false ≡ follow_same [] (followers y)
    none_alone Nothing h = absurd (h refl)
    none_alone (One e) h = refl
    none_alone (Two e d) h = refl

    pub one_alone : (c : NodeId) (y : Following) → ((e : NodeId) → y ≡ One e → ⊥) → false ≡ follow_same (c ∷ []) (followers y)
    one_alone c Nothing h = refl
    one_alone c (One e) h = absurd (h e refl)
    one_alone c (Two e d) h = none_with (same_block n t (block_in bs c) (block_in cs e))

    pub two_alone : (c d : NodeId) (y : Following) → ((e k : NodeId) → y ≡ Two e k → ⊥) → false ≡ follow_same (c ∷ d ∷ []) (followers y)
    two_alone c d Nothing h = refl
    two_alone c d (One e) h = none_with (same_block n t (block_in bs c) (block_in cs e))
    two_alone c d (Two e k) h = absurd (h e k refl)

  -- where one node follows each of two that are the same
  pub one_follows : (bs cs : List Block) (p q : Place) (f g : Form) (b c : Block) (next other : NodeId)
      → b ≡ block_of bs p f → c ≡ block_of cs q g → same_block n t (head_of f) (head_of g) ≡ true → children_of f ≡ next ∷ [] → children_of g ≡ other ∷ []
      → same_block n t (block_in bs next) (block_in cs other) ≡ same_block n t b c
  one_follows bs cs p q f g b c next other e h same k l =
      sym ((λ i. same_block n t (e i) (h i)) ∙ forms_same bs cs p q f g
      ∙ (λ i. same i && all_same (same_block n t) (map (block_in bs) (k i)) (map (block_in cs) (l i))) ∙ only (same_block n t (block_in bs next) (block_in cs other)))
    where
      only : (a : Bool) → (true && (a && true)) ≡ a
      only true = refl
      only false = refl

  -- where two follow each, and the blocks of the first ones are the same
  pub two_follow : (bs cs : List Block) (p q : Place) (f g : Form) (b c : Block) (first second other more : NodeId)
      → b ≡ block_of bs p f → c ≡ block_of cs q g → same_block n t (head_of f) (head_of g) ≡ true
      → children_of f ≡ first ∷ second ∷ [] → children_of g ≡ other ∷ more ∷ [] → same_block n t (block_in bs first) (block_in cs other) ≡ true
      → same_block n t (block_in bs second) (block_in cs more) ≡ same_block n t b c
  two_follow bs cs p q f g b c first second other more e h same k l m =
      sym ((λ i. same_block n t (e i) (h i)) ∙ forms_same bs cs p q f g
      ∙ (λ i. same i && all_same (same_block n t) (map (block_in bs) (k i)) (map (block_in cs) (l i)))
      ∙ (λ i. true && (m i && (same_block n t (block_in bs second) (block_in cs more) && true))) ∙ only (same_block n t (block_in bs second) (block_in cs more)))
    where
      only : (a : Bool) → (true && (true && (a && true))) ≡ a
      only true = refl
      only false = refl

-- ---- procedures are the same where they are as parts of the sources

pub procedures_same : (a b : File) (ps qs : List Proc)
    → all_same (procedure_same a b) ps qs ≡ all_same (same_procedure (words_of a b) (texts_of a b)) (map (procedure_of a.tree.nodes) ps) (map (procedure_of b.tree.nodes) qs)
procedures_same a b [] [] = refl
procedures_same a b [] (q ∷ qs) = refl
procedures_same a b (p ∷ ps) [] = refl
procedures_same a b (p ∷ ps) (q ∷ qs) = λ i. procedure_same a b p q && procedures_same a b ps qs i

-- ---- lists are the same where their first items are, and those that follow

pub rest_same : {A : Type 0} (p : Same A) (x y : A) (xs ys zs ws : List A) → zs ≡ x ∷ xs → ws ≡ y ∷ ys → p x y ≡ true → all_same p xs ys ≡ all_same p zs ws
rest_same p x y xs ys zs ws e h same = sym ((λ i. all_same p (e i) (h i)) ∙ (λ i. same i && all_same p xs ys))

-- they aren't where the first items aren't, or where one list ends first

pub first_apart : {A : Type 0} (p : Same A) (x y : A) (xs ys zs ws : List A) → zs ≡ x ∷ xs → ws ≡ y ∷ ys → p x y ≡ false → false ≡ all_same p zs ws
first_apart p x y xs ys zs ws e h differ = sym ((λ i. all_same p (e i) (h i)) ∙ (λ i. differ i && all_same p xs ys))

pub ends_first : {A : Type 0} (p : Same A) (x : A) (xs zs ws : List A) → zs ≡ x ∷ xs → length ws ≡ 0 → false ≡ all_same p zs ws
ends_first p x xs zs [] e h = sym (λ i. all_same p (e i) [])
ends_first p x xs zs (w ∷ ws) e h = absurd (omega (arith, h))
