-- How the text of a node's code is made of the texts of those that follow it.
use Rattle.std.proofs.Common.{◌≡◌, ℕ, ◌+◌, ◌<◌, List, [], ◌∷◌, ◌++◌, map, Some, refl, sym, ap, subst, ◌∙◌, arith, codes}
use Rattle.std.specs.Prelude.{All}
use Rattle.std.specs.List.{flat_map}
use Rattle.std.proofs.lemmas.List.Elements.{All-nil, All-cons, All-head, All-tail}
use Rattle.chor_base.specs.declared.names.NameId.{NameId}
use Rattle.chor_base.specs.declared.expr.Expr.{Expr}
use Rattle.endpoint_code.specs.declared.code.CodeId.{CodeId}
use Rattle.endpoint_code.specs.declared.code.CodeNode.{CodeNode}
use Rattle.endpoint_code.specs.declared.code.CodeNode.TheVariants.{Join, Send, Recv, Pick, Branch, Throw, Catch, Set, Show, Host, If, Call, End}
use Rattle.endpoint_code.specs.declared.endpoints.Endpoints.{Endpoints}
use Rattle.endpoint_code.specs.Code.{children_of}
use Rattle.endpoint_code.specs.Heads.{head_of, next_of}
use Rattle.endpoint_code.specs.Trees.{CodeTree, tree_in, arms_in, node_tree, trees_of}
use Rattle.endpoint_code.proofs.Sizes.{size}
use Rattle.endpoint_text.specs.Ascending.{ascending}
use Rattle.endpoint_text.specs.Places.{label_in}
use Rattle.endpoint_text.specs.Text.{name_text, spaced, code_text, arms_of, arm_text}
use Rattle.endpoint_text.specs.Parts.{head_text, node_arm}
use Rattle.endpoint_text.proofs.Ascents.{map_ascending, all_ascending}

-- ---- actions

module _ (ts : List CodeTree) where
  pub text_on : (e : Endpoints) (n : CodeNode) (next : CodeId) → next_of n ≡ Some next → code_text e (node_tree ts n) ≡ head_text e (head_of n) ++ codes "; " ++ code_text e (tree_in ts next)
  text_on e (Join c r k m) next h = cc
  text_on e (Send k b x m) next h = cc
  text_on e (Recv k a x m) next h = cc
  text_on e (Pick k b l m) next h = cc
  text_on e (Throw k b g m) next h = cc
  text_on e (Catch k a g m) next h = cc
  text_on e (Set x t m) next h = cc
  text_on e (Show t m) next h = cc
  text_on e (Host x f l r m) next h = cc
  text_on e (Branch k a arms) next h = absurd cc
  text_on e (If t first second) next h = absurd cc
  text_on e (Call f p ss) next h = absurd cc
  text_on e End next h = absurd cc

  pub size_on : (n : CodeNode) (next : CodeId) → next_of n ≡ Some next → size (node_tree ts n) ≡ size (tree_in ts next) + 1
  size_on (Join c r k m) next h = cc
  size_on (Send k b x m) next h = cc
  size_on (Recv k a x m) next h = cc
  size_on (Pick k b l m) next h = cc
  size_on (Throw k b g m) next h = cc
  size_on (Catch k a g m) next h = cc
  size_on (Set x t m) next h = cc
  size_on (Show t m) next h = cc
  size_on (Host x f l r m) next h = cc
  size_on (Branch k a arms) next h = absurd cc
  size_on (If t first second) next h = absurd cc
  size_on (Call f p ss) next h = absurd cc
  size_on End next h = absurd cc

-- all stand below i
abbrev pub Below : ℕ → List CodeId → Type 0
Below i cs = All (λ c. c.0 < i) cs

module _ (i : ℕ) where
  one_below : (c d : CodeId) → Some c ≡ Some d → Below i (c ∷ []) → d.0 < i
  one_below c d h b = let here = All-head (λ c. c.0 < i) c [] b in let same : c ≡ d = cc in subst (λ (x : CodeId). x.0 < i) same here

  pub below_on : (n : CodeNode) (next : CodeId) → next_of n ≡ Some next → Below i (children_of n) → next.0 < i
  below_on (Join c r k m) next h b = one_below m next h b
  below_on (Send k g x m) next h b = one_below m next h b
  below_on (Recv k a x m) next h b = one_below m next h b
  below_on (Pick k g l m) next h b = one_below m next h b
  below_on (Throw k t g m) next h b = one_below m next h b
  below_on (Catch k a g m) next h b = one_below m next h b
  below_on (Set x t m) next h b = one_below m next h b
  below_on (Show t m) next h b = one_below m next h b
  below_on (Host x f l r m) next h b = one_below m next h b
  below_on (Branch k a arms) next h b = absurd cc
  below_on (If t first second) next h b = absurd cc
  below_on (Call f p ss) next h b = absurd cc
  below_on End next h b = absurd cc

  pub below_more : (j : ℕ) (cs : List CodeId) → j < i → Below j cs → Below i cs
  below_more j [] lt b = All-nil (λ c. c.0 < i)
  below_more j (c ∷ cs) lt b =
      let here : c.0 < j = All-head (λ c. c.0 < j) c cs b in
      All-cons (λ c. c.0 < i) c cs (omega arith) (below_more j cs lt (All-tail (λ c. c.0 < j) c cs b))

  -- ---- conditionals and branches

  pub if_below : {t : Expr} {first second : CodeId} (n : CodeNode) → n ≡ If t first second → Below i (children_of n) → (first.0 < i) × (second.0 < i)
  if_below {t} {first} {second} n h b =
      let both : Below i (first ∷ second ∷ []) = subst (λ (m : CodeNode). Below i (children_of m)) h b in
      (All-head (λ c. c.0 < i) first (second ∷ []) both, All-head (λ c. c.0 < i) second [] (All-tail (λ c. c.0 < i) first (second ∷ []) both))

  arms_below : (arms : List (NameId × CodeId)) → Below i (map (λ arm. arm.1) arms) → All (λ arm. arm.1.0 < i) arms
  arms_below [] b = All-nil (λ (arm : NameId × CodeId). arm.1.0 < i)
  arms_below (arm ∷ arms) b =
      let cs = map (λ (a : NameId × CodeId). a.1) arms in
      All-cons (λ (a : NameId × CodeId). a.1.0 < i) arm arms (All-head (λ c. c.0 < i) arm.1 cs b) (arms_below arms (All-tail (λ c. c.0 < i) arm.1 cs b))

  pub branch_below : {k a : NameId} {arms : List (NameId × CodeId)} (n : CodeNode) → n ≡ Branch k a arms → Below i (children_of n) → All (λ arm. arm.1.0 < i) arms
  branch_below {k} {a} {arms} n h b = arms_below arms (subst (λ (m : CodeNode). Below i (children_of m)) h b)

-- the labels and texts of arms whose codes stand at numbers
abbrev pub image : Endpoints → NameId × CodeId → List ℕ × List ℕ
image e arm = (name_text e arm.0, code_text e (tree_in (trees_of e.code.nodes) arm.1))

images : (e : Endpoints) (arms : List (NameId × CodeId)) → arms_of e (arms_in (trees_of e.code.nodes) arms) ≡ map (image e) arms
images e [] = refl
images e (arm ∷ arms) = ap (λ xs. image e arm ∷ xs) (images e arms)

flat_image : (e : Endpoints) (arms : List (NameId × CodeId)) → flat_map (node_arm e) arms ≡ flat_map arm_text (map (image e) arms)
flat_image e [] = refl
flat_image e (arm ∷ arms) = ap (λ xs. node_arm e arm ++ xs) (flat_image e arms)

-- arms that are sorted and then printed are the printed arms, sorted
pub sorted_arms : (e : Endpoints) (arms : List (NameId × CodeId)) → flat_map (node_arm e) (ascending (label_in e.names) arms) ≡ flat_map arm_text (ascending (λ arm. arm.0) (arms_of e (arms_in (trees_of e.code.nodes) arms)))
sorted_arms e arms =
    flat_image e (ascending (label_in e.names) arms)
    ∙ ap (flat_map arm_text) (map_ascending (label_in e.names) (λ arm. arm.0) (image e) (λ arm. refl) arms ∙ ap (ascending (λ arm. arm.0)) (sym (images e arms)))

-- a branch whose arms were sorted
pub branch_text : (e : Endpoints) (n : CodeNode) {k a : NameId} {arms xs ys zs : List (NameId × CodeId)} → n ≡ Branch k a arms → xs ≡ arms → ys ≡ ascending (label_in e.names) xs → zs ≡ ys
    → code_text e (node_tree (trees_of e.code.nodes) n) ≡ codes "branch" ++ spaced e (k ∷ a ∷ []) ++ codes " { " ++ flat_map (node_arm e) zs ++ codes "}"
branch_text e n {k} {a} {arms} {xs} {ys} {zs} h f g i =
    let shown = sorted_arms e arms in
    let sorted : zs ≡ ascending (label_in e.names) arms = i ∙ g ∙ ap (ascending (label_in e.names)) f in
    ap (λ m. code_text e (node_tree (trees_of e.code.nodes) m)) h
    ∙ ap (λ (t : List ℕ). codes "branch" ++ spaced e (k ∷ a ∷ []) ++ codes " { " ++ t ++ codes "}") (sym shown ∙ ap (flat_map (node_arm e)) (sym sorted))

-- sorted arms stand below what all arms stand below
pub sorted_below : (i : ℕ) (e : Endpoints) {arms xs ys zs : List (NameId × CodeId)} → All (λ arm. arm.1.0 < i) arms → xs ≡ arms → ys ≡ ascending (label_in e.names) xs → zs ≡ ys → All (λ arm. arm.1.0 < i) zs
sorted_below i e {arms} {xs} {ys} {zs} b f g h =
    let sorted : zs ≡ ascending (label_in e.names) arms = h ∙ g ∙ ap (ascending (label_in e.names)) f in
    subst (λ (vs : List (NameId × CodeId)). All (λ arm. arm.1.0 < i) vs) (sym sorted) (all_ascending (label_in e.names) (λ arm. arm.1.0 < i) arms b)
