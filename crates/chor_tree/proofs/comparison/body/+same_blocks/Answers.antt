use Rattle.std.proofs.Common.{◌≡◌, ◌<◌, ℕ, List, ◌∷◌, [], true, false, sym, ap, ◌∙◌, subst, arith}
use Rattle.std.specs.Prelude.{All, ◌&&◌}
use Rattle.std.proofs.lemmas.List.Elements.{All-head, All-tail}
use Rattle.chor_base.specs.declared.rule.Place.{Place}
use Rattle.chor_tree.specs.declared.file.File.{File}
use Rattle.chor_tree.specs.declared.tree.Form.{Form}
use Rattle.chor_tree.specs.declared.tree.Node.{Node}
use Rattle.chor_tree.specs.declared.tree.NodeId.{NodeId}
use Rattle.chor_tree.specs.Children.{children_of}
use Rattle.chor_tree.specs.Source.{blocks_of, block_in, block_of}
use Rattle.chor_tree.specs.Following.{followers}
use Rattle.chor_tree.specs.Forms.{same_heads}
use Rattle.chor_tree.specs.Both.{words_of, texts_of, blocks_same}
use Rattle.chor_tree.proofs.Blocks.{one_follows, two_follow, heads_differ, all_follow, follow_same, none_alone, one_alone, two_alone}
use Rattle.chor_tree.proofs.comparison.body.+same_blocks.Goals as goal

-- those that follow a node come before it
first_below : (n : ℕ) (c : NodeId) (ds cs : List NodeId) → c ∷ ds ≡ cs → All (λ (d : NodeId). d.0 < n) cs → c.0 < n
first_below n c ds cs e a = All-head (λ (d : NodeId). d.0 < n) c ds (subst (All (λ (d : NodeId). d.0 < n)) (sym e) a)

second_below : (n : ℕ) (b c : NodeId) (cs : List NodeId) → b ∷ c ∷ [] ≡ cs → All (λ (d : NodeId). d.0 < n) cs → c.0 < n
second_below n b c cs e a =
    All-head (λ (d : NodeId). d.0 < n) c [] (All-tail (λ (d : NodeId). d.0 < n) b (c ∷ []) (subst (All (λ (d : NodeId). d.0 < n)) (sym e) a))

-- the block of a form is the one at this node
abbrev StandsAt : List Node → NodeId → Form → Type 0
StandsAt nodes i f = (p : Place) × (block_in (blocks_of nodes) i ≡ block_of (blocks_of nodes) p f)

module _ (a b : File) (i j : NodeId) (f g : Form) (at : StandsAt a.tree.nodes i f) (other : StandsAt b.tree.nodes j g) where
  apart_here : same_heads a b f g ≡ false → false ≡ blocks_same a b i j
  apart_here = heads_differ (words_of a b) (texts_of a b) _ _ at.0 other.0 f g _ _ at.1 other.1

  rest_here : (ds es : List NodeId) → same_heads a b f g ≡ true → children_of f ≡ ds → children_of g ≡ es
      → follow_same (words_of a b) (texts_of a b) (blocks_of a.tree.nodes) (blocks_of b.tree.nodes) ds es ≡ blocks_same a b i j
  rest_here ds es = all_follow (words_of a b) (texts_of a b) _ _ at.0 other.0 f g _ _ ds es at.1 other.1

pub body-preserved-in-One-this : goal.body-preserved-in-One-this
body-preserved-in-One-this t c =
    let a = c.args.left.now in
    let b = c.args.right.now in
    let form = c.form_at-form.result.now in
    let other_form = c.form_at-other_form.result.now in
    let here : children_of form ≡ c.in-One-One.next ∷ [] = sym c.in-One-One.ensures in
    let there : children_of other_form ≡ c.in-One-One.other_next ∷ [] = sym c.in-One-One.ensures' in
    let below = first_below c.body.node.0 c.in-One-One.next [] _ c.in-One-One.ensures c.form_at-form.ensures.below in
    let other_below = first_below c.body.other_node.0 c.in-One-One.other_next [] _ c.in-One-One.ensures' c.form_at-other_form.ensures.below in
    let same : same_heads a b form other_form ≡ true = sym c.same_heads.ensures ∙ c.if-not-same_heads.false in
    let block = c.form_at-form.ensures.block in
    let other_block = c.form_at-other_form.ensures.block in
    let follows = one_follows (words_of a b) (texts_of a b) (blocks_of a.tree.nodes) (blocks_of b.tree.nodes) block.0 other_block.0 form other_form
    (block_in (blocks_of a.tree.nodes) c.body.node) (block_in (blocks_of b.tree.nodes) c.body.other_node)
    c.in-One-One.next c.in-One-One.other_next block.1 other_block.1 same here there in
    (omega (arith, below, c.body.invariant.0), omega (arith, other_below, c.body.invariant.1), omega (arith, below, c.body.invariant.2), follows ∙ c.body.invariant.3)

pub body-preserved : goal.body-preserved
body-preserved t c =
    let a = c.args.left.now in
    let b = c.args.right.now in
    let form = c.form_at-form.result.now in
    let other_form = c.form_at-other_form.result.now in
    let first = c.in-Either-Either.first in
    let second = c.in-Either-Either.second in
    let other_first = c.in-Either-Either.other_first in
    let other_second = c.in-Either-Either.other_second in
    let here : children_of form ≡ first ∷ second ∷ [] = sym c.in-Either-Either.ensures in
    let there : children_of other_form ≡ other_first ∷ other_second ∷ [] = sym c.in-Either-Either.ensures' in
    let below = second_below c.body.node.0 first second _ c.in-Either-Either.ensures c.form_at-form.ensures.below in
    let other_below = second_below c.body.other_node.0 other_first other_second _ c.in-Either-Either.ensures' c.form_at-other_form.ensures.below in
    let same : same_heads a b form other_form ≡ true = sym c.same_heads.ensures ∙ c.if-not-same_heads.false in
    let block = c.form_at-form.ensures.block in
    let other_block = c.form_at-other_form.ensures.block in
    let follows = two_follow (words_of a b) (texts_of a b) (blocks_of a.tree.nodes) (blocks_of b.tree.nodes) block.0 other_block.0 form other_form
    (block_in (blocks_of a.tree.nodes) c.body.node) (block_in (blocks_of b.tree.nodes) c.body.other_node)
    first second other_first other_second block.1 other_block.1 same here there (sym c.same_blocks.ensures ∙ c.if-not-same_blocks.false) in
    (omega (arith, below, c.body.invariant.0), omega (arith, other_below, c.body.invariant.1), omega (arith, below, c.body.invariant.2), follows ∙ c.body.invariant.3)

pub returns-then-not-same_heads : goal.returns-then-not-same_heads
returns-then-not-same_heads t c =
    apart_here c.args.left.now c.args.right.now c.body.node c.body.other_node _ _ c.form_at-form.ensures.block c.form_at-other_form.ensures.block
    (sym c.same_heads.ensures ∙ c.if-not-same_heads.true) ∙ c.body.invariant.3

pub returns-in-Nothing-Nothing : goal.returns-in-Nothing-Nothing
returns-in-Nothing-Nothing t c =
    rest_here c.args.left.now c.args.right.now c.body.node c.body.other_node _ _ c.form_at-form.ensures.block c.form_at-other_form.ensures.block
    [] [] (sym c.same_heads.ensures ∙ c.if-not-same_heads.false)
    (sym c.what_follows.ensures ∙ ap followers c.in-Nothing-Nothing.is-0) (sym c.what_follows-in-body.ensures ∙ ap followers c.in-Nothing-Nothing.is-1)
    ∙ c.body.invariant.3

pub returns-then-not-same_blocks : goal.returns-then-not-same_blocks
returns-then-not-same_blocks t c =
    let w = c.in-Either-Either in
    let differ = sym c.same_blocks.ensures ∙ c.if-not-same_blocks.true in
    sym (ap (λ x. x && (blocks_same c.args.left.now c.args.right.now w.second w.other_second && true)) differ)
    ∙ rest_here c.args.left.now c.args.right.now c.body.node c.body.other_node _ _ c.form_at-form.ensures.block c.form_at-other_form.ensures.block
    (w.first ∷ w.second ∷ []) (w.other_first ∷ w.other_second ∷ []) (sym c.same_heads.ensures ∙ c.if-not-same_heads.false)
    (sym w.ensures) (sym w.ensures') ∙ c.body.invariant.3

pub returns-in_default : goal.returns-in_default
returns-in_default t c =
    let a = c.args.left.now in
    let b = c.args.right.now in
    none_alone (words_of a b) (texts_of a b) (blocks_of a.tree.nodes) (blocks_of b.tree.nodes)
    c.what_follows-in-body.result c.in_default.not-Nothing-1
    ∙ rest_here c.args.left.now c.args.right.now c.body.node c.body.other_node _ _ c.form_at-form.ensures.block c.form_at-other_form.ensures.block
    [] (followers c.what_follows-in-body.result) (sym c.same_heads.ensures ∙ c.if-not-same_heads.false)
    (sym c.what_follows.ensures ∙ ap followers c.in_default.is-0) (sym c.what_follows-in-body.ensures) ∙ c.body.invariant.3

pub returns-in_default-2 : goal.returns-in_default-2
returns-in_default-2 t c =
    let a = c.args.left.now in
    let b = c.args.right.now in
    one_alone (words_of a b) (texts_of a b) (blocks_of a.tree.nodes) (blocks_of b.tree.nodes) c.in_default.field-0-0
    c.what_follows-in-body.result c.in_default.not-One-1
    ∙ rest_here c.args.left.now c.args.right.now c.body.node c.body.other_node _ _ c.form_at-form.ensures.block c.form_at-other_form.ensures.block
    (c.in_default.field-0-0 ∷ []) (followers c.what_follows-in-body.result) (sym c.same_heads.ensures ∙ c.if-not-same_heads.false)
    (sym c.in_default.ensures) (sym c.what_follows-in-body.ensures) ∙ c.body.invariant.3

pub returns-in_default-3 : goal.returns-in_default-3
returns-in_default-3 t c =
    let a = c.args.left.now in
    let b = c.args.right.now in
    two_alone (words_of a b) (texts_of a b) (blocks_of a.tree.nodes) (blocks_of b.tree.nodes) c.in_default.field-0-0 c.in_default.field-1-0
    c.what_follows-in-body.result c.in_default.not-Either-1
    ∙ rest_here c.args.left.now c.args.right.now c.body.node c.body.other_node _ _ c.form_at-form.ensures.block c.form_at-other_form.ensures.block
    (c.in_default.field-0-0 ∷ c.in_default.field-1-0 ∷ []) (followers c.what_follows-in-body.result) (sym c.same_heads.ensures ∙ c.if-not-same_heads.false)
    (sym c.in_default.ensures) (sym c.what_follows-in-body.ensures) ∙ c.body.invariant.3

pub body-smaller-in-One-this : goal.body-smaller-in-One-this
body-smaller-in-One-this t c = first_below c.body.node.0 c.in-One-One.next [] _ c.in-One-One.ensures c.form_at-form.ensures.below

pub body-smaller : goal.body-smaller
body-smaller t c = second_below c.body.node.0 c.in-Either-Either.first c.in-Either-Either.second _ c.in-Either-Either.ensures c.form_at-form.ensures.below

pub same_blocks-requires : goal.same_blocks-requires
same_blocks-requires t c =
    let w = c.in-Either-Either in
    let before = first_below c.body.node.0 w.first (w.second ∷ []) _ w.ensures c.form_at-form.ensures.below in
    let other_before = first_below c.body.other_node.0 w.other_first (w.other_second ∷ []) _ w.ensures' c.form_at-other_form.ensures.below in
    (omega (arith, before, c.body.invariant.2, c.decreases), (omega (arith, before, c.body.invariant.0), omega (arith, other_before, c.body.invariant.1)))
