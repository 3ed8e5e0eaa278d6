-- The first fault of a body, node by node.
use Rattle.std.proofs.Common.{◌≡◌, List, refl, sym, ap, ◌∙◌, subst, Some, None, Option, false}
use Rattle.std.specs.Prelude.{Contains, slice_get, is_some, true}
use Rattle.chor_base.specs.declared.rule.Rule.{Rule}
use Rattle.chor_base.specs.declared.rule.Place.{Place}
use Rattle.chor_base.specs.declared.fault.Fault.{Fault}
use Rattle.chor_base.specs.Faults.{IsFirst, earlier, fault, comes_before}
use Rattle.chor_base.proofs.Faults.{first_along, before_itself}
use Rattle.chor_tree.specs.declared.file.File.{File}
use Rattle.chor_tree.specs.declared.tree.NodeId.{NodeId}
use Rattle.chor_tree.specs.declared.tree.Node.{Node as TreeNode}
use Rattle.chor_tree.specs.declared.tree.Form.{Form}
use Rattle.chor_tree.specs.declared.tree.Form.TheVariants.{Start, Value, Label, Give, Set, Host, Show, If, Call, End}
use Rattle.chor_tree.specs.Children.{children_of}
use Rattle.chor_tree.specs.Forms.{head_of}
use Rattle.chor_tree.specs.Source.{Block, place_of, tails_of, block_in, block_of, blocks_of, body_of}
use Rattle.chor_tree.proofs.Blocks.{tails_same}
use Rattle.chor_tree.proofs.Nodes.{place_same, block_is}
use Rattle.typing_rules.specs.Environment.{Environment}
use Rattle.typing_rules.specs.Checks.{rule_at}
use Rattle.typing_rules.specs.After.{after}
use Rattle.typing_rules.specs.TypeFaults.{IsBodyFault, here, further}
use Rattle.type_check.specs.NodeFaults.{fault_in}
use Rattle.type_check.proofs.Turns.{map_contains, contains_map, no_rule, some_rule, IsFaultAfter, Rest}

-- ---- the block at a node begins with the node's statement or tail

module _ (f : File) (e : Environment) (bs : List Block) (p : Place) where
  rule_same : (n : Form) → rule_at f e (block_of bs p n) ≡ rule_at f e (head_of n)
  rule_same (Start c k active serve next) = refl
  rule_same (Value a x b y k next) = refl
  rule_same (Label a b k l next) = refl
  rule_same (Give a b k given next) = refl
  rule_same (Set q y x next) = refl
  rule_same (Host q y g x z next) = refl
  rule_same (Show q x next) = refl
  rule_same (If q x first second) = refl
  rule_same (Call g ps ks) = refl
  rule_same End = refl

  after_same : (n : Form) → after f e (block_of bs p n) ≡ after f e (head_of n)
  after_same (Start c k active serve next) = refl
  after_same (Value a x b y k next) = refl
  after_same (Label a b k l next) = refl
  after_same (Give a b k given next) = refl
  after_same (Set q y x next) = refl
  after_same (Host q y g x z next) = refl
  after_same (Show q x next) = refl
  after_same (If q x first second) = refl
  after_same (Call g ps ks) = refl
  after_same End = refl

-- ---- a block

-- a fault of a block that violates no rule at its beginning is one of a block that follows
abbrev IsFurther : File → Fault → Environment → Block → Type 0
IsFurther f x e b = (next : Block) × Contains (tails_of b) next × IsBodyFault f x (after f e b) next

goes_further : (f : File) (x : Fault) (e : Environment) (b : Block) → rule_at f e b ≡ None → IsBodyFault f x e b → IsFurther f x e b
goes_further f x e b none (here is at) = absurd (clash (rule_at f e b) none is)
  where
    clash : (o : Option Rule) → o ≡ None → o ≡ Some x.rule → ⊥
    clash o i j = cc
goes_further f x e b none (further {next = next} w m h) = (next, m, h)

-- where a rule is violated at its beginning that is the block's one fault
only_here : (f : File) (x : Fault) (e : Environment) (b : Block) (r : Rule) → rule_at f e b ≡ Some r → IsBodyFault f x e b → fault r (place_of b) ≡ x
only_here f x e b r some (here is at) = λ i. record { rule = rule_is (rule_at f e b) some is i; place = at i }
  where
    rule_is : (o : Option Rule) → o ≡ Some r → o ≡ Some x.rule → r ≡ x.rule
    rule_is o i j = cc
only_here f x e b r some (further w m h) = absurd (clash (rule_at f e b) some w)
  where
    clash : (o : Option Rule) → o ≡ Some r → o ≡ None → ⊥
    clash o i j = cc

module _ (f : File) where
  -- a fault of the body that begins at a node
  abbrev pub IsFaultAt : Environment → NodeId → Fault → Type 0
  IsFaultAt e id x = IsBodyFault f x e (body_of f id)

  -- ---- a node

  module _ (e : Environment) (id : NodeId) (n : TreeNode) (at : slice_get f.tree.nodes id.0 ≡ Some n) where
    abbrev block : Block
    block = block_of (blocks_of f.tree.nodes) n.place n.form

    is_block : body_of f id ≡ block
    is_block = block_is f id n at

    -- the fault of a node that violates a rule
    node_at_fault : (r : Rule) → rule_at f e (head_of n.form) ≡ Some r → IsFirst (IsFaultAt e id) (Some (fault r n.place))
    node_at_fault r some =
        let is : rule_at f e block ≡ Some r = rule_same f e (blocks_of f.tree.nodes) n.place n.form ∙ some in
        let place = place_same (blocks_of f.tree.nodes) n.place n.form in (
          subst (λ b. IsBodyFault f (fault r n.place) e b) (sym is_block) (here is place),
          λ y h. let one = only_here f y e block r is (subst (λ b. IsBodyFault f y e b) is_block h) in
              let same : fault r n.place ≡ y = ap (λ p. fault r p) (sym place) ∙ one in
              subst (λ z. comes_before z (fault r n.place) ≡ false) same (before_itself (fault r n.place)),
        )

    -- a node that violates none: what follows it decides
    node_passed : (now : Environment) (o : Option Fault) → rule_at f e (head_of n.form) ≡ None → now ≡ after f e (head_of n.form)
        → IsFirst (IsFaultAfter (IsFaultAt now) (children_of n.form)) o → IsFirst (IsFaultAt e id) o
    node_passed now o none is first =
        let bs = blocks_of f.tree.nodes in
        let rule : rule_at f e block ≡ None = rule_same f e bs n.place n.form ∙ none in
        let then : after f e block ≡ now = after_same f e bs n.place n.form ∙ sym is in
        let tails = tails_same bs n.place n.form in
        first_along (IsFaultAfter (IsFaultAt now) (children_of n.form)) (IsFaultAt e id) o first
        (λ x a. subst (λ b. IsBodyFault f x e b) (sym is_block)
        (further rule (subst (λ l. Contains l (block_in bs a.0)) (sym tails) (map_contains (block_in bs) (children_of n.form) a.0 a.1)) (subst (λ d. IsBodyFault f x d (block_in bs a.0)) (sym then) a.2)))
        (λ x h. let w = goes_further f x e block rule (subst (λ b. IsBodyFault f x e b) is_block h) in
        let c = contains_map (block_in bs) (children_of n.form) w.0 (subst (λ l. Contains l w.0) tails w.1) in
        (c.0, c.1, subst (λ d. IsBodyFault f x d (block_in bs c.0)) then (subst (λ b. IsBodyFault f x (after f e block) b) (sym c.2) w.2)))

  module _ (W : Fault → Type 0) (first : Option Fault) (e : Environment) (id : NodeId) (n : TreeNode) (at : slice_get f.tree.nodes id.0 ≡ Some n) (rest : Rest W first (IsFaultAt e id)) where
    pub walk_stops : (found : Option Fault) → found ≡ fault_in n.place (rule_at f e (head_of n.form)) → is_some found ≡ true → IsFirst W (earlier first found)
    walk_stops found is some =
        let w = some_rule n.place (rule_at f e (head_of n.form)) found is some in
        rest found (subst (λ o. IsFirst (IsFaultAt e id) o) (sym w.2) (node_at_fault e id n at w.0 w.1))

    pub walk_passes : (found : Option Fault) (now : Environment) → found ≡ fault_in n.place (rule_at f e (head_of n.form)) → is_some found ≡ false → now ≡ after f e (head_of n.form)
        → Rest W first (IsFaultAfter (IsFaultAt now) (children_of n.form))
    walk_passes found now is none then o h = rest o (node_passed e id n at now o (no_rule n.place (rule_at f e (head_of n.form)) found is none) then h)
