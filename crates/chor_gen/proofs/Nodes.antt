-- The blocks of a table, and how often each node is a root or a follower, when a node is added.
use Rattle.std.proofs.Common.{◌≡◌, ◌<◌, ◌+◌, ◌==◌, cond, ℕ, Bool, true, List, [], ◌∷◌, ◌++◌, length, ap, refl, sym, ◌∙◌, subst, arith, append_assoc, length-append}
use Rattle.std.specs.Prelude.{All}
use Rattle.std.proofs.lemmas.Bool.{and_from}
use Rattle.std.proofs.lemmas.Bool.Decides.{nat_tests}
use Rattle.std.proofs.lemmas.List.{append-nil}
use Rattle.std.proofs.lemmas.List.Elements.{All-nil, All-cons}
use Rattle.std.proofs.lemmas.List.Folds.{list_all-append}
use Rattle.std.proofs.lemmas.List.Sums.{sum_by-append, sum_by-cons}
use Rattle.std.proofs.lemmas.Grind.{flat_map-append}
use Rattle.chor_base.specs.declared.expr.Expr.{Expr}
use Rattle.chor_base.specs.Expr.{Term, term_of}
use Rattle.chor_tree.specs.declared.file.Named.{Named}
use Rattle.chor_tree.specs.declared.tree.Form.{Form}
use Rattle.chor_tree.specs.declared.tree.Form.TheVariants.{If}
use Rattle.chor_tree.specs.declared.tree.Node.{Node}
use Rattle.chor_tree.specs.declared.tree.NodeId.{NodeId}
use Rattle.chor_tree.specs.Children.{children_of}
use Rattle.chor_tree.specs.Kept.{followers_in, times}
use Rattle.chor_tree.specs.Source.{Statement, Block, Then, Either, Ends, nowhere, block_in, block_of, node_block, blocks_of}
use Rattle.node_table.proofs.Tables.{tree_stays, tree_pushed}
use Rattle.chor_gen.specs.Words.{beginning}
use Rattle.chor_gen.specs.Making.{form_kept, nodes_kept, node_of, Says, below, Adds}

-- ---- blocks

pub block_stays : (old new added : List Node) (id : NodeId) → new ≡ old ++ added → id.0 < length old → block_in (blocks_of new) id ≡ block_in (blocks_of old) id
block_stays old new added id made lt = tree_stays node_block (Ends nowhere) old new added id.0 made lt

block_pushed : (old new : List Node) (n : Node) (id : NodeId) → new ≡ old ++ n ∷ [] → id.0 ≡ length old → block_in (blocks_of new) id ≡ block_of (blocks_of old) n.place n.form
block_pushed old new n id made at = tree_pushed node_block (Ends nowhere) old new n id.0 made at

-- ---- counts

abbrev pub one_if : Bool → ℕ
one_if b = cond b 1 0

pub times_append : (id : NodeId) (xs ys : List NodeId) → times id (xs ++ ys) ≡ times id xs + times id ys
times_append id xs ys = sum_by-append (λ (c : NodeId). cond (c.0 == id.0) 1 0) xs ys

pub times_first : (id c : NodeId) (xs : List NodeId) → times id (c ∷ xs) ≡ one_if (c.0 == id.0) + times id xs
times_first id c xs = sum_by-cons (λ (x : NodeId). cond (x.0 == id.0) 1 0) c xs

pub followers_append : (xs ys : List Node) → followers_in (xs ++ ys) ≡ followers_in xs ++ followers_in ys
followers_append xs ys = flat_map-append (λ (o : Node). children_of o.form) xs ys

-- a node, and those that follow it
node_counts : (id root : NodeId) (added : List Node) (n : Node) → times id (root ∷ followers_in (added ++ n ∷ [])) ≡ one_if (root.0 == id.0) + (times id (followers_in added) + times id (children_of n.form))
node_counts id root added n =
    let e = ap (times id) (followers_append added (n ∷ []) ∙ ap (λ (l : List NodeId). followers_in added ++ l) (append-nil (children_of n.form))) in
    omega (arith, e, times_first id root (followers_in (added ++ n ∷ [])), times_append id (followers_in added) (children_of n.form))

below_next : (id root : NodeId) (k : ℕ) → root.0 ≡ k → below id (k + 1) ≡ one_if (root.0 == id.0) + below id k
below_next id root k e = grind (arith, nat_tests)

-- ---- a node after those that follow it

adds_node : {names : List (List ℕ)} {a b c : List Node} {id : NodeId} {blk : Block} (added : List Node) (n : Node) → b ≡ a ++ added → nodes_kept names added ≡ true
    → ((i : NodeId) → (times i (followers_in added) + times i (children_of n.form)) + below i (length a) ≡ below i (length b))
    → block_of (blocks_of b) n.place n.form ≡ blk → form_kept names n.form ≡ true → c ≡ b ++ n ∷ [] → id.0 ≡ length b → Adds names a c id blk
adds_node {names} {a} {b} {c} {id} {blk} added n parts kept once is good made at =
    let longer : length c ≡ length b + 1 = ap length made ∙ length-append b (n ∷ []) in
    record {
      added = added ++ n ∷ [];
      parts = made ∙ ap (λ (l : List Node). l ++ n ∷ []) parts ∙ append_assoc a added (n ∷ []);
      there = omega arith;
      block = block_pushed b c n id made at ∙ is;
      kept = list_all-append (λ (o : Node). form_kept names o.form) added (n ∷ []) ∙ and_from _ _ kept (and_from _ _ good refl);
      once = λ i. omega (arith, node_counts i id added n, once i, below_next i id (length b) at, ap (below i) longer);
    }

-- a tail
pub adds_tail : {names : List (List ℕ)} {a c : List Node} {id : NodeId} {blk : Block} (n : Node) → children_of n.form ≡ [] → block_of (blocks_of a) n.place n.form ≡ blk → form_kept names n.form ≡ true → c ≡ a ++ n ∷ [] → id.0 ≡ length a → Adds names a c id blk
adds_tail {a = a} n none is good made at = adds_node [] n (sym (append-nil a)) refl (λ i. omega (arith, ap (times i) none)) is good made at

-- a statement
pub adds_line : {names : List (List ℕ)} {a b c : List Node} {next id : NodeId} {s : Statement} {f : Form} {blk : Block} → Adds names a b next blk → Says names f s next → c ≡ b ++ node_of f ∷ [] → id.0 ≡ length b → Adds names a c id (Then beginning s blk)
adds_line {b = b} {next = next} {s = s} {f = f} d says made at =
    adds_node d.added (node_of f) d.parts d.kept
    (λ i. omega (arith, d.once i, times_first i next (followers_in d.added), ap (times i) says.follows, times_first i next []))
    (says.block (blocks_of b) ∙ ap (λ (x : Block). Then beginning s x) d.block) says.kept made at

-- a conditional
pub adds_branch : {names : List (List ℕ)} {a b c d : List Node} {first second id : NodeId} {q p : Named} (e : Expr) {t : Term} {x y : Block} → Adds names a b first x → Adds names b c second y → q ≡ p → term_of e ≡ t
    → form_kept names (If q e first second) ≡ true → d ≡ c ++ node_of (If q e first second) ∷ [] → id.0 ≡ length c → Adds names a d id (Either beginning p t x y)
adds_branch {names} {a} {b} {c} {d} {first} {second} {id} {q} {p} e {t} {x} {y} f g same term good made at =
    let stays : block_in (blocks_of c) first ≡ x = block_stays b c g.added first g.parts f.there ∙ f.block in
    adds_node (f.added ++ g.added) (node_of (If q e first second))
    (g.parts ∙ ap (λ (l : List Node). l ++ g.added) f.parts ∙ append_assoc a f.added g.added)
    (list_all-append (λ (o : Node). form_kept names o.form) f.added g.added ∙ and_from _ _ f.kept g.kept)
    (λ i. once i)
    (λ i. Either beginning (same i) (term i) (stays i) (g.block i)) good made at
  where
    once : (i : NodeId) → (times i (followers_in (f.added ++ g.added)) + times i (first ∷ second ∷ [])) + below i (length a) ≡ below i (length c)
    once i = omega (arith, ap (times i) (followers_append f.added g.added), times_append i (followers_in f.added) (followers_in g.added), f.once i, g.once i, times_first i first (followers_in f.added), times_first i second (followers_in g.added), times_first i first (second ∷ []), times_first i second [])

-- what follows a node is in the table
pub one_there : (f : Form) {next : NodeId} {n : ℕ} → children_of f ≡ next ∷ [] → next.0 < n → All (λ c. c.0 < n) (children_of f)
one_there f {next} {n} e lt = subst (λ (l : List NodeId). All (λ c. c.0 < n) l) (sym e) (All-cons (λ (c : NodeId). c.0 < n) next [] lt (All-nil (λ (c : NodeId). c.0 < n)))

pub two_there : {first second : NodeId} {n : ℕ} → first.0 < n → second.0 < n → All (λ (c : NodeId). c.0 < n) (first ∷ second ∷ [])
two_there {first} {second} {n} lt gt = All-cons (λ (c : NodeId). c.0 < n) first (second ∷ []) lt (All-cons (λ (c : NodeId). c.0 < n) second [] gt (All-nil (λ (c : NodeId). c.0 < n)))

pub still_there : {names : List (List ℕ)} {b c : List Node} {id : NodeId} {blk : Block} {n : ℕ} → Adds names b c id blk → n < length b → n < length c
still_there {b = b} {c = c} d lt = let e = ap length d.parts in omega (arith, length-append b d.added)
