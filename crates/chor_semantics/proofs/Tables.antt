-- Tables of nodes that a test finds in order.
use Rattle.std.proofs.Common.{◌≡◌, ℕ, zero, suc, ◌+◌, ◌-◌, ◌<◌, ◌≤◌, ◌==◌, nat_lt, cond, Bool, true, false, List, [], ◌∷◌, ◌++◌, length, map, refl, sym, ap, ◌∙◌, subst, Some, arith}
use Rattle.std.specs.Prelude.{◌&&◌, All, slice_get, not}
use Rattle.std.specs.List.{list_all}
use Rattle.std.proofs.Math.Dec.{ltb}
use Rattle.std.proofs.lemmas.Bool.{and_parts, ltb-true, eqb-true}
use Rattle.std.proofs.lemmas.List.Elements.{All-nil, All-cons}
use Rattle.std.proofs.lemmas.List.Sums.{sum_by-cons}
use Rattle.chor_tree.specs.Headers.{no_header}
use Rattle.chor_tree.specs.declared.tree.NodeId.{NodeId}
use Rattle.chor_tree.specs.declared.tree.Node.{Node}
use Rattle.chor_tree.specs.Children.{children_of, IsClosed}
use Rattle.chor_tree.specs.Kept.{Contents, is_numbered, is_filled, bodies_of, followers_in, times}
use Rattle.chor_semantics.specs.Examples.Names.{words}
use Rattle.chor_semantics.specs.Examples.Source.{Source, IsMade, nodes_of, written, node}

abbrev all_below : ℕ → List NodeId → Bool
all_below n [] = true
all_below n (c ∷ cs) = ltb c.0 n && all_below n cs

-- the nodes, whose numbers begin at n, come after those that follow them
abbrev in_order : ℕ → List Node → Bool
in_order n [] = true
in_order n (x ∷ xs) = all_below n (children_of x.form) && in_order (suc n) xs

below : (n : ℕ) (cs : List NodeId) → all_below n cs ≡ true → All (λ c. c.0 < n) cs
below n [] h = All-nil (λ c. c.0 < n)
below n (c ∷ cs) h = let both = and_parts _ _ h in All-cons (λ c. c.0 < n) c cs (ltb-true _ _ both.0) (below n cs both.1)

closed_from : (n : ℕ) (ns : List Node) → in_order n ns ≡ true → (i : ℕ) (x : Node) → slice_get ns i ≡ Some x → All (λ c. c.0 < n + i) (children_of x.form)
closed_from n [] h i x g = absurd cc
closed_from n (y ∷ ys) h zero x g = let same : y ≡ x = cc in subst (λ (z : Node). All (λ c. c.0 < n + 0) (children_of z.form)) same (subst (λ (m : ℕ). All (λ c. c.0 < m) (children_of y.form)) (omega arith) (below n _ (and_parts _ _ h).0))
closed_from n (y ∷ ys) h (suc i) x g = subst (λ (m : ℕ). All (λ c. c.0 < m) (children_of x.form)) (omega arith) (closed_from (suc n) ys (and_parts _ _ h).1 i x g)

pub closed_table : (ns : List Node) → in_order 0 ns ≡ true → IsClosed ns
closed_table ns h i x g = subst (λ (m : ℕ). All (λ c. c.0 < m) (children_of x.form)) (omega arith) (closed_from 0 ns h i x g)

-- ---- nodes that differ

abbrev pub all_apart : List NodeId → Bool
all_apart [] = true
all_apart (x ∷ xs) = list_all (λ y. not (y.0 == x.0)) xs && all_apart xs

counts : (id c : NodeId) (xs : List NodeId) → times id (c ∷ xs) ≡ cond (c.0 == id.0) 1 0 + times id xs
counts id c xs = sum_by-cons (λ (x : NodeId). cond (x.0 == id.0) 1 0) c xs

none : (id : NodeId) (x : NodeId) (xs : List NodeId) → list_all (λ y. not (y.0 == x.0)) xs ≡ true → x.0 ≡ id.0 → times id xs ≡ 0
none id x [] h e = refl
none id x (y ∷ ys) h e =
    let both = and_parts _ _ h in
    let other : (y.0 == id.0) ≡ false = ap (λ (m : ℕ). y.0 == m) (sym e) ∙ apart (y.0 == x.0) both.0 in
    let more = none id x ys both.1 e in
    let first : times id (y ∷ ys) ≡ 0 + times id ys = counts id y ys ∙ ap (λ b. cond b 1 0 + times id ys) other in
    omega (arith, first, more)
  where
    apart : (b : Bool) → not b ≡ true → b ≡ false
    apart true k = absurd cc
    apart false k = refl

-- each of different nodes stands there once
pub stand_once : (ids : List NodeId) → all_apart ids ≡ true → (id : NodeId) → times id ids ≤ 1
stand_once [] h id = omega arith
stand_once (x ∷ xs) h id = go (stand_once xs (and_parts _ _ h).1 id) (x.0 == id.0) refl
  where
    go : times id xs ≤ 1 → (b : Bool) → (x.0 == id.0) ≡ b → times id (x ∷ xs) ≤ 1
    go less true e =
        let zero = none id x xs (and_parts _ _ h).0 (eqb-true x.0 id.0 e) in
        let one : times id (x ∷ xs) ≡ 1 + times id xs = counts id x xs ∙ ap (λ b. cond b 1 0 + times id xs) e in omega (arith, one, zero)
    go less false e = let same : times id (x ∷ xs) ≡ 0 + times id xs = counts id x xs ∙ ap (λ b. cond b 1 0 + times id xs) e in omega (arith, same, less)

-- what the file of a source holds
abbrev pub contents_in : Source → Contents
contents_in s = record {
  header = no_header;
  names = words;
  texts = [];
  protocols = [];
  services = [];
  procs = s.procs;
  processes = map written s.processes;
  nodes = nodes_of s;
  body = node (length s.forms - 1);
}

-- a source whose nodes are in order and stand once, with numbers in its table and filled lists
pub made : (s : Source) → in_order 0 (nodes_of s) ≡ true
    → is_numbered (contents_in s) ≡ true → is_filled (contents_in s) ≡ true
    → list_all (λ b. nat_lt b.0 (length (nodes_of s))) (bodies_of (contents_in s)) ≡ true
    → all_apart (bodies_of (contents_in s) ++ followers_in (nodes_of s)) ≡ true
    → IsMade s
made s order numbered filled begin apart = record {
  closed = closed_table (nodes_of s) order;
  kept = record { header = refl; numbered = numbered; filled = filled; begin = begin; once = stand_once (bodies_of (contents_in s) ++ followers_in (nodes_of s)) apart };
}
