-- The starts of a channel, node by node.
use Rattle.std.proofs.Common.{◌≡◌, ℕ, zero, suc, arith, ◌+◌, ◌<◌, ◌≤◌, Bool, true, false, ◌==◌, List, [], ◌∷◌, ◌++◌, length, take, get_or, map, refl, sym, ap, ◌∙◌, subst, Some, append_assoc}
use Rattle.std.specs.Prelude.{Contains, slice_get, if◌then◌else◌}
use Rattle.std.specs.List.{flat_map, filter}
use Rattle.std.proofs.lemmas.List.{take_more, take_all, map-append}
use Rattle.std.proofs.lemmas.List.Elements.{All-nil, All-cons, All-append, All-same, Contains-get_or}
use Rattle.chor_base.specs.declared.names.NameId.{NameId}
use Rattle.chor_base.proofs.Members.{at_head, at_tail}
use Rattle.chor_tree.specs.declared.file.File.{File}
use Rattle.chor_tree.specs.declared.file.Proc.{Proc}
use Rattle.chor_tree.specs.declared.tree.NodeId.{NodeId}
use Rattle.chor_tree.specs.declared.tree.Node.{Node as TreeNode}
use Rattle.chor_tree.specs.declared.tree.Form.{Form}
use Rattle.chor_tree.specs.declared.tree.Form.TheVariants.{Start, Value, Label, Give, Set, Host, Show, If, Call, End}
use Rattle.chor_tree.specs.Children.{children_of}
use Rattle.chor_tree.specs.Names.{scope_of_main, scope_of_procedure, scope_after}
use Rattle.chor_semantics.specs.Choreography.{Choreography}
use Rattle.chor_semantics.specs.Sources.{tree_in, form_tree, trees_of}
use Rattle.projection.specs.Projects.{Started, starts_in, starts_in_procs, starts_of, is_some_start, body_at}
use Rattle.projection.proofs.TreeTables.{tree_at-node}
use Rattle.service_codes.proofs.Names.{child_below}
use Rattle.service_codes.specs.declared.starts.StartNode.{StartNode}
use Rattle.service_codes.specs.Starts.{start_at, nodes_of, IsStanding, main_begins, procedure_begins, follows, starts_channel, IsStartOf, first_start, start_in, AddsStarts, AreStartsOf, AreAllStarts}

pub end_nil : {X : Type 0} (xs : List X) → xs ++ [] ≡ xs
end_nil [] = refl
end_nil (x ∷ xs) = ap (λ ys. x ∷ ys) (end_nil xs)

-- ---- nodes that stand in a body

pub main_stands : (f : File) → IsStanding f f.body
main_stands f = record { scope = scope_of_main f; stands = main_begins refl refl }

pub proc_stands : (f : File) (hs : List Proc) (i : ℕ) (h : Proc) → hs ≡ f.procs → i < length hs → h ≡ get_or hs i h → IsStanding f h.body
proc_stands f hs i h e lt is = record {
  scope = scope_of_procedure h;
  stands = procedure_begins (subst (λ (l : List Proc). Contains l h) e (subst (Contains hs) (sym is) (Contains-get_or hs i h lt))) refl refl;
}

pub child_stands : (f : File) (id : NodeId) (n : TreeNode) (cs : List NodeId) → IsStanding f id → slice_get f.tree.nodes id.0 ≡ Some n → cs ≡ children_of n.form → (c : NodeId) → Contains cs c → IsStanding f c
child_stands f id n cs s at is c m = record {
  scope = scope_after s.scope n.form;
  stands = follows s.stands at (subst (λ (l : List NodeId). Contains l c) is m) refl;
}

pub child_before : (f : File) (id : NodeId) (n : TreeNode) (cs : List NodeId) → slice_get f.tree.nodes id.0 ≡ Some n → cs ≡ children_of n.form → (c : NodeId) → Contains cs c → c.0 < id.0
child_before f id n cs at is c m = child_below f id c n at (subst (λ (l : List NodeId). Contains l c) is m)

pub only : (c : NodeId) → Contains (c ∷ []) c
only c = at_head c [] c refl

pub first_of : (c d : NodeId) → Contains (c ∷ d ∷ []) c
first_of c d = at_head c (d ∷ []) c refl

pub second_of : (c d : NodeId) → Contains (c ∷ d ∷ []) d
second_of c d = at_tail c (d ∷ []) d (only d)

-- ---- starts at the end of a list

abbrev starts_it : NameId → StartNode → Bool
starts_it a x = x.channel.0 == a.0

abbrev nodes : List StartNode → List NodeId
nodes xs = map (λ x. x.node) xs

nodes_pushed : (a : NameId) (xs : List StartNode) (x : StartNode) → nodes_of a (xs ++ x ∷ []) ≡ nodes_of a xs ++ nodes_of a (x ∷ [])
nodes_pushed a [] x = refl
nodes_pushed a (y ∷ ys) x = go (starts_it a y) (nodes_pushed a ys x)
  where
    go : (b : Bool) → nodes_of a (ys ++ x ∷ []) ≡ nodes_of a ys ++ nodes_of a (x ∷ [])
        → nodes (if b then y ∷ filter (starts_it a) (ys ++ x ∷ []) else filter (starts_it a) (ys ++ x ∷ [])) ≡ nodes (if b then y ∷ filter (starts_it a) ys else filter (starts_it a) ys) ++ nodes_of a (x ∷ [])
    go true e = ap (λ l. y.node ∷ l) e
    go false e = e

one_node : (b : Bool) (x : StartNode) → nodes (if b then x ∷ [] else []) ≡ (if b then x.node ∷ [] else [])
one_node true x = refl
one_node false x = refl

same : (a : NameId) (old mid : List StartNode) → mid ≡ old ++ [] → nodes_of a mid ≡ nodes_of a old ++ []
same a old mid e = ap (nodes_of a) (e ∙ end_nil old) ∙ sym (end_nil (nodes_of a old))

-- those of one channel, where the node at hand is added, if it is a start
pub nodes_placed : (a : NameId) (id : NodeId) (g : Form) (old mid : List StartNode) → mid ≡ old ++ start_at id g → nodes_of a mid ≡ nodes_of a old ++ (if starts_channel a g then id ∷ [] else [])
nodes_placed a id (Start c k active serve next) old mid e = ap (nodes_of a) e ∙ nodes_pushed a old (record { channel = c.name; node = id }) ∙ ap (λ l. nodes_of a old ++ l) (one_node (c.name.0 == a.0) (record { channel = c.name; node = id }))
nodes_placed a id (Value from v to x k next) old mid e = same a old mid e
nodes_placed a id (Label from to k l next) old mid e = same a old mid e
nodes_placed a id (Give from to k given next) old mid e = same a old mid e
nodes_placed a id (Set p x v next) old mid e = same a old mid e
nodes_placed a id (Host p x g left right next) old mid e = same a old mid e
nodes_placed a id (Show p v next) old mid e = same a old mid e
nodes_placed a id (If p v first second) old mid e = same a old mid e
nodes_placed a id (Call g ps ks) old mid e = same a old mid e
nodes_placed a id End old mid e = same a old mid e

-- one of these starts is the channel's
module _ (f : File) (a : NameId) (xs : List StartNode) (all : AreAllStarts f xs) where
  pub some_started : (i : ℕ) (d : StartNode) → i < length xs → starts_it a (get_or xs i d) ≡ true → true ≡ is_some_start (starts_of f a)
  some_started i d lt e = sym (go xs i lt e) ∙ ap is_some_start (all.of a).same
    where
      go : (ys : List StartNode) (i : ℕ) → i < length ys → starts_it a (get_or ys i d) ≡ true → is_some_start (map (start_in f) (nodes_of a ys)) ≡ true
      go [] i lt e = absurd (omega arith)
      go (y ∷ ys) zero lt e = here (starts_it a y) refl
        where
          here : (b : Bool) → starts_it a y ≡ b → is_some_start (map (start_in f) (nodes (if b then y ∷ filter (starts_it a) ys else filter (starts_it a) ys))) ≡ true
          here true h = refl
          here false h = absurd cc
      go (y ∷ ys) (suc i) lt e = later (starts_it a y) (go ys i (omega arith) e)
        where
          later : (b : Bool) → is_some_start (map (start_in f) (nodes_of a ys)) ≡ true → is_some_start (map (start_in f) (nodes (if b then y ∷ filter (starts_it a) ys else filter (starts_it a) ys))) ≡ true
          later true h = refl
          later false h = h

module _ (f : File) (a : NameId) where
  pub adds_none : (ids : List NodeId) → AddsStarts f a [] ids ids
  adds_none ids = record { more = []; is = sym (end_nil ids); same = refl; each = All-nil (IsStartOf f a) }

  pub adds_both : {xs ys : List Started} {old mid new : List NodeId} → AddsStarts f a xs old mid → AddsStarts f a ys mid new → AddsStarts f a (xs ++ ys) old new
  adds_both {xs = xs} {ys = ys} {old = old} p q = record {
    more = p.more ++ q.more;
    is = q.is ∙ ap (λ l. l ++ q.more) p.is ∙ append_assoc old p.more q.more;
    same = map-append (start_in f) p.more q.more ∙ (λ i. p.same i ++ q.same i);
    each = All-append (IsStartOf f a) p.more q.more p.each q.each;
  }

  -- the starts of the nodes that follow a node
  abbrev after : List Choreography → Form → List Started
  after ts g = flat_map (λ c. starts_in a (tree_in ts c)) (children_of g)

  abbrev here : List Choreography → Form → List Started
  here ts g = if starts_channel a g then first_start (form_tree ts g) ∷ [] else []

  starts_split : (ts : List Choreography) (g : Form) → starts_in a (form_tree ts g) ≡ here ts g ++ after ts g
  starts_split ts (Start c k active serve next) = ap (λ l. here ts (Start c k active serve next) ++ l) (sym (end_nil (starts_in a (tree_in ts next))))
  starts_split ts (Value from e to x k next) = sym (end_nil (starts_in a (tree_in ts next)))
  starts_split ts (Label from to k l next) = sym (end_nil (starts_in a (tree_in ts next)))
  starts_split ts (Give from to k given next) = sym (end_nil (starts_in a (tree_in ts next)))
  starts_split ts (Set p x e next) = sym (end_nil (starts_in a (tree_in ts next)))
  starts_split ts (Host p x g left right next) = sym (end_nil (starts_in a (tree_in ts next)))
  starts_split ts (Show p e next) = sym (end_nil (starts_in a (tree_in ts next)))
  starts_split ts (If p e first second) = ap (λ l. starts_in a (tree_in ts first) ++ l) (sym (end_nil (starts_in a (tree_in ts second))))
  starts_split ts (Call g ps ks) = refl
  starts_split ts End = refl

  module _ (id : NodeId) (n : TreeNode) (s : IsStanding f id) (at : slice_get f.tree.nodes id.0 ≡ Some n) where
    abbrev trees : List Choreography
    trees = trees_of f.tree.nodes

    starts_there : starts_in a (body_at f id) ≡ here trees n.form ++ after trees n.form
    starts_there = ap (starts_in a) (tree_at-node f.tree.nodes id n f.tree.closed at) ∙ starts_split trees n.form

    adds_here : (old mid : List NodeId) → mid ≡ old ++ (if starts_channel a n.form then id ∷ [] else []) → AddsStarts f a (here trees n.form) old mid
    adds_here old mid e = go (starts_channel a n.form) refl e
      where
        go : (b : Bool) → starts_channel a n.form ≡ b → mid ≡ old ++ (if b then id ∷ [] else []) → AddsStarts f a (if b then first_start (form_tree trees n.form) ∷ [] else []) old mid
        go true i j = record {
          more = id ∷ [];
          is = j;
          same = ap (λ c. first_start c ∷ []) (tree_at-node f.tree.nodes id n f.tree.closed at);
          each = All-cons (IsStartOf f a) id [] (record { scope = s.scope; stands = s.stands; node = n; is = at; starts = i }) (All-nil (IsStartOf f a));
        }
        go false i j = record { more = []; is = j; same = refl; each = All-nil (IsStartOf f a) }

    -- the start at a node, and the starts after it
    pub adds_node : (cs : List NodeId) → cs ≡ children_of n.form → {old mid new : List NodeId} → mid ≡ old ++ (if starts_channel a n.form then id ∷ [] else [])
        → AddsStarts f a (flat_map (λ c. starts_in a (body_at f c)) cs) mid new → AddsStarts f a (starts_in a (body_at f id)) old new
    adds_node cs is {old = old} {mid = mid} {new = new} e h =
        subst (λ (l : List Started). AddsStarts f a l old new) (sym starts_there)
        (adds_both (adds_here old mid e) (subst (λ (l : List NodeId). AddsStarts f a (flat_map (λ c. starts_in a (body_at f c)) l) mid new) is h))

  pub adds_one : (c : NodeId) {old new : List NodeId} → AddsStarts f a (starts_in a (body_at f c)) old new → AddsStarts f a (flat_map (λ d. starts_in a (body_at f d)) (c ∷ [])) old new
  adds_one c {old = old} {new = new} h = subst (λ (l : List Started). AddsStarts f a l old new) (sym (end_nil (starts_in a (body_at f c)))) h

  pub adds_two : (c d : NodeId) {old mid new : List NodeId} → AddsStarts f a (starts_in a (body_at f c)) old mid → AddsStarts f a (starts_in a (body_at f d)) mid new
      → AddsStarts f a (flat_map (λ x. starts_in a (body_at f x)) (c ∷ d ∷ [])) old new
  adds_two c d h g = adds_both h (adds_one d g)

  -- ---- of all bodies

  procs_append : (xs ys : List Proc) → starts_in_procs f a (xs ++ ys) ≡ starts_in_procs f a xs ++ starts_in_procs f a ys
  procs_append [] ys = refl
  procs_append (x ∷ xs) ys = ap (λ l. starts_in a (body_at f x.body) ++ l) (procs_append xs ys) ∙ sym (append_assoc (starts_in a (body_at f x.body)) (starts_in_procs f a xs) (starts_in_procs f a ys))

  pub procs_more : (hs : List Proc) (i : ℕ) (h : Proc) → i < length hs → h ≡ get_or hs i h → {old mid new : List NodeId} → AddsStarts f a (starts_in_procs f a (take i hs)) old mid → AddsStarts f a (starts_in a (body_at f h.body)) mid new
      → AddsStarts f a (starts_in_procs f a (take (i + 1) hs)) old new
  procs_more hs i h lt is {old = old} {new = new} p q =
      subst (λ (l : List Started). AddsStarts f a l old new) (sym more) (adds_both p q)
    where
      more : starts_in_procs f a (take (i + 1) hs) ≡ starts_in_procs f a (take i hs) ++ starts_in a (body_at f h.body)
      more =
          ap (starts_in_procs f a) (take_more hs i h lt ∙ ap (λ x. take i hs ++ x ∷ []) (sym is)) ∙ procs_append (take i hs) (h ∷ [])
          ∙ ap (λ l. starts_in_procs f a (take i hs) ++ l) (end_nil (starts_in a (body_at f h.body)))

  pub starts_all : (hs : List Proc) (i : ℕ) → hs ≡ f.procs → length hs ≤ i → {mid new : List NodeId} → AddsStarts f a (starts_in_procs f a (take i hs)) [] mid → AddsStarts f a (starts_in a (body_at f f.body)) mid new → AreStartsOf f a new
  starts_all hs i e le {mid = mid} {new = new} p q =
      let all = adds_both (subst (λ (l : List Proc). AddsStarts f a (starts_in_procs f a l) [] mid) (take_all i hs le ∙ e) p) q in
      record {
        same = ap (map (start_in f)) all.is ∙ all.same;
        each = All-same (IsStartOf f a) new all.more all.is all.each;
      }
