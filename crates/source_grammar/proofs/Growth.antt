-- The nodes that are added to a table, one after another.
use Rattle.std.proofs.Common.{◌≡◌, ◌≢◌, ◌<◌, ◌≤◌, ◌+◌, ◌==◌, cond, nat_lt, ℕ, Bool, true, false, List, [], ◌∷◌, ◌++◌, length, ap, refl, sym, ◌∙◌, subst, arith, append_assoc, length-append}
use Rattle.std.specs.List.{AllByRecursion, list_all}
use Rattle.std.proofs.lemmas.Bool.{ltb-true, ltb-false, and_from, and_parts}
use Rattle.std.proofs.lemmas.Bool.Decides.{nat_tests}
use Rattle.std.proofs.lemmas.List.{append-nil}
use Rattle.std.proofs.lemmas.List.Folds.{list_all-append}
use Rattle.std.proofs.lemmas.List.Sums.{sum_by-append, sum_by-cons}
use Rattle.std.proofs.lemmas.Grind.{flat_map-append}
use Rattle.chor_base.specs.declared.names.NameId.{NameId}
use Rattle.chor_base.specs.declared.rule.Place.{Place}
use Rattle.chor_lexer.proofs.Each.{each_append, each_front, each_back}
use Rattle.chor_tree.specs.declared.file.Proc.{Proc}
use Rattle.chor_tree.specs.declared.tree.Form.{Form}
use Rattle.chor_tree.specs.declared.tree.Form.TheVariants as form
use Rattle.chor_tree.specs.declared.tree.Node.{Node}
use Rattle.chor_tree.specs.declared.tree.NodeId.{NodeId}
use Rattle.chor_tree.specs.Children.{children_of}
use Rattle.chor_tree.specs.Source.{Block, block_in, block_of, blocks_of}
use Rattle.chor_tree.specs.Kept.{followers_in, times}
use Rattle.source_grammar.specs.Growing.{Grows, form_kept, block_kept, Adds, begins_of}
use Rattle.source_grammar.proofs.Tables.{block_stays, block_pushed, still_there, last_there}

-- ---- counting

abbrev pub one_if : Bool → ℕ
one_if b = cond b 1 0

pub times_append : (id : NodeId) (xs ys : List NodeId) → times id (xs ++ ys) ≡ times id xs + times id ys
times_append id xs ys = sum_by-append (λ (c : NodeId). cond (c.0 == id.0) 1 0) xs ys

pub times_first : (id c : NodeId) (xs : List NodeId) → times id (c ∷ xs) ≡ one_if (c.0 == id.0) + times id xs
times_first id c xs = sum_by-cons (λ (x : NodeId). cond (x.0 == id.0) 1 0) c xs

followers_append : (xs ys : List Node) → followers_in (xs ++ ys) ≡ followers_in xs ++ followers_in ys
followers_append xs ys = flat_map-append (λ (o : Node). children_of o.form) xs ys

-- two runs of roots and followers together
abbrev sum_of : NodeId → List NodeId → List Node → ℕ
sum_of id roots nodes = times id (roots ++ followers_in nodes)

both_times : (id : NodeId) (rs qs : List NodeId) (a b : List Node) → sum_of id (rs ++ qs) (a ++ b) ≡ sum_of id rs a + sum_of id qs b
both_times id rs qs a b =
    let e = ap (times id) (ap (λ (l : List NodeId). (rs ++ qs) ++ l) (followers_append a b)) in
    omega (arith, e, times_append id (rs ++ qs) (followers_in a ++ followers_in b), times_append id rs qs, times_append id (followers_in a) (followers_in b), times_append id rs (followers_in a), times_append id qs (followers_in b))

-- a node after those that lead to it
node_times : (id c : NodeId) (a : List Node) (n : Node) → sum_of id (c ∷ []) (a ++ n ∷ []) ≡ one_if (c.0 == id.0) + sum_of id (children_of n.form) a
node_times id c a n =
    let e = ap (times id) (ap (λ (l : List NodeId). c ∷ l) (followers_append a (n ∷ []) ∙ ap (λ (l : List NodeId). followers_in a ++ l) (append-nil (children_of n.form)))) in
    omega (arith, e, times_first id c (followers_in a ++ children_of n.form), times_append id (followers_in a) (children_of n.form), times_append id (children_of n.form) (followers_in a))

-- ---- what is kept

form_parts : (n : NameId → Bool) (t : ℕ → Bool) (bs : List Block) (p : Place) (f : Form) → block_kept n t (block_of bs p f) ≡ true → (form_kept n t f ≡ true) × AllByRecursion (λ c. block_kept n t (block_in bs c) ≡ true) (children_of f)
form_parts n t bs p (form.Start c k active serve next) h = let e = and_parts _ _ h in (e.0, (e.1, tt))
form_parts n t bs p (form.Value a e b x k next) h = let e = and_parts _ _ h in (e.0, (e.1, tt))
form_parts n t bs p (form.Label a b k l next) h = let e = and_parts _ _ h in (e.0, (e.1, tt))
form_parts n t bs p (form.Give a b k given next) h = let e = and_parts _ _ h in (e.0, (e.1, tt))
form_parts n t bs p (form.Set q x e next) h = let e = and_parts _ _ h in (e.0, (e.1, tt))
form_parts n t bs p (form.Host q x f a b next) h = let e = and_parts _ _ h in (e.0, (e.1, tt))
form_parts n t bs p (form.Show q e next) h = let e = and_parts _ _ h in (e.0, (e.1, tt))
form_parts n t bs p (form.If q e first second) h =
    let e = and_parts _ _ h in
    let b = and_parts _ _ e.1 in
    (and_from _ _ e.0 refl, (b.0, (b.1, tt)))
form_parts n t bs p (form.Call g ps ks) h = (h, tt)
form_parts n t bs p form.End h = (refl, tt)

-- blocks of older nodes
older_kept : (n : NameId → Bool) (t : ℕ → Bool) (old new : List Node) (roots : List NodeId) → Grows old new → AllByRecursion (λ r. r.0 < length old) roots → AllByRecursion (λ r. block_kept n t (block_in (blocks_of new) r) ≡ true) roots → AllByRecursion (λ r. block_kept n t (block_in (blocks_of old) r) ≡ true) roots
older_kept n t old new [] g there h = tt
older_kept n t old new (r ∷ rs) g there h = (ap (block_kept n t) (sym (block_stays old new r g there.0)) ∙ h.0, older_kept n t old new rs g there.1 h.1)

all_still : (old new : List Node) (roots : List NodeId) → Grows old new → AllByRecursion (λ r. r.0 < length old) roots → AllByRecursion (λ r. r.0 < length new) roots
all_still old new [] g there = tt
all_still old new (r ∷ rs) g there = (still_there old new r g there.0, all_still old new rs g there.1)

-- ---- growth

pub adds_none : (nodes : List Node) → Adds nodes nodes []
adds_none nodes = record {
  added = [];
  parts = sym (append-nil nodes);
  there = tt;
  kept = λ n t h. refl;
  once = λ id. omega arith;
  before = λ id lt. refl;
  after = λ id le. refl;
}

length_after : {old new : List Node} {roots : List NodeId} → Adds old new roots → length old ≤ length new
length_after {old} d = let e = ap length d.parts in omega (arith, length-append old d.added)

-- one after another
pub adds_on : {a b c : List Node} {rs qs : List NodeId} → Adds a b rs → Adds b c qs → Adds a c (rs ++ qs)
adds_on {a} {b} {c} {rs} {qs} d e =
    let grows : Grows b c = (e.added, e.parts) in
    record {
      added = d.added ++ e.added;
      parts = e.parts ∙ ap (λ (l : List Node). l ++ e.added) d.parts ∙ append_assoc a d.added e.added;
      there = each_append (λ (r : NodeId). r.0 < length c) rs qs (all_still b c rs grows d.there) e.there;
      kept = λ n t h. kept n t h;
      once = λ id. once id (nat_lt id.0 (length b)) refl;
      before = λ id lt. omega (arith, both_times id rs qs d.added e.added, d.before id lt, e.before id (omega (arith, lt, length_after d)));
      after = λ id le. omega (arith, both_times id rs qs d.added e.added, d.after id (omega (arith, le, length_after e)), e.after id le);
    }
  where
    kept : (n : NameId → Bool) (t : ℕ → Bool) → AllByRecursion (λ r. block_kept n t (block_in (blocks_of c) r) ≡ true) (rs ++ qs) → list_all (λ o. form_kept n t o.form) (d.added ++ e.added) ≡ true
    kept n t h =
        let Good : NodeId → Type 0 = λ r. block_kept n t (block_in (blocks_of c) r) ≡ true in
        let front = d.kept n t (older_kept n t b c rs (e.added, e.parts) d.there (each_front Good rs qs h)) in
        let back = e.kept n t (each_back Good rs qs h) in
        list_all-append (λ (o : Node). form_kept n t o.form) d.added e.added ∙ and_from _ _ front back

    once : (id : NodeId) (v : Bool) → nat_lt id.0 (length b) ≡ v → sum_of id (rs ++ qs) (d.added ++ e.added) ≤ 1
    once id true is = omega (arith, both_times id rs qs d.added e.added, d.once id, e.before id (ltb-true id.0 (length b) is))
    once id false is = omega (arith, both_times id rs qs d.added e.added, e.once id, d.after id (ltb-false id.0 (length b) is))

-- a node after its followers
pub adds_node : {a b c : List Node} (n : Node) {id : NodeId} → Adds a b (children_of n.form) → c ≡ b ++ n ∷ [] → id.0 ≡ length b → Adds a c (id ∷ [])
adds_node {a} {b} {c} n {id} d made at =
    record {
      added = d.added ++ n ∷ [];
      parts = made ∙ ap (λ (l : List Node). l ++ n ∷ []) d.parts ∙ append_assoc a d.added (n ∷ []);
      there = (last_there b c n id made at, tt);
      kept = λ m t h. kept m t h;
      once = λ i. once i (id.0 == i.0) refl;
      before = λ i lt. omega (arith, node_times i id d.added n, d.before i lt, other i (omega (arith, lt, at, length_after d)));
      after = λ i le. omega (arith, node_times i id d.added n, d.after i (omega (arith, le, one_more)), other i (omega (arith, le, at, one_more)));
    }
  where
    one_more : length c ≡ length b + 1
    one_more = ap length made ∙ length-append b (n ∷ [])

    other : (i : NodeId) → i.0 ≢ id.0 → one_if (id.0 == i.0) ≡ 0
    other i ne = grind (arith, nat_tests)

    kept : (m : NameId → Bool) (t : ℕ → Bool) → AllByRecursion (λ r. block_kept m t (block_in (blocks_of c) r) ≡ true) (id ∷ []) → list_all (λ o. form_kept m t o.form) (d.added ++ n ∷ []) ≡ true
    kept m t h =
        let f = form_parts m t (blocks_of b) n.place n.form (ap (block_kept m t) (sym (block_pushed b c n id made at)) ∙ h.0) in
        list_all-append (λ (o : Node). form_kept m t o.form) d.added (n ∷ []) ∙ and_from _ _ (d.kept m t f.1) (and_from _ _ f.0 refl)

    once : (i : NodeId) (v : Bool) → (id.0 == i.0) ≡ v → sum_of i (id ∷ []) (d.added ++ n ∷ []) ≤ 1
    once i true is = let z = d.after i (grind (arith, nat_tests)) in omega (arith, node_times i id d.added n, z, ap one_if is)
    once i false is = omega (arith, node_times i id d.added n, d.once i, ap one_if is)

-- ---- procedures

pub adds_nothing : (nodes : List Node) (ps : List Proc) → nodes ≡ [] → ps ≡ [] → Adds [] nodes (begins_of ps)
adds_nothing nodes ps e f =
    let from : Adds [] nodes [] = subst (λ (l : List Node). Adds [] l []) (sym e) (adds_none []) in
    subst (λ (l : List Proc). Adds [] nodes (begins_of l)) (sym f) from
