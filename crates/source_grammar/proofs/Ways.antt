-- A node is reached from one body and by one way, and no more.
use Rattle.std.proofs.Common.{◌≡◌, ◌≢◌, ◌≤◌, ◌+◌, ◌==◌, ◌⊎◌, ℕ, zero, suc, true, false, List, [], ◌∷◌, ap, refl, sym, ◌∙◌, subst, Some, inl, inr, arith}
use Rattle.std.specs.Prelude.{Contains, slice_get}
use Rattle.std.proofs.lemmas.Bool.{eq-eqb}
use Rattle.std.proofs.lemmas.Bool.Decides.{eqb_tells}
use Rattle.chor_tree.specs.declared.file.File.{File}
use Rattle.chor_tree.specs.declared.tree.NodeId.{NodeId}
use Rattle.chor_tree.specs.declared.tree.Node.{Node}
use Rattle.chor_tree.specs.Children.{children_of}
use Rattle.chor_tree.specs.Kept.{bodies_of, followers_in, times}
use Rattle.chor_tree.specs.Contents.{contents_of}
use Rattle.source_grammar.specs.Paths.{Path, here, further}
use Rattle.source_grammar.proofs.Growth.{one_if, times_append, times_first}

-- ---- counting

counts_itself : (id : NodeId) (xs : List NodeId) → times id (id ∷ xs) ≡ 1 + times id xs
counts_itself id xs = times_first id id xs ∙ ap (λ b. one_if b + times id xs) (eq-eqb id.0 id.0 refl)

counts_more : (id c : NodeId) (xs : List NodeId) → times id xs ≤ times id (c ∷ xs)
counts_more id c xs = omega (arith, times_first id c xs)

stands : (id : NodeId) (xs : List NodeId) (i : ℕ) → slice_get xs i ≡ Some id → 1 ≤ times id xs
stands id [] i h = absurd cc
stands id (x ∷ xs) zero h = let e : x ≡ id = cc in subst (λ (y : NodeId). 1 ≤ times id (y ∷ xs)) (sym e) (omega (arith, counts_itself id xs))
stands id (x ∷ xs) (suc i) h = omega (arith, stands id xs i h, counts_more id x xs)

stands_twice : (id : NodeId) (xs : List NodeId) (i j : ℕ) → slice_get xs i ≡ Some id → slice_get xs j ≡ Some id → i ≢ j → 2 ≤ times id xs
stands_twice id [] i j h k other = absurd cc
stands_twice id (x ∷ xs) zero zero h k other = absurd (other refl)
stands_twice id (x ∷ xs) zero (suc j) h k other =
    let e : x ≡ id = cc in subst (λ (y : NodeId). 2 ≤ times id (y ∷ xs)) (sym e) (omega (arith, counts_itself id xs, stands id xs j k))
stands_twice id (x ∷ xs) (suc i) zero h k other =
    let e : x ≡ id = cc in subst (λ (y : NodeId). 2 ≤ times id (y ∷ xs)) (sym e) (omega (arith, counts_itself id xs, stands id xs i h))
stands_twice id (x ∷ xs) (suc i) (suc j) h k other = omega (arith, stands_twice id xs i j h k (λ e. other (ap suc e)), counts_more id x xs)

contained : (id : NodeId) (xs : List NodeId) → Contains xs id → 1 ≤ times id xs
contained id [] (k, lt, e) = absurd (omega (arith, lt))
contained id (x ∷ xs) (zero, lt, e) = subst (λ (y : NodeId). 1 ≤ times id (y ∷ xs)) (sym e) (omega (arith, counts_itself id xs))
contained id (x ∷ xs) (suc k, lt, e) = omega (arith, contained id xs (k, omega (arith, lt), e), counts_more id x xs)

-- ---- nodes that others follow

follows : (id : NodeId) (ns : List Node) (i : ℕ) (n : Node) → slice_get ns i ≡ Some n → Contains (children_of n.form) id → 1 ≤ times id (followers_in ns)
follows id [] i n h c = absurd cc
follows id (m ∷ ns) zero n h c =
    let e : m ≡ n = cc in
    let one = contained id (children_of m.form) (subst (λ (o : Node). Contains (children_of o.form) id) (sym e) c) in
    omega (arith, times_append id (children_of m.form) (followers_in ns), one)
follows id (m ∷ ns) (suc i) n h c = omega (arith, times_append id (children_of m.form) (followers_in ns), follows id ns i n h c)

follows_two : (id : NodeId) (ns : List Node) (i j : ℕ) (n m : Node) → slice_get ns i ≡ Some n → slice_get ns j ≡ Some m → Contains (children_of n.form) id → Contains (children_of m.form) id → i ≢ j → 2 ≤ times id (followers_in ns)
follows_two id [] i j n m h k c d other = absurd cc
follows_two id (o ∷ ns) zero zero n m h k c d other = absurd (other refl)
follows_two id (o ∷ ns) zero (suc j) n m h k c d other =
    let e : o ≡ n = cc in
    let one = contained id (children_of o.form) (subst (λ (p : Node). Contains (children_of p.form) id) (sym e) c) in
    omega (arith, times_append id (children_of o.form) (followers_in ns), one, follows id ns j m k d)
follows_two id (o ∷ ns) (suc i) zero n m h k c d other =
    let e : o ≡ m = cc in
    let one = contained id (children_of o.form) (subst (λ (p : Node). Contains (children_of p.form) id) (sym e) d) in
    omega (arith, times_append id (children_of o.form) (followers_in ns), one, follows id ns i n h c)
follows_two id (o ∷ ns) (suc i) (suc j) n m h k c d other =
    omega (arith, times_append id (children_of o.form) (followers_in ns), follows_two id ns i j n m h k c d (λ e. other (ap suc e)))

-- ---- ways

module _ (f : File) where
  abbrev nodes : List Node
  nodes = f.tree.nodes

  sum : (id : NodeId) → times id (bodies_of (contents_of f)) + times id (followers_in nodes) ≤ 1
  sum id = omega (arith, f.kept.once id, times_append id (bodies_of (contents_of f)) (followers_in nodes))

  one_body : (id : NodeId) (i j : ℕ) → slice_get (bodies_of (contents_of f)) i ≡ Some id → slice_get (bodies_of (contents_of f)) j ≡ Some id → i ≡ j
  one_body id i j h k = go (eqb_tells i j)
    where
      go : (((i == j) ≡ true) × (i ≡ j)) ⊎ (((i == j) ≡ false) × (i ≢ j)) → i ≡ j
      go (inl e) = e.1
      go (inr e) = absurd (omega (arith, sum id, stands_twice id (bodies_of (contents_of f)) i j h k e.1))

  no_body : (id c : NodeId) (i : ℕ) (n : Node) → slice_get (bodies_of (contents_of f)) i ≡ Some id → slice_get nodes c.0 ≡ Some n → Contains (children_of n.form) id → ⊥
  no_body id c i n h k m = omega (arith, sum id, stands id (bodies_of (contents_of f)) i h, follows id nodes c.0 n k m)

  one_before : (id c d : NodeId) (n m : Node) → slice_get nodes c.0 ≡ Some n → slice_get nodes d.0 ≡ Some m → Contains (children_of n.form) id → Contains (children_of m.form) id → c.0 ≡ d.0
  one_before id c d n m h k o p = go (eqb_tells c.0 d.0)
    where
      go : (((c.0 == d.0) ≡ true) × (c.0 ≡ d.0)) ⊎ (((c.0 == d.0) ≡ false) × (c.0 ≢ d.0)) → c.0 ≡ d.0
      go (inl e) = e.1
      go (inr e) = absurd (omega (arith, sum id, follows_two id nodes c.0 d.0 n m h k o p e.1))

  -- two ways to one node from where bodies begin are one
  pub one_way_is : (i j : ℕ) (a b id : NodeId) (us vs : List NodeId) → slice_get (bodies_of (contents_of f)) i ≡ Some a → slice_get (bodies_of (contents_of f)) j ≡ Some b → Path nodes a id us → Path nodes b id vs → (i ≡ j) × (us ≡ vs)
  one_way_is i j a b id us vs h k here here = (one_body id i j h k, refl)
  one_way_is i j a b id us vs h k here (further {b = d} {n = m} q g o) = absurd (no_body id d i m h g o)
  one_way_is i j a b id us vs h k (further {b = c} {n = n} p e m) here = absurd (no_body id c j n k e m)
  one_way_is i j a b id us vs h k (further {b = c} {ids = xs} {n = n} p e m) (further {b = d} {ids = ys} {n = o} q g l) =
      let number = one_before id c d n o e g m l in
      let same : c ≡ d = λ x. record { 0 = number x } in
      let r = one_way_is i j a b c xs ys h k p (subst (λ (x : NodeId). Path nodes b x ys) (sym same) q) in
      (r.0, λ x. same x ∷ r.1 x)
