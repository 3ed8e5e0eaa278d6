-- The bodies of a file without fault of names ask only host functions that are known.
use Rattle.std.proofs.Common.{◌≡◌, ◌⊎◌, inl, inr, ◌≤◌, ◌<◌, ℕ, zero, suc, Bool, true, false, List, [], ◌∷◌, ◌++◌, length, get_or, refl, sym, subst, Some, None, arith}
use Rattle.std.specs.Prelude.{All, Contains, slice_get, bytes_eq, not}
use Rattle.std.specs.List.{AllByRecursion, list_any}
use Rattle.std.proofs.lemmas.Option.{slice_get_cases}
use Rattle.chor_base.specs.declared.names.NameId.{NameId}
use Rattle.chor_base.specs.declared.fault.Fault.{Fault}
use Rattle.chor_base.specs.declared.rule.Place.{Place}
use Rattle.chor_base.specs.declared.rule.Rule.TheVariants.{N1}
use Rattle.chor_base.specs.Writing.{name_in}
use Rattle.chor_tree.specs.declared.file.File.{File}
use Rattle.chor_tree.specs.declared.file.Proc.{Proc}
use Rattle.chor_tree.specs.declared.file.Named.{Named as Written}
use Rattle.chor_tree.specs.declared.tree.NodeId.{NodeId}
use Rattle.chor_tree.specs.declared.tree.Node.{Node}
use Rattle.chor_tree.specs.declared.tree.Form.{Form}
use Rattle.chor_tree.specs.declared.tree.Form.TheVariants as form
use Rattle.chor_tree.specs.Children.{children_of}
use Rattle.chor_tree.specs.Names.{fault_at, Scope, node_faults, unknown_process, unknown_function, scope_after, scope_of_main, scope_of_procedure, IsBodyFault, here, further, IsNameFault, in_main, in_a_procedure}
use Rattle.chor_tree.specs.Source.{Block, block_in, block_of, blocks_of}
use Rattle.chor_tree.proofs.Blocks.{block_at, block_past}
use Rattle.chor_semantics.specs.Choreography.{Choreography}
use Rattle.chor_semantics.specs.Blocks.{choreography_of}
use Rattle.chor_semantics.proofs.Blocks.{block_choreography}
use Rattle.projection.specs.Projects.{body_at}
use Rattle.accepted_files.proofs.AskedCodes.{Known}

-- ---- lists

no_items : {A : Type 0} (xs : List A) → ((x : A) → Contains xs x → ⊥) → xs ≡ []
no_items [] h = refl
no_items (x ∷ xs) h = absurd (h x (0, omega arith, refl))

second_empty : {A : Type 0} (xs ys : List A) → xs ++ ys ≡ [] → ys ≡ []
second_empty [] ys h = h
second_empty (x ∷ xs) ys h = absurd cc

first_of : {A : Type 0} (x : A) (xs : List A) → Contains (x ∷ xs) x
first_of x xs = (0, omega arith, refl)

second_of : {A : Type 0} (x y : A) (xs : List A) → Contains (x ∷ y ∷ xs) y
second_of x y xs = (1, omega arith, refl)

later_of : {A : Type 0} (x y : A) (xs : List A) → Contains xs y → Contains (x ∷ xs) y
later_of x y xs m = (suc m.0, (let k : m.0 < length xs = m.1 in omega (arith, k)), m.2)

low : (bound : ℕ) (cs : List NodeId) (c : NodeId) → All (λ x. x.0 < bound) cs → Contains cs c → c.0 < bound
low bound cs c a m = subst (λ (x : NodeId). x.0 < bound) m.2 (a m.0 c m.1)

known_at : (b : Bool) (x : Written) → fault_at (not b) N1 x ≡ [] → b ≡ true
known_at true x h = refl
known_at false x h = absurd cc

module _ (f : File) (words : List (List ℕ)) where
  -- a host function that has one of these names
  abbrev pub is_known : NameId → Bool
  is_known x = list_any (bytes_eq (name_in f.names x)) words

  abbrev AllKnown : Choreography → Type 0
  AllKnown c = Known is_known c

  -- ---- blocks

  abbrev BlockAsks : Block → Type 0
  BlockAsks b = AllKnown (choreography_of b)

  abbrev blocks : List Block
  blocks = blocks_of f.tree.nodes

  abbrev Rest : Form → Type 0
  Rest n = (next : NodeId) → Contains (children_of n) next → BlockAsks (block_in blocks next)

  at_node : (scope : Scope) (p : Place) (n : Form) → node_faults f words scope n ≡ [] → Rest n → BlockAsks (block_of blocks p n)
  at_node scope p (form.Start c k active serve next) h rest = rest next (first_of next [])
  at_node scope p (form.Value a x b y k next) h rest = rest next (first_of next [])
  at_node scope p (form.Label a b k l next) h rest = rest next (first_of next [])
  at_node scope p (form.Give a b k given next) h rest = rest next (first_of next [])
  at_node scope p (form.Set q y x next) h rest = rest next (first_of next [])
  at_node scope p (form.Host q y g x z next) h rest =
      (known_at (is_known g.name) g (second_empty (unknown_process scope q) (unknown_function f words g) h), rest next (first_of next []))
  at_node scope p (form.Show q x next) h rest = rest next (first_of next [])
  at_node scope p (form.If q x first second) h rest = (rest first (first_of first (second ∷ [])), rest second (second_of first second []))
  at_node scope p (form.Call g ps ks) h rest = tt
  at_node scope p form.End h rest = tt

  abbrev IsClean : Scope → NodeId → Type 0
  IsClean scope id = (x : Fault) → IsBodyFault f words x scope id → ⊥

  block_asks : (fuel : ℕ) (scope : Scope) (id : NodeId) → id.0 < fuel → IsClean scope id → BlockAsks (block_in blocks id)
  block_asks zero scope id l clean = absurd (omega (arith, l))
  block_asks (suc fuel) scope id l clean =
      go (slice_get_cases f.tree.nodes id.0).1 (λ n h next m.
      let b = low id.0 (children_of n.form) next (f.tree.closed id.0 n h) m in
      block_asks fuel (scope_after scope n.form) next (omega (arith, b, l)) (λ x k. clean x (further h m k)))
    where
      go : (((n : Node) × (id.0 < length f.tree.nodes) × (slice_get f.tree.nodes id.0 ≡ Some n) × (get_or f.tree.nodes id.0 n ≡ n)) ⊎ ((length f.tree.nodes ≤ id.0) × (slice_get f.tree.nodes id.0 ≡ None)))
          → ((n : Node) → slice_get f.tree.nodes id.0 ≡ Some n → Rest n.form) → BlockAsks (block_in blocks id)
      go (inl (n, within, h, same)) more =
          subst BlockAsks (sym (block_at f.tree.nodes id n f.tree.closed h))
          (at_node scope n.place n.form (no_items (node_faults f words scope n.form) (λ x m. clean x (here h m))) (more n h))
      go (inr (past, none)) more = subst BlockAsks (sym (block_past f.tree.nodes id past)) tt

  -- ---- bodies

  body_asks : (scope : Scope) (id : NodeId) → IsClean scope id → AllKnown (body_at f id)
  body_asks scope id clean = subst AllKnown (block_choreography f.tree.nodes id) (block_asks (suc id.0) scope id (omega arith) clean)

  procs_ask : (hs : List Proc) → ((p : Proc) → Contains hs p → IsClean (scope_of_procedure p) p.body) → AllByRecursion (λ h. AllKnown (body_at f h.body)) hs
  procs_ask [] clean = tt
  procs_ask (h ∷ hs) clean = (body_asks (scope_of_procedure h) h.body (clean h (first_of h hs)), procs_ask hs (λ p m. clean p (later_of h p hs m)))

  pub main_known : ((x : Fault) → IsNameFault f words x → ⊥) → Known is_known (body_at f f.body)
  main_known clean = body_asks (scope_of_main f) f.body (λ x h. clean x (in_main h))

  pub procs_known : ((x : Fault) → IsNameFault f words x → ⊥) → AllByRecursion (λ h. Known is_known (body_at f h.body)) f.procs
  procs_known clean = procs_ask f.procs (λ p m x h. clean x (in_a_procedure m h))
