-- Each host function that a file without fault of names asks has an answer.
use Rattle.std.proofs.Common.{◌≡◌, ◌<◌, ◌==◌, ℕ, zero, suc, Bool, true, false, List, [], ◌∷◌, map, length, refl, sym, subst, Some, if◌then◌else◌, arith}
use Rattle.std.specs.Prelude.{Contains, slice_get, bytes_eq, not, nat_lt}
use Rattle.std.specs.List.{list_any, list_all}
use Rattle.std.proofs.lemmas.Bool.{ltb-true, and_parts}
use Rattle.std.proofs.lemmas.Option.{slice_get-get_or}
use Rattle.chor_base.specs.declared.names.NameId.{NameId}
use Rattle.chor_base.specs.declared.fault.Fault.{Fault}
use Rattle.chor_base.specs.declared.rule.Place.{Place}
use Rattle.chor_base.specs.declared.rule.Rule.TheVariants.{N1}
use Rattle.chor_base.specs.Meaning.{Hosts}
use Rattle.chor_base.specs.Words.{AllDistinct}
use Rattle.chor_base.specs.Writing.{name_in}
use Rattle.chor_tree.specs.declared.file.File.{File}
use Rattle.chor_tree.specs.declared.file.Proc.{Proc}
use Rattle.chor_tree.specs.declared.file.Named.{Named as Written}
use Rattle.chor_tree.specs.declared.tree.NodeId.{NodeId}
use Rattle.chor_tree.specs.declared.tree.Node.{Node}
use Rattle.chor_tree.specs.declared.tree.Form.{Form}
use Rattle.chor_tree.specs.declared.tree.Form.TheVariants as form
use Rattle.chor_tree.specs.Children.{children_of}
use Rattle.chor_tree.specs.Kept.{form_there, has_name, has_text}
use Rattle.chor_tree.specs.Names.{Scope, node_faults, unknown_process, unknown_function, scope_after, scope_of_main, scope_of_procedure, IsBodyFault, here, further, IsNameFault, in_main, in_a_procedure}
use Rattle.chor_tree.specs.Source.{Block, block_in, block_of, blocks_of, body_of}
use Rattle.chor_tree.proofs.Blocks.{block_at}
use Rattle.chor_semantics.specs.Sources.{Procedure, procedure_from, tree_in, trees_of}
use Rattle.chor_semantics.specs.Steps.{procedure_named}
use Rattle.chor_semantics.specs.Blocks.{choreography_of}
use Rattle.chor_semantics.proofs.Blocks.{block_choreography}
use Rattle.well_formed.specs.Asked.{CanAnswer, AllAsked, IsAnswered}
use Rattle.typed_sources.proofs.Calls.{all_of}
use Rattle.typed_sources.proofs.Resolved.{no_items, both_empty}
use Rattle.typed_sources.proofs.ProcedureHeads.{no_fault_at}
use Rattle.typed_sources.proofs.Followers.{low, only, other}
use Rattle.chor_host.specs.Functions.{Function, names_of, hosts_in, AreAnswerable}
use Rattle.chor_host.proofs.Answerable.{has_answer}

in_table : (ns : List Node) (i : ℕ) → i < length ns → (n : Node) × (slice_get ns i ≡ Some n) × Contains ns n
in_table [] i l = absurd (omega (arith, l))
in_table (x ∷ xs) zero l = (x, refl, (0, omega arith, refl))
in_table (x ∷ xs) (suc i) l = let w = in_table xs i (omega (arith, l)) in (w.0, w.1, (suc w.2.0, (let k : w.2.0 < length xs = w.2.1 in omega (arith, k)), w.2.2))

not_not : (b : Bool) → not b ≡ false → b ≡ true
not_not true h = refl
not_not false h = absurd cc

module _ (f : File) (functions : List Function) (distinct : AllDistinct f.names) (answerable : AreAnswerable functions) where
  abbrev hosts : Hosts
  hosts = hosts_in f.names functions

  abbrev words : List (List ℕ)
  words = names_of functions

  abbrev Answered : Block → Type 0
  Answered b = AllAsked (CanAnswer hosts) (choreography_of b)

  abbrev blocks : List Block
  blocks = blocks_of f.tree.nodes

  -- a function that isn't unknown has an answer
  known : (x : Written) → nat_lt x.name.0 (length f.names) ≡ true → unknown_function f words x ≡ [] → CanAnswer hosts x.name
  known x there h =
      has_answer f.names x.name (name_in f.names x.name) distinct (slice_get-get_or f.names x.name.0 [] (ltb-true x.name.0 (length f.names) there)) functions answerable
      (not_not (list_any (bytes_eq (name_in f.names x.name)) words) (no_fault_at (not (list_any (bytes_eq (name_in f.names x.name)) words)) N1 x h))

  abbrev There : Form → Type 0
  There n = form_there (has_name f.names) (has_text f.texts) n ≡ true

  abbrev Rest : Form → Type 0
  Rest n = (next : NodeId) → Contains (children_of n) next → Answered (block_in blocks next)

  at_node : (scope : Scope) (p : Place) (n : Form) → There n → node_faults f words scope n ≡ [] → Rest n → Answered (block_of blocks p n)
  at_node scope p (form.Start c k active serve next) there h rest = rest next (only next [])
  at_node scope p (form.Value a x b y k next) there h rest = rest next (only next [])
  at_node scope p (form.Label a b k l next) there h rest = rest next (only next [])
  at_node scope p (form.Give a b k given next) there h rest = rest next (only next [])
  at_node scope p (form.Set q y x next) there h rest = rest next (only next [])
  at_node scope p (form.Host q y g x z next) there h rest =
      (known g (and_parts _ _ (and_parts _ _ (and_parts _ _ there).0).0).1 (both_empty (unknown_process scope q) (unknown_function f words g) h).1, rest next (only next []))
  at_node scope p (form.Show q x next) there h rest = rest next (only next [])
  at_node scope p (form.If q x first second) there h rest = (rest first (only first (second ∷ [])), rest second (other first second []))
  at_node scope p (form.Call g ps ks) there h rest = tt
  at_node scope p form.End there h rest = tt

  nodes_there : list_all (λ (o : Node). form_there (has_name f.names) (has_text f.texts) o.form) f.tree.nodes ≡ true
  nodes_there = (and_parts _ _ f.kept.numbered).1

  body_answered : (fuel : ℕ) (scope : Scope) (id : NodeId) → id.0 < fuel → id.0 < length f.tree.nodes → ((x : Fault) → IsBodyFault f words x scope id → ⊥) → Answered (body_of f id)
  body_answered zero scope id l there clean = absurd (omega (arith, l))
  body_answered (suc fuel) scope id l there clean =
      let w = in_table f.tree.nodes id.0 there in
      let at = block_at f.tree.nodes id w.0 f.tree.closed w.1 in
      let fine : node_faults f words scope w.0.form ≡ [] = no_items (node_faults f words scope w.0.form) (λ x m. clean x (here w.1 m)) in
      let numbered = all_of (λ (o : Node). form_there (has_name f.names) (has_text f.texts) o.form) f.tree.nodes nodes_there w.0 w.2 in
      subst Answered (sym at)
      (at_node scope w.0.place w.0.form numbered fine (λ next m.
      let b = low id.0 (children_of w.0.form) next (f.tree.closed id.0 w.0 w.1) m in
      body_answered fuel (scope_after scope w.0.form) next (omega (arith, b, l)) (omega (arith, b, there)) (λ x h. clean x (further w.1 m h))))

  tree_answered : (scope : Scope) (id : NodeId) → nat_lt id.0 (length f.tree.nodes) ≡ true → ((x : Fault) → IsBodyFault f words x scope id → ⊥) → AllAsked (CanAnswer hosts) (tree_in (trees_of f.tree.nodes) id)
  tree_answered scope id there clean =
      subst (AllAsked (CanAnswer hosts)) (block_choreography f.tree.nodes id) (body_answered (suc id.0) scope id (omega arith) (ltb-true id.0 (length f.tree.nodes) there) clean)

  procedure_answered : (hs : List Proc) → list_all (λ (b : NodeId). nat_lt b.0 (length f.tree.nodes)) (map (λ p. p.body) hs) ≡ true
      → ((p : Proc) → Contains hs p → (x : Fault) → IsBodyFault f words x (scope_of_procedure p) p.body → ⊥)
      → (x : NameId) (p : Procedure) → procedure_named (map (procedure_from f.tree.nodes) hs) x ≡ Some p → AllAsked (CanAnswer hosts) p.body
  procedure_answered [] there clean x p is = absurd cc
  procedure_answered (h ∷ hs) there clean x p is =
      let t = and_parts _ _ there in
      go (h.name.name.0 == x.0) is (tree_answered (scope_of_procedure h) h.body t.0 (clean h (only h hs)))
      (procedure_answered hs t.1 (λ q m. clean q (suc m.0, (let k : m.0 < length hs = m.1 in omega (arith, k)), m.2)) x p)
    where
      go : (b : Bool) → (if b then Some (procedure_from f.tree.nodes h) else procedure_named (map (procedure_from f.tree.nodes) hs) x) ≡ Some p
          → AllAsked (CanAnswer hosts) (procedure_from f.tree.nodes h).body → (procedure_named (map (procedure_from f.tree.nodes) hs) x ≡ Some p → AllAsked (CanAnswer hosts) p.body) → AllAsked (CanAnswer hosts) p.body
      go true e mine more = let same : procedure_from f.tree.nodes h ≡ p = cc in subst (λ (q : Procedure). AllAsked (CanAnswer hosts) q.body) same mine
      go false e mine more = more e

  pub file_answered : ((x : Fault) → IsNameFault f words x → ⊥) → IsAnswered f hosts
  file_answered clean =
      let b = and_parts _ _ f.kept.begin in
      record {
        main = tree_answered (scope_of_main f) f.body b.0 (λ x h. clean x (in_main h));
        procedures = procedure_answered f.procs b.1 (λ p m x h. clean x (in_a_procedure m h));
      }
