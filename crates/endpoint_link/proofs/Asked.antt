-- The linked programs ask no host function that neither program asks.
use Rattle.std.proofs.Common.{◌≡◌, ℕ, ◌+◌, ◌<◌, ◌&&◌, Bool, true, List, [], ◌∷◌, ◌++◌, length, Some, refl, sym, ap, ◌∙◌, subst, arith}
use Rattle.std.specs.Prelude.{All, Contains, slice_get, slice_index_or, bytes_eq}
use Rattle.std.specs.List.{AllZip, AllByRecursion, list_any}
use Rattle.std.proofs.lemmas.List.Elements.{All-contains, All-from_recursion, recursion_from_All}
use Rattle.std.proofs.lemmas.Option.{get_or_from_slice_get, slice_get-get_or}
use Rattle.node_table.proofs.Tables.{trees_all}
use Rattle.chor_base.specs.declared.names.NameId.{NameId}
use Rattle.chor_base.specs.Expr.{term_of}
use Rattle.chor_base.specs.Writing.{name_in}
use Rattle.endpoint_code.specs.declared.code.CodeId.{CodeId}
use Rattle.endpoint_code.specs.declared.code.CodeNode.{CodeNode}
use Rattle.endpoint_code.specs.declared.code.CodeNode.TheVariants.{Join, Send, Recv, Pick, Branch, Throw, Catch, Set, Show, Host, If, Call, End}
use Rattle.endpoint_code.specs.declared.endpoints.Endpoints.{Endpoints}
use Rattle.endpoint_code.specs.Asked.{AsksTree, AsksArms}
use Rattle.endpoint_code.specs.Faults.{AsksKnown, is_listed}
use Rattle.endpoint_code.specs.Kept.{node_there, term_there, has_name, has_text}
use Rattle.endpoint_code.specs.Trees.{CodeTree, Ends, Arms, arms_in, node_tree, trees_of, code_at}
use Rattle.same_programs.specs.Words.{SameName}
use Rattle.same_programs.proofs.Asking.{tree_asks}
use Rattle.endpoint_link.specs.Linked.{ReplacesProcedure, ReplacesService, ReplacesProcess, IsLinkedCode, taken, kept, IsProcedureLinked, IsServiceLinked, IsProcessLinked, IsLinked}
use Rattle.same_programs.proofs.NameLists.{all_over}
use Rattle.chor_base.proofs.Lists.{get_append_left}
use Rattle.endpoint_link.proofs.Basics.{both, is_below}

-- ---- the same code with a larger table of names

module _ (n : NameId → Bool) (t : ℕ → Bool) (known other : NameId → Bool) (same : (x : NameId) → n x ≡ true → known x ≡ other x) where
  abbrev AsksToo : CodeTree → Type 0
  AsksToo c = AsksTree known c → AsksTree other c

  abbrev AllToo : List CodeTree → Type 0
  AllToo ts = (i : ℕ) → AsksToo (slice_index_or ts i Ends)

  arms_too : (ts : List CodeTree) → AllToo ts → (arms : List (NameId × CodeId)) → AsksArms known (arms_in ts arms) → AsksArms other (arms_in ts arms)
  arms_too ts s [] k = tt
  arms_too ts s (arm ∷ arms) k = (s arm.1.0 k.0, arms_too ts s arms k.1)

  node_too : (ts : List CodeTree) → AllToo ts → (o : CodeNode) → node_there n t o ≡ true → AsksToo (node_tree ts o)
  node_too ts s (Host x f a b next) h k =
      let p = both ((n x && n f) && term_there n t (term_of a)) (term_there n t (term_of b)) h in
      let q = both (n x && n f) (term_there n t (term_of a)) p.0 in
      let r = both (n x) (n f) q.0 in
      (sym (same f r.1) ∙ k.0, s next.0 k.1)
  node_too ts s (Join c r l next) h k = (tt, s next.0 k.1)
  node_too ts s (Send l b e next) h k = (tt, s next.0 k.1)
  node_too ts s (Recv l a x next) h k = (tt, s next.0 k.1)
  node_too ts s (Pick l b m next) h k = (tt, s next.0 k.1)
  node_too ts s (Branch l a arms) h k = arms_too ts s arms k
  node_too ts s (Throw l b d next) h k = (tt, s next.0 k.1)
  node_too ts s (Catch l a d next) h k = (tt, s next.0 k.1)
  node_too ts s (Set x e next) h k = (tt, s next.0 k.1)
  node_too ts s (Show e next) h k = (tt, s next.0 k.1)
  node_too ts s (If e first second) h k = (s first.0 k.0, s second.0 k.1)
  node_too ts s (Call f p ss) h k = tt
  node_too ts s End h k = tt

  tables_too : (nodes : List CodeNode) → All (λ o. node_there n t o ≡ true) nodes → AllToo (trees_of nodes)
  tables_too nodes h = trees_all node_tree Ends (λ o. node_there n t o ≡ true) AsksToo (λ k. tt) node_too nodes h

-- ---- units

module _ (e g r : Endpoints) (linked : IsLinked e g r) (words : List (List ℕ)) where
  own_word : (x : NameId) → has_name e.names x ≡ true → is_listed words e x ≡ is_listed words r x
  own_word x h =
      let l = is_below x.0 (length e.names) h in
      let at = slice_get-get_or e.names x.0 [] l in
      let there : slice_get r.names x.0 ≡ slice_get e.names x.0 = ap (λ ws. slice_get ws x.0) linked.names.1 ∙ get_append_left e.names linked.names.0 x.0 l in
      ap (λ w. list_any (bytes_eq w) words) (get_or_from_slice_get e.names x.0 _ [] at ∙ sym (get_or_from_slice_get r.names x.0 _ [] (there ∙ at)))

  given_word : (x y : NameId) → SameName g r x y → is_listed words g x ≡ is_listed words r y
  given_word x y s = ap (λ w. list_any (bytes_eq w) words) (get_or_from_slice_get g.names x.0 s.word [] s.here ∙ sym (get_or_from_slice_get r.names y.0 s.word [] s.there))

  own_asks : (id : CodeId) → AsksTree (is_listed words e) (code_at e.code.nodes id) → AsksTree (is_listed words r) (code_at e.code.nodes id)
  own_asks id k = tables_too (has_name e.names) (has_text e.texts) (is_listed words e) (is_listed words r) own_word e.code.nodes e.numbered.in_nodes id.0 k

  body_asks : {A : Type 0} (Replaces : A → A → Type 0) (body : A → CodeId) (given : List A) → AllByRecursion (λ x. AsksTree (is_listed words g) (code_at g.code.nodes (body x))) given
      → (u : A) (q : CodeId) → IsLinkedCode Replaces body e g r given u q → AsksTree (is_listed words e) (code_at e.code.nodes (body u)) → AsksTree (is_listed words r) (code_at r.code.nodes q)
  body_asks Replaces body given all u q (taken x among names same) h =
      let mine = All-contains (λ y. AsksTree (is_listed words g) (code_at g.code.nodes (body y))) given x (All-from_recursion (λ y. AsksTree (is_listed words g) (code_at g.code.nodes (body y))) given all) among in
      tree_asks g r (is_listed words g) (is_listed words r) given_word same mine
  body_asks Replaces body given all u q (kept none same) h = subst (AsksTree (is_listed words r)) (sym same) (own_asks (body u) h)

  each_asks : {A : Type 0} (R : A → A → Type 0) (body : A → CodeId) → ((x y : A) → R x y → AsksTree (is_listed words e) (code_at e.code.nodes (body x)) → AsksTree (is_listed words r) (code_at r.code.nodes (body y)))
      → (xs ys : List A) → AllZip R xs ys → AllByRecursion (λ x. AsksTree (is_listed words e) (code_at e.code.nodes (body x))) xs → AllByRecursion (λ y. AsksTree (is_listed words r) (code_at r.code.nodes (body y))) ys
  each_asks R body f xs ys z all =
      recursion_from_All (λ y. AsksTree (is_listed words r) (code_at r.code.nodes (body y))) ys
      (all_over R (λ x. AsksTree (is_listed words e) (code_at e.code.nodes (body x))) (λ y. AsksTree (is_listed words r) (code_at r.code.nodes (body y))) f xs ys z
      (All-from_recursion (λ x. AsksTree (is_listed words e) (code_at e.code.nodes (body x))) xs all))

  pub linked_asks : AsksKnown (is_listed words e) e → AsksKnown (is_listed words g) g → AsksKnown (is_listed words r) r
  linked_asks h k = record {
    procedures = each_asks (IsProcedureLinked e g r) (λ q. q.body) (λ p q i. body_asks (ReplacesProcedure e g) (λ x. x.body) g.procedures k.procedures p q.body i.body) e.procedures r.procedures linked.procedures h.procedures;
    services = each_asks (IsServiceLinked e g r) (λ s. s.body) (λ p q i. body_asks (ReplacesService e g) (λ x. x.body) g.services k.services p q.body i.body) e.services r.services linked.services h.services;
    processes = each_asks (IsProcessLinked e g r) (λ p. p.body) (λ p q i. body_asks (ReplacesProcess e g) (λ x. x.body) g.processes k.processes p q.body i.body) e.processes r.processes linked.processes h.processes;
  }
