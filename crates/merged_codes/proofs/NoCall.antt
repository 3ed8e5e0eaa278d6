-- Code that doesn't begin with a call: its node and its tree.
use Rattle.std.proofs.Common.{◌≡◌, ◌<◌, ℕ, zero, suc, false, List, [], ◌∷◌, length, Option, Some, None, refl, sym, subst, arith}
use Rattle.std.specs.Prelude.{slice_get}
use Rattle.chor_base.specs.declared.names.NameId.{NameId}
use Rattle.endpoint_code.specs.declared.code.CodeId.{CodeId}
use Rattle.endpoint_code.specs.declared.code.CodeNode.{CodeNode}
use Rattle.endpoint_code.specs.declared.code.CodeNode.TheVariants.{Join, Send, Recv, Pick, Branch, Throw, Catch, Set, Show, Host, If, Call, End}
use Rattle.endpoint_code.specs.declared.endpoints.Endpoints.{Endpoints}
use Rattle.endpoint_code.specs.Above as above
use Rattle.endpoint_code.specs.Above.{IsAbove}
use Rattle.endpoint_code.specs.Faults.{begins_with_call}
use Rattle.endpoint_code.specs.Network.{node_at}
use Rattle.endpoint_code.specs.Trees as tree
use Rattle.endpoint_code.specs.Trees.{CodeTree, code_at, node_tree, trees_of}
use Rattle.endpoint_code.proofs.CodeTables.{code_at-node}
use Rattle.same_programs.specs.Codes.{SameCode, does, offers, tests, calls, ends}

-- the code isn't a call
abbrev pub IsNoCall : CodeTree → Type 0
IsNoCall (tree.Calls f p ss) = ⊥
IsNoCall (tree.Does a c) = Unit {0}
IsNoCall (tree.Offers k a arms) = Unit {0}
IsNoCall (tree.Tests e c d) = Unit {0}
IsNoCall tree.Ends = Unit {0}

-- code above it or the same as it isn't one either
pub above_no_call : {q p : CodeTree} → IsAbove q p → IsNoCall p → IsNoCall q
above_no_call (above.does a) h = tt
above_no_call (above.offers a) h = tt
above_no_call (above.tests a b) h = tt
above_no_call above.calls h = h
above_no_call above.ends h = tt

pub no_call_same : {N : NameId → NameId → Type 0} {T : ℕ → ℕ → Type 0} {c d : CodeTree} → SameCode N T c d → IsNoCall c → IsNoCall d
no_call_same (does a s) h = tt
no_call_same (offers k a s) h = tt
no_call_same (tests t s r) h = tt
no_call_same (calls i j s) h = absurd h
no_call_same ends h = tt

module _ (e : Endpoints) where
  to_tree : (n : CodeNode) → begins_with_call (Some n) ≡ false → IsNoCall (node_tree (trees_of e.code.nodes) n)
  to_tree (Join c r k next) h = tt
  to_tree (Send k b x next) h = tt
  to_tree (Recv k a x next) h = tt
  to_tree (Pick k b l next) h = tt
  to_tree (Branch k a arms) h = tt
  to_tree (Throw k b z next) h = tt
  to_tree (Catch k a z next) h = tt
  to_tree (Set x v next) h = tt
  to_tree (Show v next) h = tt
  to_tree (Host x g u v next) h = tt
  to_tree (If v g z) h = tt
  to_tree (Call g p ss) h = absurd cc
  to_tree End h = tt

  to_node : (n : CodeNode) → IsNoCall (node_tree (trees_of e.code.nodes) n) → begins_with_call (Some n) ≡ false
  to_node (Join c r k next) h = refl
  to_node (Send k b x next) h = refl
  to_node (Recv k a x next) h = refl
  to_node (Pick k b l next) h = refl
  to_node (Branch k a arms) h = refl
  to_node (Throw k b z next) h = refl
  to_node (Catch k a z next) h = refl
  to_node (Set x v next) h = refl
  to_node (Show v next) h = refl
  to_node (Host x g u v next) h = refl
  to_node (If v g z) h = refl
  to_node (Call g p ss) h = absurd h
  to_node End h = refl

  is_there : {A : Type 0} (xs : List A) (k : ℕ) → k < length xs → slice_get xs k ≡ None → ⊥
  is_there [] k h i = omega arith
  is_there (x ∷ xs) zero h i = absurd cc
  is_there (x ∷ xs) (suc k) h i = is_there xs k (omega arith) i

  pub no_call_code : (q : CodeId) → q.0 < length e.code.nodes → begins_with_call (node_at e q) ≡ false → IsNoCall (code_at e.code.nodes q)
  no_call_code q inside h = go (node_at e q) refl
    where
      go : (o : Option CodeNode) → node_at e q ≡ o → IsNoCall (code_at e.code.nodes q)
      go None i = absurd (is_there e.code.nodes q.0 inside i)
      go (Some n) i = subst IsNoCall (sym (code_at-node e.code.nodes q n e.code.closed i)) (to_tree n (subst (λ (o : Option CodeNode). begins_with_call o ≡ false) i h))

  pub no_call_at : (q : CodeId) → IsNoCall (code_at e.code.nodes q) → begins_with_call (node_at e q) ≡ false
  no_call_at q h = go (node_at e q) refl
    where
      go : (o : Option CodeNode) → node_at e q ≡ o → begins_with_call o ≡ false
      go None i = refl
      go (Some n) i = to_node n (subst IsNoCall (code_at-node e.code.nodes q n e.code.closed i) h)
