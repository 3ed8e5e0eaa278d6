-- How a file of which nothing violates a rule is shown to have no fault.
use Rattle.std.proofs.Common.{◌≡◌, ℕ, zero, suc, List, [], ◌∷◌, sym, ◌∙◌, subst, Some, None, arith}
use Rattle.std.specs.Prelude.{Contains, slice_get}
use Rattle.chor_base.specs.declared.fault.Fault.{Fault}
use Rattle.chor_base.specs.declared.rule.Rule.{Rule}
use Rattle.chor_tree.specs.declared.file.File.{File}
use Rattle.chor_tree.specs.declared.tree.Node.{Node as TreeNode}
use Rattle.chor_tree.specs.declared.tree.NodeId.{NodeId}
use Rattle.chor_tree.specs.Children.{children_of}
use Rattle.chor_tree.specs.Names.{Scope, node_faults, scope_after, IsBodyFault as IsNameBodyFault, here as name_here, further as name_further}
use Rattle.chor_tree.specs.Source.{Block, Then, Either, Calls, Ends}
use Rattle.delegation.specs.Checks.{Check}
use Rattle.typing_rules.specs.Environment.{Environment}
use Rattle.typing_rules.specs.Checks.{rule_at}
use Rattle.typing_rules.specs.After.{after}
use Rattle.typing_rules.specs.TypeFaults.{IsBodyFault, here, further}
use Rattle.typed_sources.proofs.Checked.{some_is}

pub no_member : {A : Type 0} (x : A) → Contains [] x → ⊥
no_member x (i, l, e) = absurd (omega (arith, l))

pub one_member : {A : Type 0} (x y : A) → Contains (y ∷ []) x → y ≡ x
one_member x y (zero, l, e) = e
one_member x y (suc i, l, e) = absurd (omega (arith, l))

-- ---- names

module _ (f : File) (hosts : List (List ℕ)) (x : Fault) where
  -- a node without fault that one other follows
  pub along : (scope : Scope) (id c : NodeId) (n : TreeNode) → slice_get f.tree.nodes id.0 ≡ Some n → node_faults f hosts scope n.form ≡ [] → children_of n.form ≡ c ∷ []
      → (IsNameBodyFault f hosts x (scope_after scope n.form) c → ⊥) → IsNameBodyFault f hosts x scope id → ⊥
  along scope id c n is fine follows next (name_here {n = o} is' m) =
      let same : o ≡ n = some_is o n (sym is' ∙ is) in
      no_member x (subst (λ l. Contains l x) fine (subst (λ (z : TreeNode). Contains (node_faults f hosts scope z.form) x) same m))
  along scope id c n is fine follows next (name_further {next = d} {n = o} is' m h) =
      let same : o ≡ n = some_is o n (sym is' ∙ is) in
      let there : c ≡ d = one_member d c (subst (λ l. Contains l d) follows (subst (λ (z : TreeNode). Contains (children_of z.form) d) same m)) in
      next (subst (IsNameBodyFault f hosts x (scope_after scope n.form)) (sym there) (subst (λ (z : TreeNode). IsNameBodyFault f hosts x (scope_after scope z.form) d) same h))

  -- a node without fault that is the last
  pub at_last : (scope : Scope) (id : NodeId) (n : TreeNode) → slice_get f.tree.nodes id.0 ≡ Some n → node_faults f hosts scope n.form ≡ [] → children_of n.form ≡ [] → IsNameBodyFault f hosts x scope id → ⊥
  at_last scope id n is fine follows (name_here {n = o} is' m) =
      let same : o ≡ n = some_is o n (sym is' ∙ is) in
      no_member x (subst (λ l. Contains l x) fine (subst (λ (z : TreeNode). Contains (node_faults f hosts scope z.form) x) same m))
  at_last scope id n is fine follows (name_further {next = d} {n = o} is' m h) =
      let same : o ≡ n = some_is o n (sym is' ∙ is) in
      no_member d (subst (λ l. Contains l d) follows (subst (λ (z : TreeNode). Contains (children_of z.form) d) same m))

-- ---- types

-- nothing in a block violates a rule
abbrev pub IsClear : File → Environment → Block → Type 0
IsClear f e (Then place s next) = (rule_at f e (Then place s next) ≡ None) × IsClear f (after f e (Then place s next)) next
IsClear f e (Either place p x first second) =
    (rule_at f e (Either place p x first second) ≡ None) × IsClear f (after f e (Either place p x first second)) first × IsClear f (after f e (Either place p x first second)) second
IsClear f e (Calls place g ps ks) = rule_at f e (Calls place g ps ks) ≡ None
IsClear f e (Ends place) = rule_at f e (Ends place) ≡ None

module _ (f : File) (x : Fault) where
  none_some : (c : Check) (r : Rule) → c ≡ None → c ≡ Some r → ⊥
  none_some c r i j = cc

  pub no_fault : (b : Block) (e : Environment) → IsClear f e b → IsBodyFault f x e b → ⊥
  no_fault (Then place s next) e c (here r p) = none_some (rule_at f e (Then place s next)) x.rule c.0 r
  no_fault (Then place s next) e c (further {next = n} r m h) = no_fault next (after f e (Then place s next)) c.1 (subst (IsBodyFault f x (after f e (Then place s next))) (sym (one_member n next m)) h)
  no_fault (Either place p y first second) e c (here r q) = none_some (rule_at f e (Either place p y first second)) x.rule c.0 r
  no_fault (Either place p y first second) e c (further {next = n} r (zero, l, i) h) = no_fault first (after f e (Either place p y first second)) c.1 (subst (IsBodyFault f x (after f e (Either place p y first second))) (sym i) h)
  no_fault (Either place p y first second) e c (further {next = n} r (suc zero, l, i) h) = no_fault second (after f e (Either place p y first second)) c.2 (subst (IsBodyFault f x (after f e (Either place p y first second))) (sym i) h)
  no_fault (Either place p y first second) e c (further {next = n} r (suc (suc j), l, i) h) = absurd (omega (arith, l))
  no_fault (Calls place g ps ks) e c (here r p) = none_some (rule_at f e (Calls place g ps ks)) x.rule c r
  no_fault (Calls place g ps ks) e c (further {next = n} r m h) = no_member n m
  no_fault (Ends place) e c (here r p) = none_some (rule_at f e (Ends place)) x.rule c r
  no_fault (Ends place) e c (further {next = n} r m h) = no_member n m
