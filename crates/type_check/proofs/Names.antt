-- Where no name is at fault, a start binds a session of which nobody holds a role yet.
use Rattle.std.proofs.Common.{◌≡◌, ℕ, List, [], ◌∷◌, ◌++◌, map, refl, sym, ap, ◌∙◌, subst, Some, None, Option, Bool, true, false, ◌==◌, ◌||◌, arith}
use Rattle.std.proofs.lemmas.Bool.Decides.{nat_tests}
use Rattle.std.specs.Prelude.{Contains, slice_get, Result, Ok, Err}
use Rattle.std.specs.List.{flat_map}
use Rattle.chor_base.specs.declared.names.NameId.{NameId}
use Rattle.chor_base.specs.declared.rule.Rule.{Rule}
use Rattle.chor_base.specs.declared.rule.Rule.TheVariants.{N2}
use Rattle.chor_base.specs.declared.value.Sort.{Sort}
use Rattle.chor_base.proofs.Members.{at_head}
use Rattle.chor_tree.specs.declared.file.File.{File}
use Rattle.chor_tree.specs.declared.file.Named.{Named as Written}
use Rattle.chor_tree.specs.declared.tree.Part.{Part}
use Rattle.chor_tree.specs.declared.tree.NodeId.{NodeId}
use Rattle.chor_tree.specs.declared.tree.Node.{Node as TreeNode}
use Rattle.chor_tree.specs.declared.tree.Form.{Form}
use Rattle.chor_tree.specs.declared.tree.Form.TheVariants.{Start, Value, Label, Give, Set, Host, Show, If, Call, End}
use Rattle.chor_tree.specs.Children.{children_of}
use Rattle.chor_tree.specs.Forms.{head_of}
use Rattle.chor_tree.specs.Names.{Scope, is_among, fault_at, repeated, unknown, unknown_process, wrong_parts, named_as_channel, channels_of, channel_of, node_faults, scope_after, here, further}
use Rattle.chor_tree.proofs.Nodes.{child_below}
use Rattle.delegation.specs.declared.held.Held.{Held}
use Rattle.delegation.specs.Owners.{Lacks, started}
use Rattle.delegation.proofs.Parts.{lacks_append, lacks_passed, own_started, apart}
use Rattle.typing_rules.specs.declared.allowed.EndpointType.{EndpointType}
use Rattle.typing_rules.specs.Environment.{Environment, step_at}
use Rattle.typing_rules.specs.Allowed.{value_sent, labels_sent, arm_in, endpoint_sent}
use Rattle.typing_rules.specs.After.{after, with_value, with_state, with_endpoint, with_sort}
use Rattle.typing_steps.specs.Known.{IsFresh}
use Rattle.type_check.specs.Resolved.{HoldInScope, IsResolved}

-- ---- lists

pub no_items : {A : Type 0} (xs : List A) → ((x : A) → Contains xs x → ⊥) → xs ≡ []
no_items [] h = refl
no_items (x ∷ xs) h = absurd (h x (at_head x xs x refl))

pub both_empty : {A : Type 0} (xs ys : List A) → xs ++ ys ≡ [] → (xs ≡ []) × (ys ≡ [])
both_empty [] ys h = (refl, h)
both_empty (x ∷ xs) ys h = absurd cc

pub no_fault_at : (b : Bool) (r : Rule) (x : Written) → fault_at b r x ≡ [] → b ≡ false
no_fault_at true r x h = absurd cc
no_fault_at false r x h = refl

pub false_or : (a b : Bool) → (a || b) ≡ false → (a ≡ false) × (b ≡ false)
false_or true b h = absurd cc
false_or false b h = (refl, h)

pub among_either : (xs ys : List NameId) (x : NameId) → is_among (xs ++ ys) x ≡ false → (is_among xs x ≡ false) × (is_among ys x ≡ false)
among_either [] ys x h = (refl, h)
among_either (z ∷ zs) ys x h = let w = false_or _ _ h in let u = among_either zs ys x w.1 in (ap (λ b. b || is_among zs x) w.0 ∙ u.0, u.1)

or_false : (b : Bool) → (b || false) ≡ false → b ≡ false
or_false true h = absurd cc
or_false false h = refl

pub eq_flip : (a b : ℕ) → (a == b) ≡ false → (b == a) ≡ false
eq_flip a b h = grind (arith, nat_tests)

-- ---- a start

-- nobody holds a role of the session that a start binds
start_fresh : (f : File) (hosts : List (List ℕ)) (scope : Scope) (hs : List Held) → HoldInScope scope hs → (c k : Written) (active serve : List Part) (next : NodeId)
    → node_faults f hosts scope (Start c k active serve next) ≡ [] → Lacks k.name hs
start_fresh f hosts scope hs held c k active serve next h =
    let A = unknown (channels_of f) c in
    let B = wrong_parts (channel_of f c.name) c active serve in
    let C = flat_map (λ (q : Part). unknown_process scope q.process) active in
    let D = named_as_channel f k in
    let E = repeated (scope.processes ++ scope.sessions) (k ∷ map (λ (q : Part). q.process) serve) in
    let twice = (both_empty (A ++ B ++ C ++ D) E h).1 in
    let first = (both_empty (fault_at (is_among (scope.processes ++ scope.sessions) k.name) N2 k) (repeated (k.name ∷ (scope.processes ++ scope.sessions)) (map (λ (q : Part). q.process) serve)) twice).0 in
    held k.name (among_either scope.processes scope.sessions k.name (no_fault_at (is_among (scope.processes ++ scope.sessions) k.name) N2 k first)).1

pub is_fresh : (f : File) (e : Environment) (id : NodeId) (n : TreeNode) → IsResolved f e id → slice_get f.tree.nodes id.0 ≡ Some n → IsFresh e n.form
is_fresh f e id n r at = go n.form (no_items (node_faults f r.hosts r.scope n.form) (λ x m. r.names x (here at m))) where
  go : (m : Form) → node_faults f r.hosts r.scope m ≡ [] → IsFresh e m
  go (Start c k active serve next) h = start_fresh f r.hosts r.scope e.owners r.held c k active serve next h
  go (Value a x b y k next) h = tt
  go (Label a b k l next) h = tt
  go (Give a b k given next) h = tt
  go (Set p y x next) h = tt
  go (Host p y g x z next) h = tt
  go (Show p x next) h = tt
  go (If p x first second) h = tt
  go (Call g ps ks) h = tt
  go End h = tt

-- ---- what a statement keeps

module _ (scope : Scope) (e : Environment) (held : HoldInScope scope e.owners) where
  held_value : (k q y : NameId) (o : Option (Sort × NameId)) → HoldInScope scope (with_value e k q y o).owners
  held_value k q y None = held
  held_value k q y (Some s) = held

  held_state : (k : NameId) (o : Option NameId) → HoldInScope scope (with_state e k o).owners
  held_state k None = held
  held_state k (Some s) = held

  held_endpoint : (k q : NameId) (given : Part) (o : Option (EndpointType × NameId)) → HoldInScope scope (with_endpoint e k q given o).owners
  held_endpoint k q given None = held
  held_endpoint k q given (Some t) = λ s off. lacks_passed given.process.name given.role.name q s e.owners (held s off)

  held_sort : (p y : NameId) (o : Result Sort Rule) → HoldInScope scope (with_sort e p y o).owners
  held_sort p y (Err r) = held
  held_sort p y (Ok s) = held

  held_started : (k : Written) (ps : List Part) → (s : NameId) → is_among (scope.sessions ++ k.name ∷ []) s ≡ false → Lacks s (e.owners ++ started k.name ps)
  held_started k ps s off =
      let w = among_either scope.sessions (k.name ∷ []) s off in
      lacks_append s e.owners (started k.name ps) (held s w.0) (apart k.name s (started k.name ps) (eq_flip k.name.0 s.0 (or_false _ w.1)) (own_started k.name ps))

  held_after : (f : File) (n : Form) → HoldInScope (scope_after scope n) (after f e (head_of n)).owners
  held_after f (Start c k active serve next) = held_started k (active ++ serve)
  held_after f (Value a x b y k next) = held_value k.name b.process.name y (value_sent a.role.name b.role.name (step_at f e k.name))
  held_after f (Label a b k l next) = held_state k.name (arm_in (labels_sent a.role.name b.role.name (step_at f e k.name)) l)
  held_after f (Give a b k given next) = held_endpoint k.name b.process.name given (endpoint_sent a.role.name b.role.name (step_at f e k.name))
  held_after f (Set p y x next) = held_sort p.name y _
  held_after f (Host p y g x z next) = held
  held_after f (Show p x next) = held
  held_after f (If p x first second) = held
  held_after f (Call g ps ks) = held
  held_after f End = held

-- nodes come after those that follow them
-- the names of a body that follows a node have no fault
pub resolved_next : (f : File) (e now : Environment) (id next : NodeId) (n : TreeNode) → IsResolved f e id → slice_get f.tree.nodes id.0 ≡ Some n → now ≡ after f e (head_of n.form) → Contains (children_of n.form) next
    → IsResolved f now next
resolved_next f e now id next n r at is m = record {
  hosts = r.hosts;
  scope = scope_after r.scope n.form;
  held = subst (λ (z : Environment). HoldInScope (scope_after r.scope n.form) z.owners) (sym is) (held_after r.scope e r.held f n.form);
  names = λ x h. r.names x (further at m h);
  is_there = (let lt = child_below f.tree.nodes id.0 n next f.tree.closed at m in let there = r.is_there in omega (arith, lt, there));
}
