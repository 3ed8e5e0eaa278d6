-- The first fault of a body, node by node.
use Rattle.std.proofs.Common.{◌≡◌, ℕ, ◌+◌, ◌<◌, ◌≤◌, length, drop, List, [], ◌∷◌, ◌++◌, map, refl, ap, sym, ◌∙◌, subst, not, inl, inr, ◌⊎◌}
use Rattle.std.specs.List.{flat_map}
use Rattle.std.proofs.lemmas.List.{drop_all}
use Rattle.std.specs.Prelude.{Option, Some, None, Contains, slice_get, slice_index_or, IfOk, Result}
use Rattle.std.proofs.lemmas.Result.{IfOk-weaker}
use Rattle.chor_base.specs.declared.names.NameId.{NameId}
use Rattle.chor_base.specs.declared.rule.Rule.TheVariants.{N1}
use Rattle.chor_tree.specs.declared.file.Named.{Named}
use Rattle.chor_tree.specs.declared.file.File.{File}
use Rattle.chor_tree.specs.declared.file.Proc.{Proc}
use Rattle.chor_tree.specs.declared.tree.NodeId.{NodeId}
use Rattle.chor_tree.specs.declared.tree.Node.{Node}
use Rattle.chor_tree.specs.declared.tree.Part.{Part}
use Rattle.chor_tree.specs.declared.tree.Form.{Form}
use Rattle.chor_tree.specs.declared.tree.Form.TheVariants.{Start, Value, Label, Give, Set, Host, Show, If, Call, End}
use Rattle.chor_tree.specs.Children.{children_of}
use Rattle.chor_base.specs.declared.fault.Fault.{Fault}
use Rattle.chor_tree.specs.Names.{Scope, fault_at, unknown, unknown_process, unknown_session, message_faults, unknown_function, wrong_parts, wrong_numbers, channels_of, channel_of, procedures_of, procedure_of, named_as_channel, repeated, node_faults, scope_after, scope_of_main, scope_of_procedure, declaration_faults, IsBodyFault, IsNameFault}
use Rattle.chor_tree.specs.Names.IsBodyFault.{here, further}
use Rattle.chor_tree.specs.Names.IsNameFault.{in_a_declaration, in_main, in_a_procedure}
use Rattle.chor_base.specs.Faults.{earlier, first_of_all, IsFirst}
use Rattle.name_resolution.specs.InProcedures.{IsFaultInProcedures}
use Rattle.name_resolution.specs.Sets.{AreAlike, IsSameScope}
use Rattle.chor_base.proofs.Members.{nowhere, at_head, at_tail, head_or_tail}
use Rattle.chor_base.proofs.Faults.{earlier_assoc, first_is_first, first_of_either, first_along, earlier_none}
use Rattle.name_resolution.proofs.Members.{alike_append, alike_itself}
use Rattle.name_resolution.proofs.Repeats.{repeated_alike, taken_from}

-- ---- scopes with the same names have the same faults

unknown_alike : (ks ls : List NameId) (x : Named) → AreAlike ks ls → unknown ks x ≡ unknown ls x
unknown_alike ks ls x h = ap (λ b. fault_at (not b) N1 x) (h x.name)

flat_map_same : {X : Type 0} (g h : X → List Fault) (xs : List X) → ((x : X) → g x ≡ h x) → flat_map g xs ≡ flat_map h xs
flat_map_same g h [] e = refl
flat_map_same g h (x ∷ xs) e = ap (λ l. l ++ flat_map g xs) (e x) ∙ ap (λ l. h x ++ l) (flat_map_same g h xs e)

module _ (s t : Scope) (same : IsSameScope s t) where
  process_same : (x : Named) → unknown_process s x ≡ unknown_process t x
  process_same x = unknown_alike s.processes t.processes x same.processes

  session_same : (x : Named) → unknown_session s x ≡ unknown_session t x
  session_same x = unknown_alike s.sessions t.sessions x same.sessions

  message_same : (a b : Part) (k : Named) → message_faults s a b k ≡ message_faults t a b k
  message_same a b k =
      ap (λ l. l ++ unknown_process s b.process ++ unknown_session s k) (process_same a.process)
      ∙ ap (λ l. unknown_process t a.process ++ l ++ unknown_session s k) (process_same b.process)
      ∙ ap (λ l. unknown_process t a.process ++ unknown_process t b.process ++ l) (session_same k)

  node_same : (f : File) (hosts : List (List ℕ)) (n : Form) → node_faults f hosts s n ≡ node_faults f hosts t n
  node_same f hosts (Start c k active serve next) =
      let before = unknown (channels_of f) c ++ wrong_parts (channel_of f c.name) c active serve in
      ap (λ l. before ++ l ++ named_as_channel f k ++ repeated (s.processes ++ s.sessions) (k ∷ map (λ q. q.process) serve)) (flat_map_same (λ q. unknown_process s q.process) (λ q. unknown_process t q.process) active (λ q. process_same q.process))
      ∙ ap (λ l. before ++ flat_map (λ q. unknown_process t q.process) active ++ named_as_channel f k ++ l) (repeated_alike (s.processes ++ s.sessions) (t.processes ++ t.sessions) (k ∷ map (λ q. q.process) serve) (alike_append s.processes t.processes s.sessions t.sessions same.processes same.sessions))
  node_same f hosts (Value a e b x k next) = message_same a b k
  node_same f hosts (Label a b k l next) = message_same a b k
  node_same f hosts (Give a b k given next) = ap (λ l. l ++ unknown_session s given.process) (message_same a b k) ∙ ap (λ l. message_faults t a b k ++ l) (session_same given.process)
  node_same f hosts (Set p x e next) = process_same p
  node_same f hosts (Host p x h a b next) = ap (λ l. l ++ unknown_function f hosts h) (process_same p)
  node_same f hosts (Show p e next) = process_same p
  node_same f hosts (If p e first second) = process_same p
  node_same f hosts (Call g ps ks) =
      let before = unknown (procedures_of f) g ++ wrong_numbers (procedure_of f g.name) g ps ks in
      ap (λ l. before ++ l ++ flat_map (unknown_session s) ks) (flat_map_same (unknown_process s) (unknown_process t) ps process_same)
      ∙ ap (λ l. before ++ flat_map (unknown_process t) ps ++ l) (flat_map_same (unknown_session s) (unknown_session t) ks session_same)
  node_same f hosts End = refl

  after_same : (n : Form) → IsSameScope (scope_after s n) (scope_after t n)
  after_same (Start c k active serve next) = record {
    processes = alike_append s.processes t.processes (map (λ q. q.process.name) serve) (map (λ q. q.process.name) serve) same.processes (alike_itself (map (λ q. q.process.name) serve));
    sessions = alike_append s.sessions t.sessions (k.name ∷ []) (k.name ∷ []) same.sessions (alike_itself (k.name ∷ []));
  }
  after_same (Value a e b x k next) = same
  after_same (Label a b k l next) = same
  after_same (Give a b k given next) = same
  after_same (Set p x e next) = same
  after_same (Host p x h a b next) = same
  after_same (Show p e next) = same
  after_same (If p e first second) = same
  after_same (Call g ps ks) = same
  after_same End = same

pub turned_scope : (s t : Scope) → IsSameScope s t → IsSameScope t s
turned_scope s t h = record { processes = λ x. sym (h.processes x); sessions = λ x. sym (h.sessions x) }

pub body_same : (f : File) (hosts : List (List ℕ)) (x : Fault) (s t : Scope) (id : NodeId) → IsSameScope s t → IsBodyFault f hosts x s id → IsBodyFault f hosts x t id
body_same f hosts x s t id same (here {n = n} at m) = here at (subst (λ l. Contains l x) (node_same s t same f hosts n.form) m)
body_same f hosts x s t id same (further {next = next} {n = n} at c b) = further at c (body_same f hosts x (scope_after s n.form) (scope_after t n.form) next (after_same s t same n.form) b)

-- ---- one node

module _ (f : File) (hosts : List (List ℕ)) where
  -- a fault of a body that begins at one of these nodes
  abbrev pub IsFaultAfter : Scope → List NodeId → Fault → Type 0
  IsFaultAfter s ids x = (next : NodeId) × Contains ids next × IsBodyFault f hosts x s next

  pub after_none : (s : Scope) → IsFirst (IsFaultAfter s []) None
  after_none s x a = nowhere a.0 a.1

  pub after_one : (s : Scope) (next : NodeId) (o : Option Fault) → IsFirst (λ x. IsBodyFault f hosts x s next) o → IsFirst (IsFaultAfter s (next ∷ [])) o
  after_one s next o h = first_along (λ x. IsBodyFault f hosts x s next) (IsFaultAfter s (next ∷ [])) o h
      (λ x b. (next, at_head next [] next refl, b))
      (λ x a. elim (head_or_tail next [] a.0 a.1) [ inl e ↦ subst (λ n. IsBodyFault f hosts x s n) (sym e) a.2 | inr m ↦ absurd (nowhere a.0 m) ])

  pub after_two : (s : Scope) (one other : NodeId) (o p : Option Fault) → IsFirst (λ x. IsBodyFault f hosts x s one) o → IsFirst (λ x. IsBodyFault f hosts x s other) p → IsFirst (IsFaultAfter s (one ∷ other ∷ [])) (earlier o p)
  after_two s one other o p h k =
      first_of_either (λ x. IsBodyFault f hosts x s one) (IsFaultAfter s (other ∷ [])) (IsFaultAfter s (one ∷ other ∷ [])) o p h (after_one s other p k)
      (λ x b. (one, at_head one (other ∷ []) one refl, b))
      (λ x a. (a.0, at_tail one (other ∷ []) a.0 a.1, a.2))
      (λ x a. elim (head_or_tail one (other ∷ []) a.0 a.1) [ inl e ↦ inl (subst (λ n. IsBodyFault f hosts x s n) (sym e) a.2) | inr m ↦ inr (a.0, m, a.2) ])

  pub no_node : (s : Scope) (id : NodeId) → slice_get f.tree.nodes id.0 ≡ None → IsFirst (λ x. IsBodyFault f hosts x s id) None
  no_node s id none x (here at m) = absurd cc
  no_node s id none x (further at c b) = absurd cc

  -- a node that is there, and what follows it with what it binds
  module _ (s after : Scope) (id : NodeId) (n : Node) (found o : Option Fault) where
    pub node_first : slice_get f.tree.nodes id.0 ≡ Some n → found ≡ first_of_all (node_faults f hosts s n.form) → IsSameScope after (scope_after s n.form)
        → IsFirst (IsFaultAfter after (children_of n.form)) o → IsFirst (λ x. IsBodyFault f hosts x s id) (earlier found o)
    node_first at is same h =
        first_of_either (Contains (node_faults f hosts s n.form)) (IsFaultAfter after (children_of n.form)) (λ x. IsBodyFault f hosts x s id) found o
        (subst (λ p. IsFirst (Contains (node_faults f hosts s n.form)) p) (sym is) (first_is_first (node_faults f hosts s n.form))) h
        (λ x m. here at m)
        (λ x a. further at a.1 (body_same f hosts x after (scope_after s n.form) a.0 same a.2))
        (λ x b. split x b) where
          split : (x : Fault) → IsBodyFault f hosts x s id → Contains (node_faults f hosts s n.form) x ⊎ IsFaultAfter after (children_of n.form) x
          split x (here {n = m} at' c) = let e : m ≡ n = cc in inl (subst (λ k. Contains (node_faults f hosts s k.form) x) e c)
          split x (further {next = next} {n = m} at' c b) =
              let e : m ≡ n = cc in
              inr (
                next,
                subst (λ k. Contains (children_of k.form) next) e c,
                body_same f hosts x (scope_after s n.form) after next (turned_scope after (scope_after s n.form) same) (subst (λ k. IsBodyFault f hosts x (scope_after s k.form) next) e b),
              )

  -- the same, where faults were found before, and W is what is looked for in the whole
  module _ (W : Fault → Type 0) (s after : Scope) (id : NodeId) (n : Node) (first found new : Option Fault) (ids : List NodeId) where
    pub node_then : slice_get f.tree.nodes id.0 ≡ Some n → found ≡ first_of_all (node_faults f hosts s n.form) → IsSameScope after (scope_after s n.form)
        → new ≡ earlier first found → ids ≡ children_of n.form
        → ((o : Option Fault) → IsFirst (λ x. IsBodyFault f hosts x s id) o → IsFirst W (earlier first o))
        → (o : Option Fault) → IsFirst (IsFaultAfter after ids) o → IsFirst W (earlier new o)
    node_then at is same is_new ids_are rest o h =
        let of_node : IsFirst (λ x. IsBodyFault f hosts x s id) (earlier found o) = node_first s after id n found o at is same (subst (λ l. IsFirst (IsFaultAfter after l) o) ids_are h) in
        subst (λ p. IsFirst W p) (sym (earlier_assoc first found o) ∙ ap (λ p. earlier p o) (sym is_new)) (rest (earlier found o) of_node)

    pub node_last : slice_get f.tree.nodes id.0 ≡ Some n → found ≡ first_of_all (node_faults f hosts s n.form) → IsSameScope after (scope_after s n.form)
        → new ≡ earlier first found → [] ≡ children_of n.form
        → ((o : Option Fault) → IsFirst (λ x. IsBodyFault f hosts x s id) o → IsFirst W (earlier first o))
        → IsFirst W new
    node_last at is same is_new none rest =
        let of_node : IsFirst (λ x. IsBodyFault f hosts x s id) (earlier found None) = node_first s after id n found None at is same (subst (λ l. IsFirst (IsFaultAfter after l) None) none (after_none after)) in
        subst (λ p. IsFirst W p) (ap (λ p. earlier first p) (earlier_none found) ∙ sym is_new) (rest (earlier found None) of_node)

  pub walk_ends : (W : Fault → Type 0) (s : Scope) (id : NodeId) (first : Option Fault) → None ≡ slice_get f.tree.nodes id.0
      → ((o : Option Fault) → IsFirst (λ x. IsBodyFault f hosts x s id) o → IsFirst W (earlier first o)) → IsFirst W first
  walk_ends W s id first none rest = subst (λ p. IsFirst W p) (earlier_none first) (rest None (no_node s id (sym none)))

  pub first_same : (s t : Scope) (id : NodeId) (o : Option Fault) → IsSameScope s t → IsFirst (λ x. IsBodyFault f hosts x s id) o → IsFirst (λ x. IsBodyFault f hosts x t id) o
  first_same s t id o same h =
      first_along (λ x. IsBodyFault f hosts x s id) (λ x. IsBodyFault f hosts x t id) o h
      (λ x b. body_same f hosts x s t id same b) (λ x b. body_same f hosts x t s id (turned_scope s t same) b)

  pub ok_same : {E : Type 0} (s t : Scope) (id : NodeId) (r : Result (Option Fault) E) → IsSameScope s t → IfOk r (IsFirst (λ x. IsBodyFault f hosts x s id)) → IfOk r (IsFirst (λ x. IsBodyFault f hosts x t id))
  ok_same s t id r same = IfOk-weaker r (IsFirst (λ x. IsBodyFault f hosts x s id)) (IsFirst (λ x. IsBodyFault f hosts x t id)) (λ o. first_same s t id o same)

  -- ---- bodies of procedures

  pub procedures_begin : (ps : List Proc) (o : Option Fault) → IsFirst (IsFaultInProcedures f hosts ps) o → IsFirst (IsFaultInProcedures f hosts ps) (earlier None o)
  procedures_begin ps o h = h

  pub procedures_turn : (W : Fault → Type 0) (old one new : Option Fault) (ys ps : List Proc) (i : ℕ) (p : Proc)
      → ys ≡ ps → i < length ys → p ≡ slice_index_or ys i p
      → IsFirst (λ x. IsBodyFault f hosts x (scope_of_procedure p) p.body) one → new ≡ earlier old one
      → ((o : Option Fault) → IsFirst (IsFaultInProcedures f hosts (drop i ps)) o → IsFirst W (earlier old o))
      → (o : Option Fault) → IsFirst (IsFaultInProcedures f hosts (drop (i + 1) ps)) o → IsFirst W (earlier new o)
  procedures_turn W old one new ys ps i p same lt is_p h is_new rest o k =
      let tail = drop (i + 1) ps in
      let both : IsFirst (IsFaultInProcedures f hosts (p ∷ tail)) (earlier one o) =
      first_of_either (λ x. IsBodyFault f hosts x (scope_of_procedure p) p.body) (IsFaultInProcedures f hosts tail) (IsFaultInProcedures f hosts (p ∷ tail)) one o h k
      (λ x b. (p, at_head p tail p refl, b))
      (λ x a. (a.0, at_tail p tail a.0 a.1, a.2))
      (λ x a. elim (head_or_tail p tail a.0 a.1) [ inl e ↦ inl (subst (λ q. IsBodyFault f hosts x (scope_of_procedure q) q.body) (sym e) a.2) | inr m ↦ inr (a.0, m, a.2) ]) in
      let left : IsFirst (IsFaultInProcedures f hosts (drop i ps)) (earlier one o) = subst (λ l. IsFirst (IsFaultInProcedures f hosts l) (earlier one o)) (sym (taken_from ys ps i p p same lt is_p)) both in
      subst (λ q. IsFirst W q) (sym (earlier_assoc old one o) ∙ ap (λ q. earlier q o) (sym is_new)) (rest (earlier one o) left)

  pub procedures_end : (W : Fault → Type 0) (first : Option Fault) (ys ps : List Proc) (i : ℕ) → ys ≡ ps → length ys ≤ i
      → ((o : Option Fault) → IsFirst (IsFaultInProcedures f hosts (drop i ps)) o → IsFirst W (earlier first o)) → IsFirst W first
  procedures_end W first ys ps i same le rest =
      let none : drop i ps ≡ [] = drop_all i ps (subst (λ l. length l ≤ i) same le) in
      let empty : IsFirst (IsFaultInProcedures f hosts (drop i ps)) None = subst (λ l. IsFirst (IsFaultInProcedures f hosts l) None) (sym none) (λ x a. nowhere a.0 a.1) in
      subst (λ q. IsFirst W q) (earlier_none first) (rest None empty)

  -- ---- the whole file

  abbrev IsInBody : Fault → Type 0
  IsInBody x = IsBodyFault f hosts x (scope_of_main f) f.body ⊎ IsFaultInProcedures f hosts f.procs x

  pub file_first : (a b c : Option Fault) → a ≡ first_of_all (declaration_faults f) → IsFirst (λ x. IsBodyFault f hosts x (scope_of_main f) f.body) b
      → IsFirst (IsFaultInProcedures f hosts f.procs) c → IsFirst (IsNameFault f hosts) (earlier a (earlier b c))
  file_first a b c is_a h k =
      let in_declarations : IsFirst (Contains (declaration_faults f)) a = subst (λ o. IsFirst (Contains (declaration_faults f)) o) (sym is_a) (first_is_first (declaration_faults f)) in
      let in_bodies : IsFirst IsInBody (earlier b c) =
      first_of_either (λ x. IsBodyFault f hosts x (scope_of_main f) f.body) (IsFaultInProcedures f hosts f.procs) IsInBody b c h k (λ x m. inl m) (λ x m. inr m) (λ x m. m) in
      first_of_either (Contains (declaration_faults f)) IsInBody (IsNameFault f hosts) a (earlier b c) in_declarations in_bodies
      (λ x m. in_a_declaration m)
      (λ x m. elim m [ inl b ↦ in_main b | inr a ↦ in_a_procedure a.1 a.2 ])
      (λ x m. which x m) where
        which : (x : Fault) → IsNameFault f hosts x → Contains (declaration_faults f) x ⊎ IsInBody x
        which x (in_a_declaration m) = inl m
        which x (in_main b) = inr (inl b)
        which x (in_a_procedure {p = p} m b) = inr (inr (p, m, b))
