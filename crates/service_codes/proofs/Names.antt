-- What holds of the nodes that stand in a body of a file without fault of names.
use Rattle.std.proofs.Common.{◌≡◌, ℕ, zero, suc, ◌<◌, ◌==◌, ◌||◌, Bool, true, false, List, [], ◌∷◌, ◌++◌, length, map, refl, sym, ap, ◌∙◌, subst, Some, arith}
use Rattle.std.specs.Prelude.{Contains, All, slice_get, nat_lt}
use Rattle.std.specs.List.{flat_map, list_all}
use Rattle.std.proofs.lemmas.Bool.{and_parts, eqb-true}
use Rattle.std.proofs.lemmas.Bool.Decides.{nat_tests}
use Rattle.std.proofs.lemmas.List.Elements.{All-nil, All-cons, All-head, All-tail, All-append, All-map, All-contains}
use Rattle.chor_base.specs.declared.names.NameId.{NameId}
use Rattle.chor_base.specs.declared.fault.Fault.{Fault}
use Rattle.chor_base.specs.declared.rule.Rule.TheVariants.{N2}
use Rattle.chor_base.proofs.Members.{at_head, at_tail}
use Rattle.chor_tree.specs.declared.file.File.{File}
use Rattle.chor_tree.specs.declared.file.Named.{Named as Written}
use Rattle.chor_tree.specs.declared.file.Service.{Service}
use Rattle.chor_tree.specs.declared.file.Proc.{Proc}
use Rattle.chor_tree.specs.declared.file.SessionParam.{SessionParam}
use Rattle.chor_tree.specs.declared.file.ProcParam.{ProcParam}
use Rattle.chor_tree.specs.declared.tree.Part.{Part}
use Rattle.chor_tree.specs.declared.tree.NodeId.{NodeId}
use Rattle.chor_tree.specs.declared.tree.Node.{Node as TreeNode}
use Rattle.chor_tree.specs.declared.tree.Form.{Form}
use Rattle.chor_tree.specs.declared.tree.Form.TheVariants.{Start, Value, Label, Give, Set, Host, Show, If, Call, End}
use Rattle.chor_tree.specs.Children.{children_of}
use Rattle.chor_tree.specs.Names.{Scope, is_among, unknown, unknown_role, unknown_process, unknown_session, repeated, named_as_channel, wrong_parts, wrong_numbers, message_faults, node_faults, channels_of, channel_of, procedures_of, procedure_of, protocols_of, protocol_of, protocol_faults, channel_faults, session_faults, procedure_faults, declaration_faults, scope_after, IsBodyFault, here, further, in_a_declaration, in_main, in_a_procedure}
use Rattle.chor_semantics.specs.Sources.{name_ref, form_tree, trees_of}
use Rattle.projection.specs.Projects.{body_at}
use Rattle.projection.specs.Renamed.{IsOther, AreOther, IsUnused}
use Rattle.projection.proofs.TreeTables.{tree_at-node}
use Rattle.service_codes.specs.Starts.{HasNamesResolved, Stands, main_begins, procedure_begins, follows}
use Rattle.service_codes.proofs.Lists.{no_items, both_empty, each_empty, no_fault_at, is_known, name_same, first_is}

-- ---- bodies stand in the table

below : (m n : ℕ) → nat_lt m n ≡ true → m < n
below m n h = grind (arith, nat_tests)

pub body_inside : (f : File) → f.body.0 < length f.tree.nodes
body_inside f = below f.body.0 (length f.tree.nodes) (and_parts _ _ f.kept.begin).0

pub procs_inside : (f : File) → All (λ h. h.body.0 < length f.tree.nodes) f.procs
procs_inside f = all f.procs (and_parts _ _ f.kept.begin).1
  where
    all : (hs : List Proc) → list_all (λ (b : NodeId). nat_lt b.0 (length f.tree.nodes)) (map (λ p. p.body) hs) ≡ true → All (λ h. h.body.0 < length f.tree.nodes) hs
    all [] e = All-nil (λ h. h.body.0 < length f.tree.nodes)
    all (h ∷ hs) e = let both = and_parts _ _ e in All-cons (λ h. h.body.0 < length f.tree.nodes) h hs (below h.body.0 (length f.tree.nodes) both.0) (all hs both.1)

pub child_below : (f : File) (id next : NodeId) (n : TreeNode) → slice_get f.tree.nodes id.0 ≡ Some n → Contains (children_of n.form) next → next.0 < id.0
child_below f id next n at m = All-contains (λ c. c.0 < id.0) (children_of n.form) next (f.tree.closed id.0 n at) m

pub inside : (f : File) (s : Scope) (id : NodeId) → Stands f s id → id.0 < length f.tree.nodes
inside f s id (main_begins e i) = subst (λ (j : NodeId). j.0 < length f.tree.nodes) (sym i) (body_inside f)
inside f s id (procedure_begins {p = p} m e i) =
    subst (λ (j : NodeId). j.0 < length f.tree.nodes) (sym i) (All-contains (λ (h : Proc). h.body.0 < length f.tree.nodes) f.procs p (procs_inside f) m)
inside f s id (follows {t = t} {before = before} {n = n} h at m e) = let a = inside f t before h in let b = child_below f before id n at m in omega (arith, a, b)

-- ---- no fault

module _ (f : File) (r : HasNamesResolved f) where
  no_body_fault : (s : Scope) (id : NodeId) → Stands f s id → (x : Fault) → IsBodyFault f r.hosts x s id → ⊥
  no_body_fault s id (main_begins e i) x h =
      r.names x (in_main (subst (λ (t : Scope). IsBodyFault f r.hosts x t f.body) e (subst (λ (j : NodeId). IsBodyFault f r.hosts x s j) i h)))
  no_body_fault s id (procedure_begins {p = p} m e i) x h =
      r.names x (in_a_procedure m (subst (λ (t : Scope). IsBodyFault f r.hosts x t p.body) e (subst (λ (j : NodeId). IsBodyFault f r.hosts x s j) i h)))
  no_body_fault s id (follows {t = t} {before = before} g at m e) x h =
      no_body_fault t before g x (further at m (subst (λ (u : Scope). IsBodyFault f r.hosts x u id) e h))

  pub node_fine : (s : Scope) (id : NodeId) (n : TreeNode) → Stands f s id → slice_get f.tree.nodes id.0 ≡ Some n → node_faults f r.hosts s n.form ≡ []
  node_fine s id n g at = no_items (node_faults f r.hosts s n.form) (λ x m. no_body_fault s id g x (here at m))

  declared_fine : declaration_faults f ≡ []
  declared_fine = no_items (declaration_faults f) (λ x m. r.names x (in_a_declaration m))

  -- a start has its channel's roles, and its session isn't named as a channel
  pub start_fine : (s : Scope) (c k : Written) (active serve : List Part) (next : NodeId) → node_faults f r.hosts s (Start c k active serve next) ≡ []
      → (wrong_parts (channel_of f c.name) c active serve ≡ []) × (is_among (channels_of f) k.name ≡ false)
  start_fine s c k active serve next h =
      let A = unknown (channels_of f) c in
      let B = wrong_parts (channel_of f c.name) c active serve in
      let C = flat_map (λ (q : Part). unknown_process s q.process) active in
      let D = named_as_channel f k in
      let E = repeated (s.processes ++ s.sessions) (k ∷ map (λ (q : Part). q.process) serve) in
      let w0 = both_empty (A ++ B ++ C ++ D) E h in
      let w1 = both_empty (A ++ B ++ C) D w0.0 in
      let w2 = both_empty (A ++ B) C w1.0 in
      ((both_empty A B w2.0).1, no_fault_at (is_among (channels_of f) k.name) N2 k w1.1)

  -- ---- sessions aren't named as channels

  abbrev IsNoChannel : NameId → Type 0
  IsNoChannel k = is_among (channels_of f) k ≡ false

  procedures_fine : flat_map (procedure_faults f) f.procs ≡ []
  procedures_fine =
      let A = repeated [] (map (λ p. p.name) f.protocols) ++ flat_map (protocol_faults f) f.protocols ++ repeated [] (map (λ s. s.name) f.services) ++ flat_map (channel_faults f) f.services ++ repeated [] (map (λ p. p.name) f.procs) in
      let B = flat_map (procedure_faults f) f.procs in
      (both_empty A B (both_empty (A ++ B) (repeated [] f.processes) declared_fine).0).1

  services_fine : repeated [] (map (λ s. s.name) f.services) ≡ []
  services_fine =
      let P = repeated [] (map (λ p. p.name) f.protocols) ++ flat_map (protocol_faults f) f.protocols in
      let S = repeated [] (map (λ s. s.name) f.services) in
      let C = flat_map (channel_faults f) f.services in
      let R = repeated [] (map (λ p. p.name) f.procs) in
      let B = flat_map (procedure_faults f) f.procs in
      let w0 = (both_empty (P ++ S ++ C ++ R ++ B) (repeated [] f.processes) declared_fine).0 in
      let w1 = (both_empty (P ++ S ++ C ++ R) B w0).0 in
      let w2 = (both_empty (P ++ S ++ C) R w1).0 in
      (both_empty P S (both_empty (P ++ S) C w2).0).1

  -- each service is that of its name
  pub service_is : (s : Service) → Contains f.services s → channel_of f s.name.name ≡ Some s
  service_is s m = first_is (λ (x : Service). x.name) f.services [] services_fine s m

  session_param : (p : Proc) → Contains f.procs p → (k : SessionParam) → Contains p.sessions k → IsNoChannel k.name.name
  session_param p m k i =
      let R = repeated [] (map (λ q. q.name) p.params ++ map (λ k. k.name) p.sessions) in
      let V = flat_map (λ (q : ProcParam). repeated [] (map (λ v. v.0) q.vars)) p.params in
      let S = flat_map (session_faults f (map (λ q. q.name.name) p.params)) p.sessions in
      let all = (both_empty (R ++ V) S (each_empty (procedure_faults f) f.procs procedures_fine p m)).1 in
      let H = flat_map (λ (h : Written × Written). unknown_role (protocol_of f k.protocol.name) h.0 ++ unknown (map (λ q. q.name.name) p.params) h.1) k.holders in
      let w0 = both_empty (named_as_channel f k.name ++ unknown (protocols_of f) k.protocol ++ H) (repeated [] (map (λ h. h.0) k.holders)) (each_empty (session_faults f (map (λ q. q.name.name) p.params)) p.sessions all k i) in
      let w1 = both_empty (named_as_channel f k.name ++ unknown (protocols_of f) k.protocol) H w0.0 in
      no_fault_at (is_among (channels_of f) k.name.name) N2 k.name (both_empty (named_as_channel f k.name) (unknown (protocols_of f) k.protocol) w1.0).0

  session_params : (p : Proc) → Contains f.procs p → All IsNoChannel (map (λ k. k.name.name) p.sessions)
  session_params p m = All-map IsNoChannel (λ k. k.name.name) p.sessions (all p.sessions (λ k i. session_param p m k i))
    where
      all : (ks : List SessionParam) → ((k : SessionParam) → Contains ks k → IsNoChannel k.name.name) → All (λ k. IsNoChannel k.name.name) ks
      all [] h = All-nil (λ k. IsNoChannel k.name.name)
      all (k ∷ ks) h = All-cons (λ k. IsNoChannel k.name.name) k ks (h k (at_head k ks k refl)) (all ks (λ x i. h x (at_tail k ks x i)))

  sessions_after : (s : Scope) (g : Form) → node_faults f r.hosts s g ≡ [] → All IsNoChannel s.sessions → All IsNoChannel (scope_after s g).sessions
  sessions_after s (Start c k active serve next) h a =
      All-append IsNoChannel s.sessions (k.name ∷ []) a (All-cons IsNoChannel k.name [] (start_fine s c k active serve next h).1 (All-nil IsNoChannel))
  sessions_after s (Value from e to x k next) h a = a
  sessions_after s (Label from to k l next) h a = a
  sessions_after s (Give from to k given next) h a = a
  sessions_after s (Set p x e next) h a = a
  sessions_after s (Host p x g a b next) h i = i
  sessions_after s (Show p e next) h a = a
  sessions_after s (If p e first second) h a = a
  sessions_after s (Call g ps ks) h a = a
  sessions_after s End h a = a

  sessions_apart : (s : Scope) (id : NodeId) → Stands f s id → All IsNoChannel s.sessions
  sessions_apart s id (main_begins e i) = subst (λ (t : Scope). All IsNoChannel t.sessions) (sym e) (All-nil IsNoChannel)
  sessions_apart s id (procedure_begins {p = p} m e i) = subst (λ (t : Scope). All IsNoChannel t.sessions) (sym e) (session_params p m)
  sessions_apart s id (follows {t = t} {before = before} {n = n} g at m e) =
      subst (λ (u : Scope). All IsNoChannel u.sessions) (sym e) (sessions_after t n.form (node_fine t before n g at) (sessions_apart t before g))

  -- ---- a channel's name isn't used as a session

  module _ (a : NameId) (channel : is_among (channels_of f) a ≡ true) where
    other : (ss : List NameId) → All IsNoChannel ss → (k : NameId) → is_among ss k ≡ true → (k.0 == a.0) ≡ false
    other [] h k e = absurd cc
    other (s ∷ ss) h k e = go (s.0 == k.0) (k.0 == a.0) refl refl e (other ss (All-tail IsNoChannel s ss h) k)
      where
        go : (b d : Bool) → (s.0 == k.0) ≡ b → (k.0 == a.0) ≡ d → (b || is_among ss k) ≡ true → (is_among ss k ≡ true → (k.0 == a.0) ≡ false) → (k.0 == a.0) ≡ false
        go b false i j l ih = j
        go false true i j l ih = ih l
        go true true i j l ih =
            let same : s ≡ a = name_same s a (eqb-true s.0 k.0 i ∙ eqb-true k.0 a.0 j) in
            let no = All-head IsNoChannel s ss h in
            let yes = ap (is_among (channels_of f)) same ∙ channel in
            absurd cc

    session_other : (s : Scope) (k : Written) → All IsNoChannel s.sessions → unknown_session s k ≡ [] → IsOther a (name_ref k)
    session_other s k h e = other s.sessions h k.name (is_known s.sessions k e)

    sessions_other : (s : Scope) (ks : List Written) → All IsNoChannel s.sessions → flat_map (unknown_session s) ks ≡ [] → AreOther a (map name_ref ks)
    sessions_other s [] h e = tt
    sessions_other s (k ∷ ks) h e = let both = both_empty (unknown_session s k) (flat_map (unknown_session s) ks) e in (session_other s k h both.0, sessions_other s ks h both.1)

    message_other : (s : Scope) (p q : Part) (k : Written) → All IsNoChannel s.sessions → message_faults s p q k ≡ [] → IsOther a (name_ref k)
    message_other s p q k h e = session_other s k h (both_empty (unknown_process s p.process ++ unknown_process s q.process) (unknown_session s k) e).1

    abbrev Rest : Form → Type 0
    Rest g = (c : NodeId) → Contains (children_of g) c → IsUnused a (body_at f c)

    first_child : (c : NodeId) (cs : List NodeId) → Contains (c ∷ cs) c
    first_child c cs = at_head c cs c refl

    at_form : (s : Scope) (g : Form) → All IsNoChannel s.sessions → node_faults f r.hosts s g ≡ [] → Rest g → IsUnused a (form_tree (trees_of f.tree.nodes) g)
    at_form s (Start c k active serve next) h e rest = (tt, rest next (first_child next []))
    at_form s (Value from x to y k next) h e rest = ((message_other s from to k h e, tt), rest next (first_child next []))
    at_form s (Label from to k l next) h e rest = ((message_other s from to k h e, tt), rest next (first_child next []))
    at_form s (Give from to k given next) h e rest =
        let both = both_empty (message_faults s from to k) (unknown_session s given.process) e in
        ((message_other s from to k h both.0, session_other s given.process h both.1), rest next (first_child next []))
    at_form s (Set p x y next) h e rest = (tt, rest next (first_child next []))
    at_form s (Host p x g left right next) h e rest = (tt, rest next (first_child next []))
    at_form s (Show p x next) h e rest = (tt, rest next (first_child next []))
    at_form s (If p x first second) h e rest = (rest first (first_child first (second ∷ [])), rest second (at_tail first (second ∷ []) second (first_child second [])))
    at_form s (Call g ps ks) h e rest =
        sessions_other s ks h (both_empty (unknown (procedures_of f) g ++ wrong_numbers (procedure_of f g.name) g ps ks ++ flat_map (unknown_process s) ps) (flat_map (unknown_session s) ks) e).1
    at_form s End h e rest = tt

    unused_below : (fuel : ℕ) (s : Scope) (id : NodeId) → id.0 < fuel → Stands f s id → IsUnused a (body_at f id)
    unused_below zero s id lt g = absurd (omega (arith, lt))
    unused_below (suc fuel) s id lt g =
        let n = node_there f.tree.nodes id.0 (inside f s id g) in
        subst (IsUnused a) (sym (tree_at-node f.tree.nodes id n.0 f.tree.closed n.1))
        (at_form s n.0.form (sessions_apart s id g) (node_fine s id n.0 g n.1)
        (λ c m. let b = child_below f id c n.0 n.1 m in unused_below fuel (scope_after s n.0.form) c (omega (arith, b, lt)) (follows g n.1 m refl)))
      where
        node_there : (ns : List TreeNode) (i : ℕ) → i < length ns → (n : TreeNode) × (slice_get ns i ≡ Some n)
        node_there [] i l = absurd (omega (arith, l))
        node_there (x ∷ xs) zero l = (x, refl)
        node_there (x ∷ xs) (suc i) l = node_there xs i (omega (arith, l))

    -- the channel's name isn't used as a session from a node on
    pub unused : (s : Scope) (id : NodeId) → Stands f s id → IsUnused a (body_at f id)
    unused s id g = unused_below (suc id.0) s id (omega arith) g
