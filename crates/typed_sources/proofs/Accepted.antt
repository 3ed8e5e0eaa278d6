-- A file without faults of names, protocols and types is without fault at each node.
use Rattle.std.proofs.Common.{◌≡◌, ℕ, zero, suc, ◌<◌, List, [], ◌∷◌, ◌++◌, map, length, refl, sym, ap, ◌∙◌, subst, Some, None, Option, Bool, true, false, ◌==◌, ◌&&◌, ◌||◌, arith, if◌then◌else◌}
use Rattle.std.proofs.lemmas.Bool.Decides.{nat_tests}
use Rattle.std.specs.Prelude.{Contains, slice_get, not, nat_lt, All}
use Rattle.std.specs.List.{flat_map, list_all}
use Rattle.std.proofs.lemmas.Bool.{eqb-true, and_parts}
use Rattle.chor_base.specs.declared.names.NameId.{NameId}
use Rattle.chor_base.specs.declared.rule.Rule.TheVariants.{N2, N3}
use Rattle.chor_base.specs.Expr.{term_of}
use Rattle.chor_base.specs.declared.fault.Fault.{Fault}
use Rattle.chor_base.specs.Faults.{fault}
use Rattle.chor_base.specs.declared.rule.Place.{Place}
use Rattle.chor_tree.specs.declared.file.File.{File}
use Rattle.chor_tree.specs.declared.file.Named.{Named as Written}
use Rattle.chor_tree.specs.declared.file.Proc.{Proc}
use Rattle.chor_tree.specs.declared.file.ProcParam.{ProcParam}
use Rattle.chor_tree.specs.declared.file.SessionParam.{SessionParam}
use Rattle.chor_tree.specs.declared.protocol.State.{State}
use Rattle.chor_tree.specs.declared.tree.Part.{Part}
use Rattle.chor_tree.specs.declared.tree.NodeId.{NodeId}
use Rattle.chor_tree.specs.declared.tree.Node.{Node as TreeNode}
use Rattle.chor_tree.specs.declared.tree.Form.{Form}
use Rattle.chor_tree.specs.declared.tree.Form.TheVariants as form
use Rattle.chor_tree.specs.Children.{children_of}
use Rattle.chor_tree.specs.Kept.{form_filled, proc_filled}
use Rattle.chor_tree.specs.Protocols.{Protocol, has_items}
use Rattle.chor_tree.specs.declared.file.Service.{Service}
use Rattle.chor_tree.specs.Names.{Scope, unknown, unknown_process, unknown_session, unknown_function, repeated, is_among, names_in, protocols_of, channels_of, procedures_of, protocol_of, channel_of, procedure_of, wrong_parts, wrong_numbers, wrong_roles, has_each_once, named_as_channel, message_faults, node_faults, scope_after, scope_of_main, scope_of_procedure, channel_faults, protocol_faults, session_faults, procedure_faults, declaration_faults, IsBodyFault as IsNameBodyFault, here as name_here, further as name_further, IsNameFault, in_a_declaration, in_main as name_in_main, in_a_procedure as name_in_a_procedure, fault_at}
use Rattle.chor_tree.specs.Source.{Statement, Starts, Sends, Selects, Gives, Sets, Asks, Shows, Block, Then, Either, Calls, Ends, place_of, block_in, block_of, blocks_of, body_of}
use Rattle.chor_tree.proofs.Blocks.{block_at}
use Rattle.global_types.specs.Faults.{faults_of, unused_role, step_faults}
use Rattle.global_types.specs.Faults as protocols
use Rattle.well_formed.proofs.References.{true_eq}
use Rattle.delegation.specs.Checks.{Check}
use Rattle.typing_rules.specs.declared.standings.Standing.{Standing}
use Rattle.typing_rules.specs.Environment.{Environment, standing_of, stands, at_main, at_procedure}
use Rattle.typing_rules.specs.Checks.{rule_at}
use Rattle.typing_rules.specs.After.{after_statement}
use Rattle.typing_rules.specs.TypeFaults.{head_faults, IsBodyFault, here, further, in_main, in_a_head, in_a_procedure, IsTyped}
use Rattle.typed_sources.specs.Typing.{IsNotEmpty}
use Rattle.typed_sources.proofs.Checked.{some_is}
use Rattle.typed_sources.proofs.Opened.{AreNew, IsNamedStart}
use Rattle.typed_sources.proofs.Statements.{ProtocolsFit}
use Rattle.typed_sources.proofs.Calls.{all_of}
use Rattle.typed_sources.proofs.Sources.{IsFaultless, ProceduresFit, IsNamedCall, IsIn, scope_with}
use Rattle.typed_sources.proofs.Scopes.{InScope, scope_kept}
use Rattle.typed_sources.proofs.Resolved.{no_items, both_empty, each_empty, found_in, is_named_there, sound}
use Rattle.typed_sources.proofs.ProcedureHeads.{no_fault_at, is_known, false_or, none_known, proper_head, not_true}

-- ---- lists

pub all_in_scope : {A : Type 0} (known : List NameId) (nm : A → Written) (xs : List A) → flat_map (λ x. unknown known (nm x)) xs ≡ [] → list_all (λ x. is_among known (nm x).name) xs ≡ true
all_in_scope known nm [] h = refl
all_in_scope known nm (x ∷ xs) h =
    let w = both_empty (unknown known (nm x)) (flat_map (λ y. unknown known (nm y)) xs) h in
    ap (λ b. b && list_all (λ y. is_among known (nm y).name) xs) (is_known known (nm x) w.0) ∙ all_in_scope known nm xs w.1

pub among_either : (xs ys : List NameId) (x : NameId) → is_among (xs ++ ys) x ≡ false → (is_among xs x ≡ false) × (is_among ys x ≡ false)
among_either [] ys x h = (refl, h)
among_either (z ∷ zs) ys x h = let w = false_or _ _ h in let u = among_either zs ys x w.1 in (ap (λ b. b || is_among zs x) w.0 ∙ u.0, u.1)

-- new names are new
are_new : (known : List NameId) (scope : List NameId) → ((x : NameId) → is_among known x ≡ false → is_among scope x ≡ false) → (ps : List Part) → repeated known (map (λ q. q.process) ps) ≡ [] → AreNew scope ps
are_new known scope i [] h = tt
are_new known scope i (p ∷ ps) h =
    let w = both_empty (fault_at (is_among known p.process.name) N2 p.process) (repeated (p.process.name ∷ known) (map (λ q. q.process) ps)) h in (
      i p.process.name (no_fault_at (is_among known p.process.name) N2 p.process w.0),
      later (is_among (map (λ q. q.process.name) ps) p.process.name) refl w.1,
      are_new (p.process.name ∷ known) scope (λ x k. i x (false_or _ _ k).1) ps w.1,
    )
  where
    same : (qs : List Part) → names_in (map (λ q. q.process) qs) ≡ map (λ q. q.process.name) qs
    same [] = refl
    same (q ∷ qs) = ap (λ l. q.process.name ∷ l) (same qs)

    clash : (b : Bool) → b ≡ true → b ≡ false → ⊥
    clash b u v = cc

    later : (b : Bool) → is_among (map (λ q. q.process.name) ps) p.process.name ≡ b → repeated (p.process.name ∷ known) (map (λ q. q.process) ps) ≡ [] → is_among (map (λ q. q.process.name) ps) p.process.name ≡ false
    later false e r = e
    later true e r = absurd (clash (p.process.name.0 == p.process.name.0) (true_eq p.process.name.0)
        (false_or _ _ (none_known (p.process.name ∷ known) (map (λ q. q.process) ps) r p.process.name (ap (λ l. is_among l p.process.name) (same ps) ∙ e))).0)

some_items : {A : Type 0} (xs : List A) → has_items xs ≡ true → IsNotEmpty xs
some_items [] h = absurd (clash h)
  where
    clash : has_items {A = ℕ} [] ≡ true → ⊥
    clash t = cc
some_items (x ∷ xs) h = tt

-- the first of some states
pub record HasFirst (ss : List State) : Type 0 where
  pub first : State
  pub rest : List State
  pub is : ss ≡ first ∷ rest

-- the roles of a service are its protocol's, each once
role_list : (p : Protocol) (s : Service) → wrong_roles (Some p) s ≡ [] → has_each_once (names_in p.roles) (names_in (s.active ++ s.serve)) ≡ true
role_list p s h = go (has_each_once (names_in p.roles) (names_in (s.active ++ s.serve))) (no_fault_at _ N3 s.name h)
  where
    go : (b : Bool) → not b ≡ false → b ≡ true
    go true e = refl
    go false e = cc

-- a protocol whose roles some service names has a state: its roles are used
has_state : (rs : List Written) (ss : List State) (active serve : List Written) → has_each_once (names_in rs) (names_in (active ++ serve)) ≡ true → has_items active ≡ true → flat_map (unused_role ss) rs ≡ [] → HasFirst ss
has_state rs (s ∷ ss) active serve h i u = record { first = s; rest = ss; is = refl }
has_state [] [] [] serve h i u = absurd (clash i)
  where
    clash : has_items {A = ℕ} [] ≡ true → ⊥
    clash t = cc
has_state [] [] (a ∷ others) serve h i u = absurd (clash h)
  where
    clash : false ≡ true → ⊥
    clash t = cc
has_state (r ∷ rs) [] active serve h i u = absurd cc

-- each part of the faults that the names of a start may have is none
pub record HasNoStartFault (f : File) (scope : Scope) (c k : Written) (active serve : List Part) : Type 0 where
  pub channel : unknown (channels_of f) c ≡ []
  pub parts : wrong_parts (channel_of f c.name) c active serve ≡ []
  pub players : flat_map (λ (q : Part). unknown_process scope q.process) active ≡ []
  pub session : named_as_channel f k ≡ []
  pub new : fault_at (is_among (scope.processes ++ scope.sessions) k.name) N2 k ≡ []
  pub served : repeated (k.name ∷ (scope.processes ++ scope.sessions)) (map (λ (q : Part). q.process) serve) ≡ []

module _ (f : File) (hosts : List (List ℕ)) where
  pub no_start_fault : (scope : Scope) (c k : Written) (active serve : List Part) (next : NodeId) → node_faults f hosts scope (form.Start c k active serve next) ≡ [] → HasNoStartFault f scope c k active serve
  no_start_fault scope c k active serve next h =
      let A = unknown (channels_of f) c in
      let B = wrong_parts (channel_of f c.name) c active serve in
      let C = flat_map (λ (q : Part). unknown_process scope q.process) active in
      let D = named_as_channel f k in
      let E = repeated (scope.processes ++ scope.sessions) (k ∷ map (λ (q : Part). q.process) serve) in
      let w0 = both_empty (A ++ B ++ C ++ D) E h in
      let w1 = both_empty (A ++ B ++ C) D w0.0 in
      let w2 = both_empty (A ++ B) C w1.0 in
      let w3 = both_empty A B w2.0 in
      let first = both_empty (fault_at (is_among (scope.processes ++ scope.sessions) k.name) N2 k) (repeated (k.name ∷ (scope.processes ++ scope.sessions)) (map (λ (q : Part). q.process) serve)) w0.1 in
      record { channel = w3.0; parts = w3.1; players = w2.1; session = w1.1; new = first.0; served = first.1 }

module _ (f : File) where
  module _ (hosts : List (List ℕ)) (names : (x : Fault) → ¬ IsNameFault f hosts x) (no_protocol_fault : faults_of f ≡ []) where
    pub declared : declaration_faults f ≡ []
    declared = no_items (declaration_faults f) (λ x m. names x (in_a_declaration m))

    pub channels_fine : flat_map (channel_faults f) f.services ≡ []
    channels_fine =
        let d0 = both_empty (repeated [] (map (λ p. p.name) f.protocols) ++ flat_map (protocol_faults f) f.protocols ++ repeated [] (map (λ s. s.name) f.services) ++ flat_map (channel_faults f) f.services ++ repeated [] (map (λ p. p.name) f.procs) ++ flat_map (procedure_faults f) f.procs) (repeated [] f.processes) declared in
        let d1 = both_empty (repeated [] (map (λ p. p.name) f.protocols) ++ flat_map (protocol_faults f) f.protocols ++ repeated [] (map (λ s. s.name) f.services) ++ flat_map (channel_faults f) f.services ++ repeated [] (map (λ p. p.name) f.procs)) (flat_map (procedure_faults f) f.procs) d0.0 in
        let d2 = both_empty (repeated [] (map (λ p. p.name) f.protocols) ++ flat_map (protocol_faults f) f.protocols ++ repeated [] (map (λ s. s.name) f.services) ++ flat_map (channel_faults f) f.services) (repeated [] (map (λ p. p.name) f.procs)) d1.0 in
        (both_empty (repeated [] (map (λ p. p.name) f.protocols) ++ flat_map (protocol_faults f) f.protocols ++ repeated [] (map (λ s. s.name) f.services)) (flat_map (channel_faults f) f.services) d2.0).1

    pub procedures_fine : flat_map (procedure_faults f) f.procs ≡ []
    procedures_fine =
        let d0 = both_empty (repeated [] (map (λ p. p.name) f.protocols) ++ flat_map (protocol_faults f) f.protocols ++ repeated [] (map (λ s. s.name) f.services) ++ flat_map (channel_faults f) f.services ++ repeated [] (map (λ p. p.name) f.procs) ++ flat_map (procedure_faults f) f.procs) (repeated [] f.processes) declared in
        (both_empty (repeated [] (map (λ p. p.name) f.protocols) ++ flat_map (protocol_faults f) f.protocols ++ repeated [] (map (λ s. s.name) f.services) ++ flat_map (channel_faults f) f.services ++ repeated [] (map (λ p. p.name) f.procs)) (flat_map (procedure_faults f) f.procs) d0.0).1

    -- what the names of a start keep
    pub starts_well : (scope : Scope) (e : Environment) → InScope scope e → (c k : Written) (active serve : List Part) (next : NodeId) → form_filled (form.Start c k active serve next) ≡ true → node_faults f hosts scope (form.Start c k active serve next) ≡ [] → IsNamedStart f scope e c.name k.name active serve
    starts_well scope e i c k active serve next filled h =
        let w = no_start_fault f hosts scope c k active serve next h in
        let s = is_named_there (λ z. z.name) f.services c.name (is_known (channels_of f) c w.channel) in
        let fine = both_empty (unknown (protocols_of f) s.0.protocol) (wrong_roles (protocol_of f s.0.protocol.name) s.0) (each_empty (channel_faults f) f.services channels_fine s.0 (found_in (λ z. z.name) f.services c.name s.0 s.1)) in
        let p = is_named_there (λ z. z.name) f.protocols s.0.protocol.name (is_known (protocols_of f) s.0.protocol fine.0) in
        let there = found_in (λ z. z.name) f.protocols s.0.protocol.name p.0 p.1 in
        let each = each_empty (protocols.protocol_faults f.protocols) f.protocols (both_empty (flat_map (protocols.protocol_faults f.protocols) f.protocols) (flat_map (protocols.procedure_faults f.protocols) f.procs) no_protocol_fault).0 p.0 there in
        let used = (both_empty (flat_map (unused_role p.0.states) p.0.roles) (flat_map (λ (z : State). step_faults f.protocols p.0.states z.step) p.0.states) each).0 in
        let roles = role_list p.0 s.0 (subst (λ o. wrong_roles o s.0 ≡ []) p.1 fine.1) in
        let has_active = all_of (λ (z : Service). has_items z.active) f.services (and_parts _ _ (and_parts _ _ f.kept.filled).0).0 s.0 (found_in (λ z. z.name) f.services c.name s.0 s.1) in
        let states = has_state p.0.roles p.0.states s.0.active s.0.serve roles has_active used in
        let off = (among_either scope.processes scope.sessions k.name (no_fault_at (is_among (scope.processes ++ scope.sessions) k.name) N2 k w.new)).1 in
        record {
          service = s.0;
          is_channel = s.1;
          protocol = p.0;
          is_protocol = p.1;
          first = states.first;
          rest = states.rest;
          states = states.is;
          free = free off (standing_of e.standings k.name) refl;
          known = all_in_scope scope.processes (λ q. q.process) active w.players;
          new = are_new (k.name ∷ (scope.processes ++ scope.sessions)) scope.processes (λ x n. (among_either scope.processes scope.sessions x (false_or _ _ n).1).0) serve w.served;
          some = some_items active filled;
        }
      where
        clash : (b : Bool) → b ≡ true → b ≡ false → ⊥
        clash b u v = cc

        free : is_among scope.sessions k.name ≡ false → (o : Option Standing) → standing_of e.standings k.name ≡ o → o ≡ None
        free off None j = refl
        free off (Some st) j = absurd (clash (is_among scope.sessions k.name) (i k.name st j) off)

    -- what the names of a call keep
    call_kept : (scope : Scope) (g : Written) (ps ks : List Written) → node_faults f hosts scope (form.Call g ps ks) ≡ [] → IsNamedCall f scope g ps ks
    call_kept scope g ps ks h =
        let w0 = both_empty (unknown (procedures_of f) g ++ wrong_numbers (procedure_of f g.name) g ps ks ++ flat_map (unknown_process scope) ps) (flat_map (unknown_session scope) ks) h in
        let w1 = both_empty (unknown (procedures_of f) g ++ wrong_numbers (procedure_of f g.name) g ps ks) (flat_map (unknown_process scope) ps) w0.0 in
        let w2 = both_empty (unknown (procedures_of f) g) (wrong_numbers (procedure_of f g.name) g ps ks) w1.0 in
        let p = is_named_there (λ z. z.name) f.procs g.name (is_known (procedures_of f) g w2.0) in
        let lengths = counts (procedure_of f g.name) p.0 p.1 w2.1 in
        record { procedure = p.0; is = p.1; many = lengths.0; many_sessions = lengths.1; known = all_in_scope scope.processes (λ z. z) ps w1.1 }
      where
        counts : (o : Option Proc) (p : Proc) → o ≡ Some p → wrong_numbers o g ps ks ≡ [] → (length ps ≡ length p.params) × (length ks ≡ length p.sessions)
        counts None p k w = absurd cc
        counts (Some q) p k w =
            let same : q ≡ p = some_is _ _ k in
            let u = and_parts _ _ (not_true _ (no_fault_at (not ((length ps == length q.params) && (length ks == length q.sessions))) N3 g w)) in
            subst (λ z. (length ps ≡ length z.params) × (length ks ≡ length z.sessions)) same (eqb-true (length ps) (length q.params) u.0, eqb-true (length ks) (length q.sessions) u.1)

    -- two processes of a communication are in scope
    parties_kept : (scope : Scope) (a b : Part) (k : Written) → message_faults scope a b k ≡ [] → IsIn scope a.process × IsIn scope b.process
    parties_kept scope a b k h =
        let w = both_empty (unknown_process scope a.process ++ unknown_process scope b.process) (unknown_session scope k) h in
        let u = both_empty (unknown_process scope a.process) (unknown_process scope b.process) w.0 in
        (is_known scope.processes a.process u.0, is_known scope.processes b.process u.1)

    pub in_table : (ns : List TreeNode) (i : ℕ) → i < length ns → (n : TreeNode) × (slice_get ns i ≡ Some n) × Contains ns n
    in_table [] i l = absurd (omega (arith, l))
    in_table (x ∷ xs) zero l = (x, refl, (0, omega arith, refl))
    in_table (x ∷ xs) (suc i) l = let w = in_table xs i (omega (arith, l)) in (w.0, w.1, (suc w.2.0, (let k : w.2.0 < length xs = w.2.1 in omega (arith, k)), w.2.2))

    low : (bound : ℕ) (cs : List NodeId) (c : NodeId) → All (λ x. x.0 < bound) cs → Contains cs c → c.0 < bound
    low bound cs c a m = subst (λ (x : NodeId). x.0 < bound) m.2 (a m.0 c m.1)

    only : {A : Type 0} (x : A) (xs : List A) → Contains (x ∷ xs) x
    only x xs = (0, omega arith, refl)

    other : {A : Type 0} (x y : A) (xs : List A) → Contains (x ∷ y ∷ xs) y
    other x y xs = (1, omega arith, refl)

    -- a block without a fault of types violates no rule at its beginning
    no_rule : (e : Environment) (b : Block) → ((x : Fault) → ¬ IsBodyFault f x e b) → rule_at f e b ≡ None
    no_rule e b types = go (rule_at f e b) refl
      where
        go : (c : Check) → rule_at f e b ≡ c → c ≡ None
        go None i = refl
        go (Some r) i = absurd (types (fault r (place_of b)) (here i refl))

    abbrev blocks : List Block
    blocks = blocks_of f.tree.nodes

    -- the blocks that follow a node aren't at fault, where theirs is known
    abbrev Rest : Scope → Form → Type 0
    Rest scope n = (s : Scope) (k : Environment) (next : NodeId) → Contains (children_of n) next → s ≡ scope_after scope n → InScope s k → ((x : Fault) → ¬ IsBodyFault f x k (block_in blocks next)) → IsFaultless f s k (block_in blocks next)

    -- after a statement
    along : (scope : Scope) (e : Environment) → InScope scope e → (p : Place) (s : Statement) (next : NodeId) → rule_at f e (Then p s (block_in blocks next)) ≡ None
        → ((x : Fault) → ¬ IsBodyFault f x e (Then p s (block_in blocks next)))
        → (InScope (scope_with scope s) (after_statement f e s) → ((x : Fault) → ¬ IsBodyFault f x (after_statement f e s) (block_in blocks next)) → IsFaultless f (scope_with scope s) (after_statement f e s) (block_in blocks next))
        → IsFaultless f (scope_with scope s) (after_statement f e s) (block_in blocks next)
    along scope e i p s next w types k = k (scope_kept f scope e s i) (λ z b. types z (further w (only (block_in blocks next) []) b))

    at_node : (scope : Scope) (e : Environment) → InScope scope e → (p : Place) (n : Form) → form_filled n ≡ true → node_faults f hosts scope n ≡ [] → ((x : Fault) → ¬ IsBodyFault f x e (block_of blocks p n)) → Rest scope n
        → IsFaultless f scope e (block_of blocks p n)
    at_node scope e i p (form.Start c k active serve next) filled h types rest =
        let w = no_rule e (Then p (Starts c k active serve) (block_in blocks next)) types in
        (starts_well scope e i c k active serve next filled h, w, along scope e i p (Starts c k active serve) next w types (rest _ _ next (only next []) refl))
    at_node scope e i p (form.Value a x b y k next) filled h types rest =
        let w = no_rule e (Then p (Sends a (term_of x) b y k) (block_in blocks next)) types in
        (parties_kept scope a b k h, w, along scope e i p (Sends a (term_of x) b y k) next w types (rest _ _ next (only next []) refl))
    at_node scope e i p (form.Label a b k l next) filled h types rest =
        let w = no_rule e (Then p (Selects a b k l) (block_in blocks next)) types in
        (parties_kept scope a b k h, w, along scope e i p (Selects a b k l) next w types (rest _ _ next (only next []) refl))
    at_node scope e i p (form.Give a b k given next) filled h types rest =
        let w = no_rule e (Then p (Gives a b k given) (block_in blocks next)) types in
        (parties_kept scope a b k (both_empty (message_faults scope a b k) (unknown_session scope given.process) h).0, w, along scope e i p (Gives a b k given) next w types (rest _ _ next (only next []) refl))
    at_node scope e i p (form.Set q y x next) filled h types rest =
        let w = no_rule e (Then p (Sets q y (term_of x)) (block_in blocks next)) types in
        (is_known scope.processes q h, w, along scope e i p (Sets q y (term_of x)) next w types (rest _ _ next (only next []) refl))
    at_node scope e i p (form.Host q y g x z next) filled h types rest =
        let w = no_rule e (Then p (Asks q y g (term_of x) (term_of z)) (block_in blocks next)) types in
        (is_known scope.processes q (both_empty (unknown_process scope q) (unknown_function f hosts g) h).0, w, along scope e i p (Asks q y g (term_of x) (term_of z)) next w types (rest _ _ next (only next []) refl))
    at_node scope e i p (form.Show q x next) filled h types rest =
        let w = no_rule e (Then p (Shows q (term_of x)) (block_in blocks next)) types in
        (is_known scope.processes q h, w, along scope e i p (Shows q (term_of x)) next w types (rest _ _ next (only next []) refl))
    at_node scope e i p (form.If q x first second) filled h types rest =
        let w = no_rule e (Either p q (term_of x) (block_in blocks first) (block_in blocks second)) types in (
          is_known scope.processes q h,
          w,
          rest scope e first (only first (second ∷ [])) refl i (λ z b. types z (further w (only (block_in blocks first) (block_in blocks second ∷ [])) b)),
          rest scope e second (other first second []) refl i (λ z b. types z (further w (other (block_in blocks first) (block_in blocks second) []) b)),
        )
    at_node scope e i p (form.Call g ps ks) filled h types rest = (call_kept scope g ps ks h, no_rule e (Calls p g ps ks) types)
    at_node scope e i p form.End filled h types rest = no_rule e (Ends p) types

    -- no block of a body is at fault
    pub body_faultless : (fuel : ℕ) (scope : Scope) (e : Environment) (id : NodeId) → id.0 < fuel → id.0 < length f.tree.nodes → InScope scope e
        → ((x : Fault) → ¬ IsNameBodyFault f hosts x scope id) → ((x : Fault) → ¬ IsBodyFault f x e (body_of f id)) → IsFaultless f scope e (body_of f id)
    body_faultless zero scope e id l there i clean types = absurd (omega (arith, l))
    body_faultless (suc fuel) scope e id l there i clean types =
        let w = in_table f.tree.nodes id.0 there in
        let at = block_at f.tree.nodes id w.0 f.tree.closed w.1 in
        let fine : node_faults f hosts scope w.0.form ≡ [] = no_items (node_faults f hosts scope w.0.form) (λ x m. clean x (name_here w.1 m)) in
        let filled = all_of (λ (o : TreeNode). form_filled o.form) f.tree.nodes (and_parts _ _ f.kept.filled).1 w.0 w.2 in
        subst (IsFaultless f scope e) (sym at)
        (at_node scope e i w.0.place w.0.form filled fine (subst (λ b. (x : Fault) → ¬ IsBodyFault f x e b) at types) (λ s k next m same j t.
        let b = low id.0 (children_of w.0.form) next (f.tree.closed id.0 w.0 w.1) m in
        body_faultless fuel s k next (omega (arith, b, l)) (omega (arith, b, there)) j (λ x h. clean x (name_further w.1 m (subst (λ z. IsNameBodyFault f hosts x z next) same h))) t))

    module _ (typed : IsTyped f) where
      pub good : ProtocolsFit f
      good = sound f no_protocol_fault

      pub bodies_there : list_all (λ (b : NodeId). nat_lt b.0 (length f.tree.nodes)) (f.body ∷ map (λ p. p.body) f.procs) ≡ true
      bodies_there = f.kept.begin

      pub less : (m n : ℕ) → nat_lt m n ≡ true → m < n
      less m n h = grind (arith, nat_tests)

      pub main_faultless : IsFaultless f (scope_of_main f) at_main (body_of f f.body)
      main_faultless = body_faultless (suc f.body.0) (scope_of_main f) at_main f.body (omega arith) (less f.body.0 (length f.tree.nodes) (and_parts _ _ bodies_there).0)
          (λ s st h. absurd (none st h)) (λ x h. names x (name_in_main h)) (λ x h. typed x (in_main h))
        where
          none : (st : Standing) → None ≡ Some st → ⊥
          none st h = cc

      pub procs_there : (ps : List Proc) → list_all (λ (b : NodeId). nat_lt b.0 (length f.tree.nodes)) (map (λ p. p.body) ps) ≡ true → (p : Proc) → Contains ps p → nat_lt p.body.0 (length f.tree.nodes) ≡ true
      procs_there [] h p (i, l, e) = absurd (omega (arith, l))
      procs_there (q ∷ qs) h p (zero, l, e) = subst (λ z. nat_lt z.body.0 (length f.tree.nodes) ≡ true) e (and_parts _ _ h).0
      procs_there (q ∷ qs) h p (suc i, l, e) = procs_there qs (and_parts _ _ h).1 p (i, omega (arith, l), e)

      pub param_scope : (p : Proc) → InScope (scope_of_procedure p) (at_procedure p)
      param_scope p = λ s st h. go p.sessions s st h
        where
          go : (ks : List SessionParam) (s : NameId) (st : Standing) → standing_of (map (λ k. stands k.name.name k.protocol.name k.state.name) ks) s ≡ Some st → is_among (map (λ k. k.name.name) ks) s ≡ true
          go [] s st h = absurd cc
          go (k ∷ ks) s st h = step (k.name.name.0 == s.0) h (go ks s st)
            where
              step : (b : Bool) → (if b then Some (stands k.name.name k.protocol.name k.state.name) else standing_of (map (λ k. stands k.name.name k.protocol.name k.state.name) ks) s) ≡ Some st
                  → (standing_of (map (λ k. stands k.name.name k.protocol.name k.state.name) ks) s ≡ Some st → is_among (map (λ k. k.name.name) ks) s ≡ true) → (b || is_among (map (λ k. k.name.name) ks) s) ≡ true
              step true i ih = refl
              step false i ih = ih i

      pub head_fine : (p : Proc) → Contains f.procs p → head_faults p ≡ []
      head_fine p m = no_items (head_faults p) (λ x h. typed x (in_a_head m h))

      pub procedures_keep : ProceduresFit f good
      procedures_keep = record {
        proper = λ h p is.
            let m = found_in (λ q. q.name) f.procs h p is in
            proper_head p (all_of proc_filled f.procs (and_parts _ _ (and_parts _ _ f.kept.filled).0).1 p m) (first_names p (each_empty (procedure_faults f) f.procs procedures_fine p m)) (head_fine p m);
        bodies = λ h p is.
            let m = found_in (λ q. q.name) f.procs h p is in
            body_faultless (suc p.body.0) (scope_of_procedure p) (at_procedure p) p.body (omega arith) (less p.body.0 (length f.tree.nodes) (procs_there f.procs (and_parts _ _ bodies_there).1 p m))
            (param_scope p) (λ x b. names x (name_in_a_procedure m b)) (λ x b. typed x (in_a_procedure m (head_fine p m) b));
      }
        where
          first_names : (p : Proc) → procedure_faults f p ≡ [] → repeated [] (map (λ q. q.name) p.params ++ map (λ k. k.name) p.sessions) ≡ []
          first_names p h =
              let R = repeated [] (map (λ q. q.name) p.params ++ map (λ k. k.name) p.sessions) in
              let V = flat_map (λ (q : ProcParam). repeated [] (map (λ v. v.0) q.vars)) p.params in
              let S = flat_map (session_faults f (map (λ q. q.name.name) p.params)) p.sessions in
              (both_empty R V (both_empty (R ++ V) S h).0).0
