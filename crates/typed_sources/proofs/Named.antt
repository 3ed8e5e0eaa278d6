-- What the names of a block keep, in a file without fault of names, besides what typing needs of them.
use Rattle.std.proofs.Common.{◌≡◌, ℕ, zero, suc, ◌<◌, List, [], ◌∷◌, ◌++◌, length, sym, subst, true, false, arith}
use Rattle.std.specs.Prelude.{Contains}
use Rattle.std.specs.List.{flat_map, list_all}
use Rattle.chor_base.specs.declared.fault.Fault.{Fault}
use Rattle.chor_base.specs.declared.rule.Place.{Place}
use Rattle.chor_base.specs.declared.rule.Rule.TheVariants.{N2}
use Rattle.chor_tree.specs.declared.file.File.{File}
use Rattle.chor_tree.specs.declared.file.Named.{Named as Written}
use Rattle.chor_tree.specs.declared.tree.Part.{Part}
use Rattle.chor_tree.specs.declared.tree.NodeId.{NodeId}
use Rattle.chor_tree.specs.declared.tree.Form.{Form}
use Rattle.chor_tree.specs.declared.tree.Form.TheVariants as form
use Rattle.chor_tree.specs.Children.{children_of}
use Rattle.chor_tree.specs.Names.{Scope, unknown, unknown_process, unknown_session, is_among, channels_of, channel_of, procedures_of, procedure_of, wrong_parts, wrong_numbers, message_faults, node_faults, scope_after, IsBodyFault, here, further, IsNameFault}
use Rattle.chor_tree.specs.Source.{Statement, Starts, Sends, Selects, Gives, Sets, Asks, Shows, Block, Then, Either, Calls, Ends, block_in, block_of, blocks_of, body_of}
use Rattle.chor_tree.proofs.Blocks.{block_at}
use Rattle.global_types.specs.Faults.{faults_of}
use Rattle.typed_sources.proofs.Sources.{scope_with}
use Rattle.typed_sources.proofs.Resolved.{no_items, both_empty}
use Rattle.typed_sources.proofs.ProcedureHeads.{no_fault_at, is_known}
use Rattle.typed_sources.proofs.Accepted.{in_table, all_in_scope, among_either, no_start_fault}
use Rattle.typed_sources.proofs.Followers.{low, only, other}

-- a start has its channel's roles, and its session has a new name, which is no channel's
pub record IsNewStart (f : File) (scope : Scope) (c k : Written) (active serve : List Part) : Type 0 where
  pub parts : wrong_parts (channel_of f c.name) c active serve ≡ []
  pub no_channel : is_among (channels_of f) k.name ≡ false
  pub new : is_among scope.sessions k.name ≡ false

abbrev pub IsSession : Scope → Written → Type 0
IsSession scope k = is_among scope.sessions k.name ≡ true

-- the sessions that a statement names are in scope
abbrev pub SessionsKept : File → Scope → Statement → Type 0
SessionsKept f scope (Starts c k active serve) = IsNewStart f scope c k active serve
SessionsKept f scope (Sends a x b y k) = IsSession scope k
SessionsKept f scope (Selects a b k l) = IsSession scope k
SessionsKept f scope (Gives a b k given) = IsSession scope k × IsSession scope given.process
SessionsKept f scope (Sets p y x) = Unit {0}
SessionsKept f scope (Asks p y h x z) = Unit {0}
SessionsKept f scope (Shows p x) = Unit {0}

-- so it is with each statement and call of a block
abbrev pub AreNamed : File → Scope → Block → Type 0
AreNamed f scope (Then place s next) = SessionsKept f scope s × AreNamed f (scope_with scope s) next
AreNamed f scope (Either place p x first second) = AreNamed f scope first × AreNamed f scope second
AreNamed f scope (Calls place g ps ks) = list_all (λ x. is_among scope.sessions x.name) ks ≡ true
AreNamed f scope (Ends place) = Unit {0}

module _ (f : File) (hosts : List (List ℕ)) where
  start_named : (scope : Scope) (c k : Written) (active serve : List Part) (next : NodeId) → node_faults f hosts scope (form.Start c k active serve next) ≡ [] → IsNewStart f scope c k active serve
  start_named scope c k active serve next h =
      let w = no_start_fault f hosts scope c k active serve next h in
      record {
        parts = w.parts;
        no_channel = no_fault_at (is_among (channels_of f) k.name) N2 k w.session;
        new = (among_either scope.processes scope.sessions k.name (no_fault_at (is_among (scope.processes ++ scope.sessions) k.name) N2 k w.new)).1;
      }

  session_named : (scope : Scope) (a b : Part) (k : Written) → message_faults scope a b k ≡ [] → IsSession scope k
  session_named scope a b k h = is_known scope.sessions k (both_empty (unknown_process scope a.process ++ unknown_process scope b.process) (unknown_session scope k) h).1

  abbrev blocks : List Block
  blocks = blocks_of f.tree.nodes

  abbrev Rest : Scope → Form → Type 0
  Rest scope n = (next : NodeId) → Contains (children_of n) next → AreNamed f (scope_after scope n) (block_in blocks next)

  at_node : (scope : Scope) (p : Place) (n : Form) → node_faults f hosts scope n ≡ [] → Rest scope n → AreNamed f scope (block_of blocks p n)
  at_node scope p (form.Start c k active serve next) h rest = (start_named scope c k active serve next h, rest next (only next []))
  at_node scope p (form.Value a x b y k next) h rest = (session_named scope a b k h, rest next (only next []))
  at_node scope p (form.Label a b k l next) h rest = (session_named scope a b k h, rest next (only next []))
  at_node scope p (form.Give a b k given next) h rest =
      let w = both_empty (message_faults scope a b k) (unknown_session scope given.process) h in
      ((session_named scope a b k w.0, is_known scope.sessions given.process w.1), rest next (only next []))
  at_node scope p (form.Set q y x next) h rest = (tt, rest next (only next []))
  at_node scope p (form.Host q y g x z next) h rest = (tt, rest next (only next []))
  at_node scope p (form.Show q x next) h rest = (tt, rest next (only next []))
  at_node scope p (form.If q x first second) h rest = (rest first (only first (second ∷ [])), rest second (other first second []))
  at_node scope p (form.Call g ps ks) h rest =
      all_in_scope scope.sessions (λ z. z) ks
      (both_empty (unknown (procedures_of f) g ++ wrong_numbers (procedure_of f g.name) g ps ks ++ flat_map (unknown_process scope) ps) (flat_map (unknown_session scope) ks) h).1
  at_node scope p form.End h rest = tt

  module _ (names : (x : Fault) → ¬ IsNameFault f hosts x) (protocols : faults_of f ≡ []) where
    -- The names of a body without fault of names
    pub body_named : (fuel : ℕ) (scope : Scope) (id : NodeId) → id.0 < fuel → id.0 < length f.tree.nodes → ((x : Fault) → ¬ IsBodyFault f hosts x scope id) → AreNamed f scope (body_of f id)
    body_named zero scope id l there clean = absurd (omega (arith, l))
    body_named (suc fuel) scope id l there clean =
        let w = in_table f hosts names protocols f.tree.nodes id.0 there in
        let at = block_at f.tree.nodes id w.0 f.tree.closed w.1 in
        let fine : node_faults f hosts scope w.0.form ≡ [] = no_items (node_faults f hosts scope w.0.form) (λ x m. clean x (here w.1 m)) in
        subst (AreNamed f scope) (sym at)
        (at_node scope w.0.place w.0.form fine (λ next m.
        let b = low id.0 (children_of w.0.form) next (f.tree.closed id.0 w.0 w.1) m in
        body_named fuel (scope_after scope w.0.form) next (omega (arith, b, l)) (omega (arith, b, there)) (λ x h. clean x (further w.1 m h))))
