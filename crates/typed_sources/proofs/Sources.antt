-- The bodies of a typed source are typed choreographies, at its main and at each call.
use Rattle.std.proofs.Common.{◌≡◌, ℕ, suc, List, [], ◌∷◌, map, length, refl, sym, ap, ◌∙◌, subst, Some, None, Bool, true, false, if◌then◌else◌, ◌==◌}
use Rattle.std.specs.List.{list_all}
use Rattle.chor_base.specs.declared.names.NameId.{NameId}
use Rattle.chor_tree.specs.declared.file.File.{File}
use Rattle.chor_tree.specs.declared.file.Named.{Named as Written}
use Rattle.chor_tree.specs.declared.file.Proc.{Proc}
use Rattle.chor_tree.specs.declared.tree.Node.{Node as TreeNode}
use Rattle.chor_tree.specs.Names.{Scope, first_named, is_among, procedure_of, scope_of_procedure}
use Rattle.chor_tree.specs.Source.{Statement, Starts, Sends, Selects, Gives, Sets, Asks, Shows, Block, Then, Either, Calls, Ends, body_of as block_at}
use Rattle.chor_semantics.specs.Choreography.{Ref, Choreography, instance_of}
use Rattle.chor_semantics.specs.Sources.{procedure_from, procedures_of}
use Rattle.chor_semantics.specs.Steps.{procedure_named, body_of, bound_all}
use Rattle.delegation.specs.Checks.{first_failed}
use Rattle.typing_rules.specs.Environment.{Environment, at_procedure}
use Rattle.typing_rules.specs.Checks.{statement_checks, rule_at}
use Rattle.typing_rules.specs.After.{after_statement}
use Rattle.typed_sources.specs.Context.{Context, after}
use Rattle.typed_sources.specs.Typing.{AllKnown, IsTypedNode}
use Rattle.chor_semantics.specs.Choreography as chor
use Rattle.typed_sources.specs.Stands.{kind_in, Stands}
use Rattle.typed_sources.proofs.Statements.{ProtocolsFit, value_goes, label_goes, give_goes, set_goes, show_goes, host_goes, if_goes, end_goes}
use Rattle.typed_sources.proofs.Opened.{IsNamedStart, opened_scope, start_goes}
use Rattle.typed_sources.specs.Calls.{IsTypedCall}
use Rattle.typed_sources.proofs.Calls.{call_goes}
use Rattle.typed_sources.proofs.Instances.{IsFlat}
use Rattle.typed_sources.proofs.Bodies.{IsTypedThere, instance_typed}
use Rattle.typed_sources.proofs.Begins.{IsProper, base, base_names, base_deep, base_held, base_stands}
use Rattle.chor_semantics.specs.Blocks.{node_of, choreography_of}
use Rattle.chor_semantics.proofs.Blocks.{choreography_at}

-- what a call's names keep
pub record IsNamedCall (f : File) (scope : Scope) (g : Written) (ps ks : List Written) : Type 0 where
  pub procedure : Proc
  pub is : procedure_of f g.name ≡ Some procedure
  pub many : length ps ≡ length procedure.params
  pub many_sessions : length ks ≡ length procedure.sessions
  pub known : list_all (λ x. is_among scope.processes x.name) ps ≡ true

abbrev pub IsIn : Scope → Written → Type 0
IsIn scope p = is_among scope.processes p.name ≡ true

-- what the names of a statement keep, where the file has no fault of names
abbrev pub NamesKept : File → Scope → Environment → Statement → Type 0
NamesKept f scope e (Starts c k active serve) = IsNamedStart f scope e c.name k.name active serve
NamesKept f scope e (Sends a x b y k) = IsIn scope a.process × IsIn scope b.process
NamesKept f scope e (Selects a b k l) = IsIn scope a.process × IsIn scope b.process
NamesKept f scope e (Gives a b k given) = IsIn scope a.process × IsIn scope b.process
NamesKept f scope e (Sets p y x) = IsIn scope p
NamesKept f scope e (Asks p y h x z) = IsIn scope p
NamesKept f scope e (Shows p x) = IsIn scope p

-- what is in scope after a statement
abbrev pub scope_with : Scope → Statement → Scope
scope_with scope (Starts c k active serve) = opened_scope scope k serve
scope_with scope _ = scope

-- no statement and no tail of a block is at fault
abbrev pub IsFaultless : File → Scope → Environment → Block → Type 0
IsFaultless f scope e (Then place s next) =
    NamesKept f scope e s × (first_failed (statement_checks f e s) ≡ None) × IsFaultless f (scope_with scope s) (after_statement f e s) next
IsFaultless f scope e (Either place p x first second) =
    IsIn scope p × (rule_at f e (Either place p x first second) ≡ None) × IsFaultless f scope e first × IsFaultless f scope e second
IsFaultless f scope e (Calls place g ps ks) = IsNamedCall f scope g ps ks × (rule_at f e (Calls place g ps ks) ≡ None)
IsFaultless f scope e (Ends place) = rule_at f e (Ends place) ≡ None

module _ (f : File) (good : ProtocolsFit f) where
  abbrev Both : Context → Choreography → Type 0
  Both d c = IsFlat c × IsTypedThere f d c

  -- what is known after a statement, and that its node is typed
  record StatementTyped (scope : Scope) (e : Environment) (d : Context) (s : Statement) : Type 0 where
    known : AllKnown d.known (chor.named_in (node_of s))
    typed : IsTypedNode (kind_in f) d (node_of s)
    stands : Stands f (scope_with scope s) (after_statement f e s) (after (kind_in f) d (node_of s))

  statement_typed : (scope : Scope) (e : Environment) (d : Context) → Stands f scope e d → (s : Statement) → NamesKept f scope e s → first_failed (statement_checks f e s) ≡ None → StatementTyped scope e d s
  statement_typed scope e d t (Starts c k active serve) w h = let g = start_goes f scope e d t c k active serve w h in record { known = g.0; typed = g.1; stands = g.2 }
  statement_typed scope e d t (Sends a x b y k) w h =
      let g = value_goes f good scope e d t a b x y k h in record { known = (t.known a.process.name ∙ w.0, (t.known b.process.name ∙ w.1, tt)); typed = g.0; stands = g.1 }
  statement_typed scope e d t (Selects a b k l) w h =
      let g = label_goes f good scope e d t a b k l h in record { known = (t.known a.process.name ∙ w.0, (t.known b.process.name ∙ w.1, tt)); typed = g.0; stands = g.1 }
  statement_typed scope e d t (Gives a b k given) w h =
      let g = give_goes f good scope e d t a b k given h in record { known = (t.known a.process.name ∙ w.0, (t.known b.process.name ∙ w.1, tt)); typed = g.0; stands = g.1 }
  statement_typed scope e d t (Sets p y x) w h = let g = set_goes f good scope e d t p y x h in record { known = (t.known p.name ∙ w, tt); typed = g.0; stands = g.1 }
  statement_typed scope e d t (Asks p y g x z) w h = let i = host_goes f good scope e d t p y g x z h in record { known = (t.known p.name ∙ w, tt); typed = i.0; stands = i.1 }
  statement_typed scope e d t (Shows p x) w h = let g = show_goes f good scope e d t p x h in record { known = (t.known p.name ∙ w, tt); typed = g.0; stands = g.1 }

  -- statements bind at depth 0, and have no message in transit
  flat_more : (s : Statement) (c : Choreography) → IsFlat c → IsFlat (chor.Then (node_of s) c)
  flat_more (Starts c k active serve) r i = (refl, i)
  flat_more (Sends a x b y k) r i = i
  flat_more (Selects a b k l) r i = i
  flat_more (Gives a b k given) r i = i
  flat_more (Sets p y x) r i = i
  flat_more (Asks p y g x z) r i = i
  flat_more (Shows p x) r i = i

  -- The choreography of a block without fault is typed
  pub block_typed : (b : Block) (scope : Scope) (e : Environment) → IsFaultless f scope e b → (d : Context) → Stands f scope e d → Both d (choreography_of b)
  block_typed (Then place s next) scope e (names, rule, rest) d t =
      let w = statement_typed scope e d t s names rule in
      let r = block_typed next (scope_with scope s) (after_statement f e s) rest (after (kind_in f) d (node_of s)) w.stands in
      (flat_more s (choreography_of next) r.0, (w.known, w.typed, r.1))
  block_typed (Either place p x first second) scope e (names, rule, one, other) d t =
      let r = block_typed first scope e one d t in
      let s = block_typed second scope e other d t in
      ((r.0, s.0), (t.known p.name ∙ names, if_goes f good scope e d t place p x first second rule, r.1, s.1))
  block_typed (Calls place g ps ks) scope e (w, rule) d t = (tt, call_goes f good scope e d t place g ps ks w.procedure w.is w.many w.many_sessions w.known rule)
  block_typed (Ends place) scope e rule d t = (tt, end_goes f good scope e d t place rule)

  -- ---- calls

  pub named_same : (nodes : List TreeNode) (ps : List Proc) (h : NameId) (p : Proc) → first_named (λ q. q.name) ps h ≡ Some p → procedure_named (map (procedure_from nodes) ps) h ≡ Some (procedure_from nodes p)
  named_same nodes [] h p i = absurd cc
  named_same nodes (q ∷ qs) h p i = go (q.name.name.0 == h.0) i (named_same nodes qs h p)
    where
      go : (b : Bool) → (if b then Some q else first_named (λ z. z.name) qs h) ≡ Some p → (first_named (λ z. z.name) qs h ≡ Some p → procedure_named (map (procedure_from nodes) qs) h ≡ Some (procedure_from nodes p))
          → (if b then Some (procedure_from nodes q) else procedure_named (map (procedure_from nodes) qs) h) ≡ Some (procedure_from nodes p)
      go true j ih = let same : q ≡ p = cc in ap (λ z. Some (procedure_from nodes z)) same
      go false j ih = ih j

  -- what each procedure that is named keeps
  pub record ProceduresFit : Type 0 where
    pub proper : (h : NameId) (p : Proc) → procedure_of f h ≡ Some p → IsProper p
    pub bodies : (h : NameId) (p : Proc) → procedure_of f h ≡ Some p → IsFaultless f (scope_of_procedure p) (at_procedure p) (block_at f p.body)

  -- The body of a call is typed where the call is
  pub body_typed : ProceduresFit → (e : Context) (h : NameId) (k : ℕ) (ps ss : List Ref) (c : Choreography) → body_of (procedure_named (procedures_of f) h) k ps ss ≡ Some c → IsTypedCall f e h k ps ss → IsTypedThere f e c
  body_typed keep e h k ps ss c is w =
      let proper = keep.proper h w.procedure w.is in
      let both = block_typed (block_at f w.procedure.body) (scope_of_procedure w.procedure) (at_procedure w.procedure) (keep.bodies h w.procedure w.is) (base f e h k ps ss w proper) (base_stands f e h k ps ss w proper) in
      let tree = choreography_of (block_at f w.procedure.body) in
      let inst = instance_of (suc k) (bound_all (suc k) (map (λ q. q.name.name) w.procedure.params) ps) (bound_all (suc k) (map (λ q. q.name.name) w.procedure.sessions) ss) in
      let at = ap (λ o. body_of o k ps ss) (sym (named_same f.tree.nodes f.procs h w.procedure w.is)) ∙ is in
      let same : inst tree ≡ c = ap inst (sym (choreography_at f.tree.nodes w.procedure.body)) ∙ some_is at in
      subst (IsTypedThere f e) same
      (instance_typed f (suc k) (bound_all (suc k) (map (λ q. q.name.name) w.procedure.params) ps) (bound_all (suc k) (map (λ q. q.name.name) w.procedure.sessions) ss)
      (base f e h k ps ss w proper) e (base_names f e h k ps ss w proper) (base_deep f e h k ps ss w proper) (base_held f e h k ps ss w proper) tree both.0 both.1)
    where
      some_is : {a b : Choreography} → Some a ≡ Some b → a ≡ b
      some_is i = cc
