-- Files with the same source have the same faults of types.
use Rattle.std.proofs.Common.{◌≡◌, ◌==◌, ◌∙◌, ◌&&◌, ◌||◌, ◌++◌, Bool, true, false, List, [], ◌∷◌, refl, sym, ap, subst, Option, Some, None, if◌then◌else◌}
use Rattle.std.specs.Prelude.{Contains, map}
use Rattle.std.specs.List.{list_all}
use Rattle.chor_base.specs.declared.names.NameId.{NameId}
use Rattle.chor_base.specs.declared.rule.Rule.TheVariants.{T6, T7}
use Rattle.chor_base.specs.declared.fault.Fault.{Fault}
use Rattle.chor_tree.specs.declared.file.File.{File}
use Rattle.chor_tree.specs.declared.file.Named.{Named}
use Rattle.chor_tree.specs.declared.file.Proc.{Proc}
use Rattle.chor_tree.specs.declared.file.Service.{Service}
use Rattle.chor_tree.specs.Names.{first_named, protocol_of, channel_of, is_among, names_in}
use Rattle.chor_tree.specs.Names as names
use Rattle.chor_tree.specs.Source.{Statement, Starts, Sends, Selects, Gives, Sets, Asks, Shows, Block, Then, Either, Calls, Ends, Procedure, Source, body_of, procedure_of, source_of}
use Rattle.delegation.specs.Checks.{ask, first_failed, all_differ}
use Rattle.delegation.specs.Owners.{started}
use Rattle.typing_rules.specs.declared.standings.Standing.{Standing}
use Rattle.typing_rules.specs.Environment.{Environment, step_of, states_of, step_in, step_at, standing_of, opened_by, opened_on, opened, at_procedure, unset}
use Rattle.typing_rules.specs.Allowed.{value_sent, labels_sent, arm_in, endpoint_sent, is_last}
use Rattle.typing_rules.specs.Checks.{sort_at, parties, value_checks, label_checks, endpoint_checks, has_ended, rest_ended, arguments_fit, statement_checks, checks_of, rule_at}
use Rattle.typing_rules.specs.After.{with_value, with_state, with_endpoint, after_statement, after}
use Rattle.typing_rules.specs.TypeFaults.{head_faults, IsBodyFault, here, further, IsTypeFault, in_main, in_a_head, in_a_procedure}
use Rattle.source_check.proofs.SameBodies.{contains_map, contains_of_map, head_of, bare, by_heads}

-- ---- procedures without their bodies

arguments_bare : (e : Environment) (x : NameId) (qs ks : List Named) (ps : List Proc)
    → arguments_fit e (first_named (λ p. p.name) (map bare ps) x) qs ks ≡ arguments_fit e (first_named (λ p. p.name) ps x) qs ks
arguments_bare e x qs ks [] = refl
arguments_bare e x qs ks (p ∷ ps) = go (p.name.name.0 == x.0) (arguments_bare e x qs ks ps)
  where
    go : (b : Bool) → arguments_fit e (first_named (λ q. q.name) (map bare ps) x) qs ks ≡ arguments_fit e (first_named (λ q. q.name) ps x) qs ks
        → arguments_fit e (if b then Some (bare p) else first_named (λ q. q.name) (map bare ps) x) qs ks ≡ arguments_fit e (if b then Some p else first_named (λ q. q.name) ps x) qs ks
    go true rest = refl
    go false rest = rest

-- ---- two files with the same source

module _ (f g : File) (same : source_of f ≡ source_of g) where
  named_same : (x : NameId) → protocol_of f x ≡ protocol_of g x
  named_same x = ap (λ (s : Source). first_named (λ p. p.name) s.items.protocols x) same

  channel_same : (x : NameId) → channel_of f x ≡ channel_of g x
  channel_same x = ap (λ (s : Source). first_named (λ (c : Service). c.name) s.items.services x) same

  step_in_same : (o : Option Standing) → step_in f o ≡ step_in g o
  step_in_same None = refl
  step_in_same (Some s) = λ i. step_of (first_named (λ x. x.name) (states_of (named_same s.protocol i)) s.state)

  step_same : (e : Environment) (k : NameId) → step_at f e k ≡ step_at g e k
  step_same e k = step_in_same (standing_of e.standings k)

  ended_same : (passed : List NameId) (s : Standing) → has_ended f passed s ≡ has_ended g passed s
  ended_same passed s = λ i. is_among passed s.session || is_last (step_in_same (Some s) i)

  rest_same : (e : Environment) (passed : List NameId) → rest_ended f e passed ≡ rest_ended g e passed
  rest_same e passed = λ i. list_all (λ s. ended_same passed s i) e.standings

  arguments_same : (e : Environment) (x : NameId) (qs ks : List Named) → arguments_fit e (names.procedure_of f x) qs ks ≡ arguments_fit e (names.procedure_of g x) qs ks
  arguments_same e x qs ks = by_heads f g same (λ procs. arguments_fit e (first_named (λ p. p.name) procs x) qs ks) (arguments_bare e x qs ks)

  statement_same : (e : Environment) (s : Statement) → statement_checks f e s ≡ statement_checks g e s
  statement_same e (Starts c k active serve) = refl
  statement_same e (Sends a x b y k) = λ i. parties e k a b ++ value_checks (value_sent a.role.name b.role.name (step_same e k.name i)) (sort_at e a.process x)
  statement_same e (Selects a b k l) = λ i. parties e k a b ++ label_checks (labels_sent a.role.name b.role.name (step_same e k.name i)) l
  statement_same e (Gives a b k given) = λ i. parties e k a b ++ endpoint_checks e a b given (endpoint_sent a.role.name b.role.name (step_same e k.name i))
  statement_same e (Sets p y x) = refl
  statement_same e (Asks p y h x z) = refl
  statement_same e (Shows p x) = refl

  checks_same : (e : Environment) (b : Block) → checks_of f e b ≡ checks_of g e b
  checks_same e (Then place s next) = statement_same e s
  checks_same e (Either place p x first second) = refl
  checks_same e (Calls place h ps ks) =
      λ i. ask (all_differ (names_in ps) && all_differ (names_in ks)) T7 ∷ (arguments_same e h.name ps ks i ++ ask (rest_same e (names_in ks) i) T6 ∷ [])
  checks_same e (Ends place) = λ i. ask (rest_same e [] i) T6 ∷ []

  rule_same : (e : Environment) (b : Block) → rule_at f e b ≡ rule_at g e b
  rule_same e b = ap first_failed (checks_same e b)

  opened_by_same : (k : NameId) (o : Option Service) → opened_by f k o ≡ opened_by g k o
  opened_by_same k None = refl
  opened_by_same k (Some s) = λ i. opened_on k (states_of (named_same s.protocol.name i)) s.protocol.name

  opened_same : (c k : NameId) → opened f c k ≡ opened g c k
  opened_same c k = ap (opened_by f k) (channel_same c) ∙ opened_by_same k (channel_of g c)

  past_same : (e : Environment) (s : Statement) → after_statement f e s ≡ after_statement g e s
  past_same e (Starts c k active serve) = λ i. record {
    standings = e.standings ++ opened_same c.name k.name i;
    owners = e.owners ++ started k.name (active ++ serve);
    sorts = unset e.sorts (map (λ q. q.process.name) serve);
  }
  past_same e (Sends a x b y k) = λ i. with_value e k.name b.process.name y (value_sent a.role.name b.role.name (step_same e k.name i))
  past_same e (Selects a b k l) = λ i. with_state e k.name (arm_in (labels_sent a.role.name b.role.name (step_same e k.name i)) l)
  past_same e (Gives a b k given) = λ i. with_endpoint e k.name b.process.name given (endpoint_sent a.role.name b.role.name (step_same e k.name i))
  past_same e (Sets p y x) = refl
  past_same e (Asks p y h x z) = refl
  past_same e (Shows p x) = refl

  after_same : (e : Environment) (b : Block) → after f e b ≡ after g e b
  after_same e (Then place s next) = past_same e s
  after_same e (Either place p x first second) = refl
  after_same e (Calls place h ps ks) = refl
  after_same e (Ends place) = refl

  body_fault : (x : Fault) (e : Environment) (b : Block) → IsBodyFault f x e b → IsBodyFault g x e b
  body_fault x e b (here rule place) = here (sym (rule_same e b) ∙ rule) place
  body_fault x e b (further {next = next} fine m more) =
      further (sym (rule_same e b) ∙ fine) m (subst (λ (after : Environment). IsBodyFault g x after next) (after_same e b) (body_fault x (after f e b) next more))

  -- a procedure of the one, in the other
  pub record Its (p : Proc) : Type 0 where
    pub other : Proc
    pub declared : Contains g.procs other
    pub is : procedure_of f.tree.nodes p ≡ procedure_of g.tree.nodes other

  pub its : (p : Proc) → Contains f.procs p → Its p
  its p m =
      let mine = procedure_of f.tree.nodes p in
      let c = contains_of_map (procedure_of g.tree.nodes) g.procs mine (subst (λ (s : Source). Contains s.items.procedures mine) same (contains_map (procedure_of f.tree.nodes) f.procs p m)) in
      record { other = c.0; declared = c.1; is = sym c.2 }

  pub type_fault : (x : Fault) → IsTypeFault f x → IsTypeFault g x
  type_fault x (in_main b) = in_main (subst (IsBodyFault g x _) (ap (λ (s : Source). s.body) same) (body_fault x _ (body_of f f.body) b))
  type_fault x (in_a_head {p = p} declared m) =
      let q = its p declared in
      in_a_head q.declared (subst (λ (h : Procedure). Contains (head_faults (head_of h)) x) q.is m)
  type_fault x (in_a_procedure {p = p} declared fine b) =
      let q = its p declared in
      in_a_procedure q.declared (subst (λ (h : Procedure). head_faults (head_of h) ≡ []) q.is fine)
      (subst (λ (h : Procedure). IsBodyFault g x (at_procedure (head_of h)) h.body) q.is (body_fault x (at_procedure p) (body_of f p.body) b))
