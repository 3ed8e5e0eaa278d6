-- Runs written step by step, and where they can't go on.
use Rattle.std.proofs.Common.{◌≡◌, refl, ℕ, false, List, [], ◌∷◌, ◌++◌, Some, None, ℤ, pos, ap, subst, ◌⊎◌, inl, inr}
use Rattle.chor_base.specs.declared.event.Event.{Event}
use Rattle.chor_base.specs.declared.event.Event.TheVariants.{Send}
use Rattle.chor_base.specs.declared.names.NameId.{NameId}
use Rattle.chor_base.specs.declared.value.Value.{Value}
use Rattle.chor_base.specs.declared.value.Load.TheVariants.{Value as Carries}
use Rattle.chor_base.specs.NameMap.{Variables}
use Rattle.chor_base.specs.Expr.{Term, value_of}
use Rattle.chor_base.specs.Events.{actors_of}
use Rattle.chor_semantics.specs.Choreography.{Ref, Live, Node, Communicates, InTransit, OfValue, ValueSent, Choreography, Then, Either, Ends, meets, named_in}
use Rattle.chor_semantics.specs.Sources.{Procedure, Configuration, procedures_of, first_configuration}
use Rattle.chor_base.specs.Meaning.{Hosts}
use Rattle.chor_semantics.specs.Steps.{Effect, Keeps, Makes, Moves, head, test, delay, both, head_makes, branch_makes, vars_of, vars_after, sid_after}
use Rattle.chor_semantics.specs.Runs.{Leads, IsTerminated, quiet, IsRun}
use Rattle.chor_semantics.specs.Examples.Source.{Source, IsMade, file_of, HasEndedRun, HasOpenRun}
use Rattle.chor_semantics.proofs.Determined.{steps_agree, head_names}

infixr 30 ◌⨟◌
-- the configuration after a step
abbrev pub after : Configuration → Event → Effect → Choreography → Configuration
after old e f d = record { tree = d; vars = vars_after old.vars e f; sid = sid_after old.sid e }

-- the events can be made from a configuration, and the last one is as P says
pub data Walk (procs : List Procedure) (hosts : Hosts) (P : Configuration → Type 0) : Configuration → List Event → Type 0 where
  stop : {c : Configuration} → P c → Walk procs hosts P c []
  ◌⨟◌ : {c : Configuration} {e : Event} {es : List Event} {f : Effect} {d : Choreography}
      → Moves procs hosts c.vars c.sid c.tree e f d
      → Walk procs hosts P (after c e f d) es
      → Walk procs hosts P c (e ∷ es)

module _ {procs : List Procedure} {hosts : Hosts} {P : Configuration → Type 0} where
  walked : {c : Configuration} {es : List Event} → Walk procs hosts P c es → (last : Configuration) × Leads procs hosts c es last × P last
  walked (stop {c = c} p) = (c, refl, p)
  walked (◌⨟◌ {c = c} {e = e} {f = f} {d = d} m w) =
      let rest = walked w in
      (rest.0, (after c e f d, record { effect = f; moves = m; vars = refl; sid = refl }, rest.1), rest.2)

  -- the events lead nowhere else
  arrives : {c : Configuration} {es : List Event} → Walk procs hosts P c es → (last : Configuration) → Leads procs hosts c es last → P last
  arrives (stop p) last same = subst P same p
  arrives (◌⨟◌ {c = c} {e = e} {es = es} {f = f} {d = d} m w) last (mid, s, leads) =
      let same : mid ≡ after c e f d = steps_agree procs hosts c mid _ e s (record { effect = f; moves = m; vars = refl; sid = refl }) in
      arrives w last (subst (λ x. Leads procs hosts x es last) same leads)

-- ---- events that can't be made

pub record Blocked (procs : List Procedure) (hosts : Hosts) (e : Event) (vars : List Variables) (sid : ℕ) (c : Choreography) : Type 0 where
  never : (f : Effect) (d : Choreography) → Moves procs hosts vars sid c e f d → ⊥

-- where a front of the events leads
parted : (procs : List Procedure) (hosts : Hosts) (c last : Configuration) (es more : List Event) → Leads procs hosts c (es ++ more) last → (mid : Configuration) × Leads procs hosts c es mid × Leads procs hosts mid more last
parted procs hosts c last [] more leads = (c, refl, leads)
parted procs hosts c last (e ∷ es) more (mid, s, leads) = let rest = parted procs hosts mid last es more leads in (rest.0, (mid, s, rest.1), rest.2)

module _ {procs : List Procedure} {hosts : Hosts} {vars : List Variables} {sid : ℕ} {e : Event} where
  node_blocks : (n : Node) (c : Choreography)
      → ((v : ℤ) (f : Effect) (d : Choreography) → head_makes vars sid v n c ≡ Some (Makes e f d) → ⊥)
      → (meets (actors_of e) (named_in n) ≡ false → Blocked procs hosts e vars sid c)
      → (f : Effect) (d : Choreography) → Moves procs hosts vars sid (Then n c) e f d → ⊥
  node_blocks n c other rest f d (head v a h) = other v f d h
  node_blocks n c other rest f _ (delay g m) = (rest g).never f _ m

  -- a node makes another event, and it names an actor or what follows it is blocked
  pub at_node : {n : Node} {c : Choreography}
      → ((v : ℤ) (f : Effect) (d : Choreography) → head_makes vars sid v n c ≡ Some (Makes e f d) → ⊥)
      → (meets (actors_of e) (named_in n) ≡ false → Blocked procs hosts e vars sid c)
      → Blocked procs hosts e vars sid (Then n c)
  at_node {n = n} {c = c} other rest = record { never = node_blocks n c other rest }

  -- a node that names no actor
  pub past_node : {n : Node} {c : Choreography} → meets (actors_of e) (named_in n) ≡ false → Blocked procs hosts e vars sid c → Blocked procs hosts e vars sid (Then n c)
  past_node {n = n} {c = c} others rest = at_node (λ v f d h. head_names vars sid n c d e f v h others) (λ _. rest)

  either_blocks : (p : Ref) (x : Term) (c c' : Choreography)
      → ((f : Effect) (d : Choreography) → branch_makes vars p x c c' ≡ Some (Makes e f d) → ⊥)
      → (meets (actors_of e) (p ∷ []) ≡ false → Blocked procs hosts e vars sid c ⊎ Blocked procs hosts e vars sid c')
      → (f : Effect) (d : Choreography) → Moves procs hosts vars sid (Either p x c c') e f d → ⊥
  either_blocks p x c c' other rest f d (test h) = other f d h
  either_blocks p x c c' other rest f _ (both g m n) = elim (rest g) [ inl b ↦ b.never f _ m | inr b ↦ b.never f _ n ]

  -- a conditional makes another event, and its process is an actor or a branch is blocked
  pub at_choice : {p : Ref} {x : Term} {c c' : Choreography}
      → ((f : Effect) (d : Choreography) → branch_makes vars p x c c' ≡ Some (Makes e f d) → ⊥)
      → (meets (actors_of e) (p ∷ []) ≡ false → Blocked procs hosts e vars sid c ⊎ Blocked procs hosts e vars sid c')
      → Blocked procs hosts e vars sid (Either p x c c')
  at_choice {p = p} {x = x} {c = c} {c' = c'} other rest = record { never = either_blocks p x c c' other rest }

module _ {procs : List Procedure} where
  pub at_end : {hosts : Hosts} {vars : List Variables} {sid : ℕ} {e : Event} → Blocked procs hosts e vars sid Ends
  at_end = record { never = λ f d m. nothing m }
    where
      nothing : {hosts : Hosts} {vars : List Variables} {sid : ℕ} {e : Event} {f : Effect} {d : Choreography} → Moves procs hosts vars sid Ends e f d → ⊥
      nothing m = elim m [ ]

  -- something follows
  pub not_last : {n : Node} {c : Choreography} → IsTerminated procs (Then n c) → ⊥
  not_last (quiet q) = elim q [ ]

-- a value that is computed with variables is sent
pub sends : {procs : List Procedure} {hosts : Hosts} {vars : List Variables} {sid s p : ℕ} {a b x : NameId} {q : Ref} {e : Term} {v : Value} {rest : Choreography}
    → value_of e (vars_of vars p) ≡ v
    → Moves procs hosts vars sid (Then (Communicates (Live s) (Live p) a q b (OfValue e x)) rest) (Send p s a b (Carries v)) Keeps (Then (InTransit s a b (ValueSent v x) q) rest)
sends {s = s} {p = p} {a = a} {b = b} {x = x} {q = q} {rest = rest} same =
    head (pos 0) tt (ap (λ v. Some (Makes (Send p s a b (Carries v)) Keeps (Then (InTransit s a b (ValueSent v x) q) rest))) same)

-- ---- runs of a source

module _ (s : Source) (made : IsMade s) where
  -- a walk of the source's file
  abbrev pub WalkOf : Hosts → (Configuration → Type 0) → List Event → Type 0
  WalkOf hosts P es = Walk (procedures_of (file_of s made)) hosts P (first_configuration (file_of s made)) es

  abbrev pub IsLast : Configuration → Type 0
  IsLast c = IsTerminated (procedures_of (file_of s made)) c.tree

  abbrev pub Stops : Hosts → Event → Configuration → Type 0
  Stops hosts e c = Blocked (procedures_of (file_of s made)) hosts e c.vars c.sid c.tree

  pub ended_run : (es : List Event) → ((hosts : Hosts) → WalkOf hosts IsLast es) → HasEndedRun s es
  ended_run es walk = (made, λ hosts. let w = walked (walk hosts) in (w.0, record { leads = w.1; within = tt }, w.2))

  pub open_run : (es : List Event) → ((hosts : Hosts) → WalkOf hosts (λ c. ¬ (IsLast c)) es) → HasOpenRun s es
  open_run es walk = (made, λ hosts. let w = walked (walk hosts) in ((w.0, record { leads = w.1; within = tt }), λ run. arrives (walk hosts) run.0 run.1.leads run.2))

  pub no_run : (es : List Event) (e : Event) (hosts : Hosts) → WalkOf hosts (Stops hosts e) es → ¬ (IsRun (file_of s made) hosts None (es ++ e ∷ []))
  no_run es e hosts walk run = next (parted _ hosts _ run.0 es (e ∷ []) run.1.leads)
    where
      next : (mid : Configuration) × Leads (procedures_of (file_of s made)) hosts (first_configuration (file_of s made)) es mid × Leads (procedures_of (file_of s made)) hosts mid (e ∷ []) run.0 → ⊥
      next (mid, leads, (new, last, same)) = (arrives walk mid leads).never last.effect new.tree last.moves
