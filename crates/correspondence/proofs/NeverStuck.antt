-- A choreography that isn't terminated has a step for which each declared capacity has room, so a network that has no step has ended.
use Rattle.std.proofs.Common.{◌≡◌, ◌⊎◌, inl, inr, ℕ, suc, ◌≤◌, Bool, true, false, List, [], ◌∷◌, ◌++◌, length, Option, Some, None, refl, sym, ap, ◌∙◌, subst, ◌==◌, if◌then◌else◌, pos, arith}
use Rattle.std.specs.Prelude.{map}
use Rattle.chor_base.specs.declared.names.NameId.{NameId}
use Rattle.chor_base.specs.declared.event.Event.{Event}
use Rattle.chor_base.specs.declared.event.Event.TheVariants as event
use Rattle.chor_base.specs.Expr.{Term, value_of, number_of, truth_of}
use Rattle.chor_base.specs.NameMap.{Variables}
use Rattle.chor_base.specs.Meaning.{Hosts}
use Rattle.chor_base.specs.Events.{Triple}
use Rattle.chor_semantics.specs.Choreography.{Ref, Live, Named, among, Content, OfValue, OfLabel, OfPart, Message, ValueSent, LabelSent, PartSent, Sets as SetsIt, Shows, Asks, Node, Starts, Communicates, InTransit, Alone, Choreography, Then, Either, Calls, Ends, put, numbers_for, number_for}
use Rattle.chor_semantics.specs.Sources.{Procedure, Configuration}
use Rattle.chor_semantics.specs.Steps.{Effect, Keeps, Assigns, Moves, head, test, unfolded, begun, sent, live_parts, with_live, new_parts, message_of, load_of, receipt, vars_of, vars_after, sid_after, procedure_named, body_of}
use Rattle.chor_semantics.specs.Runs.{IsQuiet, ended, nobody, IsTerminated, quiet, called}
use Rattle.endpoint_code.specs.declared.endpoints.Channel.{Channel}
use Rattle.endpoint_code.specs.declared.endpoints.Endpoints.{Endpoints}
use Rattle.endpoint_code.specs.Network.{NetworkState, NetworkSteps, queue_of, has_room, channel_of}
use Rattle.endpoint_code.specs.NetworkRuns.{all_ended}
use Rattle.well_formed.specs.WellFormed.{IsProcess, AllIn, firsts, NodeFits, ContentFits, CallFits, IsWellFormed}
use Rattle.well_formed.specs.Linear.{ParameterSets}
use Rattle.well_formed.specs.Holders.{ListedHolders}
use Rattle.well_formed.specs.Asked.{AllAsked, CanAnswer}
use Rattle.well_formed.proofs.Asked.{asked_bodies, asked_instance, asked_along}
use Rattle.well_formed.specs.Transit.{AreInTransitAt, AreInTransit}
use Rattle.correspondence.proofs.Bodies.{Bodies}
use Rattle.correspondence.specs.Corresponds.{live_scope, Corresponds}
use Rattle.well_formed.proofs.References.{or_left, true_and, clash, true_eq, self_ref}
use Rattle.correspondence.proofs.Renamed.{BodiesRenamed}
use Rattle.correspondence.proofs.BothWays.{steps_back}
use Rattle.correspondence.proofs.Ended.{terminated_ended, terminated_empty}
use Rattle.correspondence.specs.Premises.{NoCallFirst, HasRoomFor, Realizes, IsUnhindered}
use Rattle.correspondence.specs.Laws.{CannotStep, HasEndedEmpty}
use Rattle.correspondence.proofs.First.{first_corresponds}
use Rattle.correspondence.proofs.FromSources.{all_bodies, bodies_renamed}
use Rattle.correspondence.proofs.Runs.{leads_too}
use Rattle.chor_tree.specs.declared.file.File.{File}
use Rattle.chor_semantics.specs.Sources.{procedures_of, first_configuration, numbered, tree_in, trees_of}
use Rattle.endpoint_code.specs.Network.{first_state}
use Rattle.endpoint_code.specs.NetworkRuns.{IsNetworkRun}

module _ (e : Endpoints) (procs : List Procedure) (sets : NameId → ParameterSets) (lists : ListedHolders) (hosts : Hosts) (bd : Bodies e procs sets lists) (cap : Option ℕ) (roomy : has_room cap [] ≡ true)
    (active : (a : NameId) (k : Channel) → channel_of e.channels a ≡ Some k → 1 ≤ length k.active)
    (bodies_asked : (h : NameId) (k : ℕ) (ps ss : List Ref) (b : Choreography) → body_of (procedure_named procs h) k ps ss ≡ Some b → AllAsked (CanAnswer hosts) b)
    (c : Configuration) (n : NetworkState) (co : Corresponds e procs sets lists c n) (asked : AllAsked (CanAnswer hosts) c.tree) where
  pub record Goes' (t : Choreography) : Type 0 where
    pub x : Event
    pub effect : Effect
    pub left : Choreography
    pub moves : Moves procs hosts c.vars c.sid t x effect left
    pub room : HasRoomFor cap n x

  -- queues of a triple whose communication is at the head, or behind a call, are empty
  abbrev Queued : Choreography → Type 0
  Queued t = (z : Triple) → AreInTransit z t (queue_of n z)

  all_live : (rs : List (Ref × NameId)) → AllIn (length c.vars) [] (firsts rs) → (ps : List (NameId × ℕ)) × (live_parts rs ≡ Some ps) × (length ps ≡ length rs)
  all_live [] h = ([], refl, refl)
  all_live ((Live p, a) ∷ rs) h = let z = all_live rs h.1 in ((a, p) ∷ z.0, ap (with_live (Live p) a) z.1, ap suc z.2)
  all_live ((Named x d, a) ∷ rs) h = absurd (no_name h.0)
    where
      no_name : false ≡ true → ⊥
      no_name i = cc

  live_message : (m : Variables) (w : Content) → ContentFits (live_scope c) w → (msg : Message) × (message_of m w ≡ Some msg)
  live_message m (OfValue t x) h = (ValueSent (value_of t m) x, refl)
  live_message m (OfLabel l) h = (LabelSent l, refl)
  live_message m (OfPart (Live s) r) h = (PartSent s r, refl)
  live_message m (OfPart (Named s d) r) h = absurd cc

  room_at : (s : ℕ) (p q : Ref) (a b : NameId) (w : Content) (rest : Choreography) → Queued (Then (Communicates (Live s) p a q b w) rest) → has_room cap (queue_of n (s, a, b)) ≡ true
  room_at s p q a b w rest h =
      let z : (queue_of n (s, a, b) ≡ []) × AreInTransit (s, a, b) rest [] = subst (λ y. AreInTransitAt (Communicates (Live s) p a q b w) y (AreInTransit (s, a, b) rest) (queue_of n (s, a, b))) (true_and (s == s) _ (true_eq s) (true_and (a.0 == a.0) (b.0 == b.0) (true_eq a.0) (true_eq b.0))) (h (s, a, b)) in
      ap (has_room cap) z.0 ∙ roomy

  node_goes : (node : Node) (rest : Choreography) → NodeFits e.channels (live_scope c) node → Queued (Then node rest) → AllAsked (CanAnswer hosts) (Then node rest) → Goes' (Then node rest)
  node_goes (Starts a d k ps serve) rest w q as' = go (all_live ps w.known)
    where
      count : length ps ≡ length w.channel.active
      count = sym (length_seconds ps) ∙ ap length w.active_roles
        where
          length_seconds : (ps : List (Ref × NameId)) → length (map (λ p. p.1) ps) ≡ length ps
          length_seconds [] = refl
          length_seconds (p ∷ ps) = ap suc (length_seconds ps)

      go : (qs : List (NameId × ℕ)) × (live_parts ps ≡ Some qs) × (length qs ≡ length ps) → Goes' (Then (Starts a d k ps serve) rest)
      go ([], i, l) = let z = active a w.channel w.declared in absurd (omega (arith, z, l, count))
      go (r ∷ rs, i, l) = record {
        x = event.Start a c.sid (r ∷ (rs ++ new_parts serve (length c.vars)));
        effect = Keeps;
        left = put (numbers_for d serve (length c.vars)) (number_for k d c.sid) rest;
        moves = head (pos 0) tt (ap (begun a d k serve rest c.sid (length c.vars)) i);
        room = tt;
      }
  node_goes (Communicates (Live s) (Live p) a q b x) rest w h as' =
      let m = live_message (vars_of c.vars p) x w.content in
      record { x = event.Send p s a b (load_of m.0); effect = Keeps; left = Then (InTransit s a b m.0 q) rest; moves = head (pos 0) tt (ap (sent s p a q b rest) m.1); room = room_at s (Live p) q a b x rest h }
  node_goes (Communicates (Live s) (Named p j) a q b x) rest w h as' = let i : false ≡ true = w.sender in absurd cc
  node_goes (Communicates (Named s j) p a q b x) rest w h as' = let i : false ≡ true = w.session in absurd cc
  node_goes (InTransit s a b m (Live q)) rest w h as' = record { x = event.Recv q s a b (load_of m); effect = receipt q m; left = rest; moves = head (pos 0) tt refl; room = tt }
  node_goes (InTransit s a b m (Named q j)) rest w h as' = let i : false ≡ true = w.receiver in absurd cc
  node_goes (Alone (Named p j) o) rest w h as' = let i : false ≡ true = w.0 in absurd cc
  node_goes (Alone (Live p) (SetsIt y g)) rest w h as' = record { x = event.Set p y (value_of g (vars_of c.vars p)); effect = Assigns p y (value_of g (vars_of c.vars p)); left = rest; moves = head (pos 0) tt refl; room = tt }
  node_goes (Alone (Live p) (Shows g)) rest w h as' = record { x = event.Show p (value_of g (vars_of c.vars p)); effect = Keeps; left = rest; moves = head (pos 0) tt refl; room = tt }
  node_goes (Alone (Live p) (Asks y f g g')) rest w h as' =
      let v = as'.0 (number_of (value_of g (vars_of c.vars p))) (number_of (value_of g' (vars_of c.vars p))) in
      record { x = _; effect = _; left = rest; moves = head v.0 v.1 refl; room = tt }

  fork_goes : (r : Ref) (g : Term) (d d' : Choreography) → IsProcess (live_scope c) r → Goes' (Either r g d d')
  fork_goes (Live p) g d d' h = record { x = event.Test p (truth_of (value_of g (vars_of c.vars p))); effect = Keeps; left = if truth_of (value_of g (vars_of c.vars p)) then d else d'; moves = test refl; room = tt }
  fork_goes (Named x j) g d d' h = let i : false ≡ true = h in absurd cc

  first_live : (r : Ref) → IsProcess (live_scope c) r → (p : ℕ) × (r ≡ Live p)
  first_live (Live p) h = (p, refl)
  first_live (Named x d) h = let i : false ≡ true = h in absurd cc

  body_goes : (b : Choreography) (f : NameId) (j : ℕ) (ps ss : List Ref) → body_of (procedure_named procs f) j ps ss ≡ Some b → CallFits procs (live_scope c) f j ps ss → IsWellFormed e.channels procs (live_scope c) b → ((z : Triple) → queue_of n z ≡ []) → AllAsked (CanAnswer hosts) b → IsQuiet b ⊎ Goes' b
  body_goes Ends f j ps ss i cf w h as' = inl ended
  body_goes (Then node rest) f j ps ss i cf w h as' = inr (node_goes node rest w.0 (λ z. subst (AreInTransit z (Then node rest)) (sym (h z)) (bd.empty z f j ps ss (Then node rest) i)) as')
  body_goes (Either r g d d') f j ps ss i cf w h as' = inr (fork_goes r g d d' w.0.0)
  body_goes (Calls g k [] us) f j ps ss i cf w h as' = inl nobody
  body_goes (Calls g k (r ∷ rs) us) f j ps ss i cf w h as' = absurd (go (first_live r w.processes.0))
    where
      go : (p : ℕ) × (r ≡ Live p) → ⊥
      go (p, same) = at (among (Live p) ps) refl
        where
          here : among (Live p) (r ∷ rs) ≡ true
          here = ap (λ y. among (Live p) (y ∷ rs)) same ∙ or_left _ _ (self_ref (Live p))

          at : (b : Bool) → among (Live p) ps ≡ b → ⊥
          at true z = clash here (bd.guarded p f j ps ss (Calls g k (r ∷ rs) us) i z)
          at false z = clash here (bd.outside (live_scope c) (Live p) f j ps ss (Calls g k (r ∷ rs) us) i cf z tt).0

  tree_goes : (t : Choreography) → IsWellFormed e.channels procs (live_scope c) t → Queued t → AllAsked (CanAnswer hosts) t → IsTerminated procs t ⊎ Goes' t
  tree_goes Ends w h as' = inl (quiet ended)
  tree_goes (Then node rest) w h as' = inr (node_goes node rest w.0 h as')
  tree_goes (Either r g d d') w h as' = inr (fork_goes r g d d' w.0.0)
  tree_goes (Calls f j ps ss) w h as' = go (body_of (procedure_named procs f) j ps ss) refl
    where
      no_body : (o : Option Procedure) → o ≡ Some w.procedure → body_of o j ps ss ≡ None → ⊥
      no_body None a b = cc
      no_body (Some p) a b = cc

      go : (o : Option Choreography) → body_of (procedure_named procs f) j ps ss ≡ o → IsTerminated procs (Calls f j ps ss) ⊎ Goes' (Calls f j ps ss)
      go None i = absurd (no_body (procedure_named procs f) w.declared i)
      go (Some b) i = at (body_goes b f j ps ss i w (bd.fit (live_scope c) f j ps ss b i w) h (bodies_asked f j ps ss b i))
        where
          at : IsQuiet b ⊎ Goes' b → IsTerminated procs (Calls f j ps ss) ⊎ Goes' (Calls f j ps ss)
          at (inl z) = inl (called i z)
          at (inr z) = inr (record { x = z.x; effect = z.effect; left = z.left; moves = unfolded i z.moves; room = z.room })

  -- it is terminated, or goes on
  pub goes_on : IsTerminated procs c.tree ⊎ Goes' c.tree
  goes_on = tree_goes c.tree co.well_formed co.in_transit asked

  -- A network in which nothing can happen has ended, and its queues are empty
  pub never_stuck : BodiesRenamed e.channels procs → NoCallFirst e → ((x : Event) (m : NetworkState) → NetworkSteps e hosts cap n x m → ⊥) → (all_ended e n.machines ≡ true) × ((t : Triple) → queue_of n t ≡ [])
  never_stuck renamed no_call none = at goes_on
    where
      at : IsTerminated procs c.tree ⊎ Goes' c.tree → (all_ended e n.machines ≡ true) × ((t : Triple) → queue_of n t ≡ [])
      at (inl t) = (terminated_ended e procs sets lists bd no_call c n co t, terminated_empty e procs sets lists bd no_call c n co t)
      at (inr g) =
          let next : Configuration = record { tree = g.left; vars = vars_after c.vars g.x g.effect; sid = sid_after c.sid g.x } in
          let b = steps_back e procs sets lists hosts bd renamed no_call cap c next n g.x co (record { effect = g.effect; moves = g.moves; vars = refl; sid = refl }) g.room in
          absurd (none g.x b.after b.steps)

-- so it is with a network that was reached
pub network_ends : (e : Endpoints) (f : File) (sets : NameId → ParameterSets) (lists : ListedHolders) → Realizes e f sets lists → (hosts : Hosts) (cap : Option ℕ) → IsUnhindered e f hosts cap
    → (h : List Event) (n : NetworkState) → IsNetworkRun e hosts cap h n → CannotStep e hosts cap n → HasEndedEmpty e n
network_ends e f sets lists realizes hosts cap unhindered h n run none =
    let so = realizes.sound in
    let bodies = all_bodies e (procedures_of f) sets lists so in
    let renamed = bodies_renamed e.channels (procedures_of f) so.sources so.fit in
    let reached = leads_too e (procedures_of f) sets lists hosts bodies renamed cap h (first_configuration f) (first_state e) n (first_corresponds e f sets lists realizes.begins) run in
    let bodies_asked = asked_bodies (CanAnswer hosts) (procedures_of f) unhindered.answered.procedures in
    let first_asked = asked_instance (CanAnswer hosts) 0 (numbered 0 f.processes) (λ y. Named y 0) (tree_in (trees_of f.tree.nodes) f.body) unhindered.answered.main in
    let asked = asked_along (CanAnswer hosts) (procedures_of f) hosts bodies_asked h (first_configuration f) reached.0 reached.1 first_asked in
    never_stuck e (procedures_of f) sets lists hosts bodies cap unhindered.room unhindered.active bodies_asked reached.0 n reached.2 asked renamed realizes.no_call_first none
