-- The choreography is terminated exactly where every process has ended; then every queue is empty.
use Rattle.std.proofs.Common.{◌≡◌, ℕ, zero, suc, ◌<◌, ◌≤◌, Bool, true, false, List, [], ◌∷◌, length, Option, Some, None, refl, sym, ap, ◌∙◌, subst, arith}
use Rattle.std.specs.Prelude.{slice_get}
use Rattle.std.proofs.lemmas.List.{length-map}
use Rattle.chor_base.specs.declared.names.NameId.{NameId}
use Rattle.chor_base.specs.declared.value.Load.{Load}
use Rattle.chor_base.specs.Expr.{Term}
use Rattle.chor_base.specs.Events.{Triple}
use Rattle.chor_semantics.specs.Choreography.{Ref, Live, Named, ref_eq, among, named_in, Node, Starts, Communicates, InTransit, Alone, Choreography, Then, Either, Calls, Ends}
use Rattle.chor_semantics.specs.Sources.{Procedure, Configuration}
use Rattle.chor_semantics.specs.Steps.{procedure_named, body_of}
use Rattle.chor_semantics.specs.Runs.{IsQuiet, ended, nobody, IsTerminated, quiet, called}
use Rattle.endpoint_code.specs.declared.code.CodeId.{CodeId}
use Rattle.endpoint_code.specs.declared.code.CodeNode.{CodeNode}
use Rattle.endpoint_code.specs.declared.code.CodeNode.TheVariants as code
use Rattle.endpoint_code.specs.declared.endpoints.Channel.{Channel}
use Rattle.endpoint_code.specs.declared.endpoints.Endpoints.{Endpoints}
use Rattle.endpoint_code.specs.Network.{Machine, NetworkState, Place, Sessions, place_of, node_at, channel_of, queue_of}
use Rattle.endpoint_code.specs.NetworkRuns.{ends_there, has_ended, all_ended}
use Rattle.endpoint_code.proofs.Standing as standing_at
use Rattle.well_formed.specs.Follows.{SessionMap, Act, Agrees, HoldsAt, place_after, act_of, fork_of, BothHold, Stands, standing, HoldsOf, follows_act, follows_test, follows_call, Follows}
use Rattle.well_formed.specs.WellFormed.{Scope, IsProcess, StartFits, NodeFits, CallFits, IsWellFormed}
use Rattle.well_formed.specs.Linear.{ParameterSets}
use Rattle.well_formed.specs.Holders.{ListedHolders}
use Rattle.well_formed.specs.Transit.{AreInTransit}
use Rattle.correspondence.proofs.Bodies.{Bodies}
use Rattle.correspondence.specs.Corresponds.{session_map, live_scope, Corresponds}
use Rattle.well_formed.proofs.References.{or_left, true_and, clash, self_ref, act_none}
use Rattle.correspondence.proofs.Machines.{NotCall, stood_at}
use Rattle.correspondence.proofs.ToNetwork.{machine_there, PlaceThere, place_there}
use Rattle.correspondence.specs.Premises.{NoCallFirst}

module _ (e : Endpoints) (procs : List Procedure) (sets : NameId → ParameterSets) (lists : ListedHolders) (bd : Bodies e procs sets lists) (no_call : NoCallFirst e) (c : Configuration) (n : NetworkState) (co : Corresponds e procs sets lists c n) where
  -- ---- a terminated choreography

  quiet_follows : (p : ℕ) (d : Choreography) (q : CodeId) (m : SessionMap) → IsQuiet d → ((k : ℕ) → Follows e procs k (Live p) d q m) → (k : ℕ) → Follows e procs k (Live p) Ends q m
  quiet_follows p d q m ended f k = f k
  quiet_follows p d q m nobody f zero = tt
  quiet_follows p d q m nobody f (suc k) = f (suc k)

  end_follows : (p : ℕ) (d : Choreography) (q : CodeId) (m : SessionMap) → IsTerminated procs d → ((k : ℕ) → Follows e procs k (Live p) d q m) → (k : ℕ) → Follows e procs k (Live p) Ends q m
  end_follows p d q m (quiet z) f = quiet_follows p d q m z f
  end_follows p d q m (called {f = h} {d = j} {ps = ps} {ss = ss} {c = b} i z) f = go (among (Live p) ps) refl (λ k. f (suc k))
    where
      all : ((k : ℕ) → Follows e procs (suc k) (Live p) Ends q m) → (k : ℕ) → Follows e procs k (Live p) Ends q m
      all g zero = tt
      all g (suc k) = g k

      go : (y : Bool) → among (Live p) ps ≡ y → ((k : ℕ) → follows_call e (among (Live p) ps) (body_of (procedure_named procs h) j ps ss) (Follows e procs k (Live p)) q m) → (k : ℕ) → Follows e procs k (Live p) Ends q m
      go false y g = all (λ k. subst (λ w. follows_call e w (body_of (procedure_named procs h) j ps ss) (Follows e procs k (Live p)) q m) y (g k))
      go true y g = quiet_follows p b q m z (λ k. subst (λ o. follows_call e true o (Follows e procs k (Live p)) q m) i (subst (λ w. follows_call e w (body_of (procedure_named procs h) j ps ss) (Follows e procs k (Live p)) q m) y (g k)))

  ends_at : (p : ℕ) (m : Machine) → ((k : ℕ) → Follows e procs k (Live p) Ends m.at (session_map m.sessions)) → has_ended e m ≡ true
  ends_at p m f = go (place_there e procs no_call p Ends (λ q s i g. subst (λ y. HoldsOf (Follows e procs 0 (Live p) Ends) (λ d. d ≡ code.End) y) i (g 1)) m f)
    where
      go : PlaceThere e m → has_ended e m ≡ true
      go pl =
          let st = stood_at e procs p Ends m.at (node_at e m.at) m.sessions pl.place refl pl.at pl.not_call f in
          let is : pl.place.node ≡ code.End = subst (λ y. HoldsOf (Follows e procs 0 (Live p) Ends) (λ d. d ≡ code.End) y) st.stands (st.follows 1) in
          ap ends_there (pl.at ∙ ap (λ y. Some (record { node = y; sessions = pl.place.sessions })) is)

  pub each_ended : IsTerminated procs c.tree → (p : ℕ) (m : Machine) → slice_get n.machines p ≡ Some m → has_ended e m ≡ true
  each_ended t p m h = ends_at p m (end_follows p c.tree m.at (session_map m.sessions) t (co.follows p m h))

  every : (ms : List Machine) → ((p : ℕ) (m : Machine) → slice_get ms p ≡ Some m → has_ended e m ≡ true) → all_ended e ms ≡ true
  every [] h = refl
  every (m ∷ ms) h = true_and (has_ended e m) (all_ended e ms) (h 0 m refl) (every ms (λ p k i. h (suc p) k i))

  -- where the choreography is terminated, every process has ended
  pub terminated_ended : IsTerminated procs c.tree → all_ended e n.machines ≡ true
  terminated_ended t = every n.machines (each_ended t)

  empty_at : (t : Triple) (d : Choreography) (ls : List Load) → IsTerminated procs d → AreInTransit t d ls → ls ≡ []
  empty_at t d ls (quiet ended) h = h
  empty_at t d ls (quiet nobody) h = h
  empty_at t d ls (called i z) h = h

  -- and every queue is empty
  pub terminated_empty : IsTerminated procs c.tree → (t : Triple) → queue_of n t ≡ []
  terminated_empty z t = empty_at t c.tree (queue_of n t) z (co.in_transit t)

  -- ---- where every process has ended

  module _ (over : (p : ℕ) (m : Machine) → slice_get n.machines p ≡ Some m → has_ended e m ≡ true) (active : (a : NameId) (k : Channel) → channel_of e.channels a ≡ Some k → 1 ≤ length k.active) where
    -- the code of a process stands at its end
    record AtEnd (p : ℕ) (d : Choreography) : Type 0 where
      q : CodeId
      m : SessionMap
      stands : standing e (node_at e q) m ≡ Stands code.End
      follows : (k : ℕ) → Follows e procs k (Live p) d q m

    count : length n.machines ≡ length c.vars
    count = sym (length-map n.machines (λ m. m.vars)) ∙ ap length co.vars

    at_end : (p : ℕ) → p < length c.vars → AtEnd p c.tree
    at_end p h = at (machine_there n.machines p (subst (λ y. p < y) (sym count) h))
      where
        at : (m : Machine) × (slice_get n.machines p ≡ Some m) → AtEnd p c.tree
        at (m, there) = go (place_of e m) refl (over p m there)
          where
            go : (o : Option Place) → place_of e m ≡ o → ends_there o ≡ true → AtEnd p c.tree
            go None i j = absurd cc
            go (Some pl) i j =
                let k : pl.node ≡ code.End = standing_at.at_end pl j in
                let st = stood_at e procs p c.tree m.at (node_at e m.at) m.sessions pl refl i (subst NotCall (sym k) tt) (co.follows p m there) in
                record { q = st.q; m = session_map pl.sessions; stands = st.stands ∙ ap Stands k; follows = st.follows }

    -- no such process acts at a node, or decides
    not_named : (p : ℕ) (node : Node) (rest : Choreography) → AtEnd p (Then node rest) → among (Live p) (named_in node) ≡ true → ⊥
    not_named p node rest a h = go (act_of node (Live p)) refl (a.follows 1)
      where
        go : (o : Option Act) → act_of node (Live p) ≡ o → follows_act e o (Follows e procs 0 (Live p) (Then node rest)) (Follows e procs 1 (Live p) rest) a.q a.m → ⊥
        go None i z = clash h (act_none node (Live p) i)
        go (Some g) i z = no_agreement g (subst (λ y. HoldsOf (Follows e procs 0 (Live p) (Then node rest)) (λ d. Agrees a.m d g × HoldsAt (Follows e procs 1 (Live p) rest) (place_after a.m d g)) y) a.stands z).0
          where
            no_agreement : (g : Act) → Agrees a.m code.End g → ⊥
            no_agreement g z = z

    not_deciding : (p : ℕ) (x : Term) (d d' : Choreography) → AtEnd p (Either (Live p) x d d') → ⊥
    not_deciding p x d d' a =
        subst (λ y. HoldsOf (Follows e procs 0 (Live p) (Either (Live p) x d d')) (λ z. BothHold (Follows e procs 1 (Live p) d) (Follows e procs 1 (Live p) d') a.m x (fork_of z)) y) a.stands
        (subst (λ b. follows_test e b x (Follows e procs 0 (Live p) (Either (Live p) x d d')) (Follows e procs 1 (Live p) d) (Follows e procs 1 (Live p) d') a.q a.m) (self_ref (Live p)) (a.follows 1))

    -- each node names a live process
    record NamesOne (sc : Scope) (node : Node) : Type 0 where
      r : Ref
      known : IsProcess sc r
      here : among r (named_in node) ≡ true

    names_one : (sc : Scope) (node : Node) → NodeFits e.channels sc node → NamesOne sc node
    names_one sc (Starts a d k [] serve) w = absurd (none w)
      where
        none : StartFits e.channels sc a d k [] serve → ⊥
        none w = let i = active a w.channel w.declared in let j : length w.channel.active ≡ 0 = ap length (sym w.active_roles) in absurd (omega (arith, i, j))
    names_one sc (Starts a d k (q ∷ qs) serve) w = record { r = q.0; known = w.known.0; here = or_left _ _ (self_ref q.0) }
    names_one sc (Communicates s p a q b x) w = record { r = p; known = w.sender; here = or_left _ _ (self_ref p) }
    names_one sc (InTransit s a b m q) w = record { r = q; known = w.receiver; here = or_left _ _ (self_ref q) }
    names_one sc (Alone p o) w = record { r = p; known = w.0; here = or_left _ _ (self_ref p) }

    live_ref : (r : Ref) → IsProcess (live_scope c) r → (p : ℕ) × (r ≡ Live p) × (p < length c.vars)
    live_ref (Live p) h = (p, refl, h)
    live_ref (Named x d) h = absurd cc

    -- a body that is followed by the end of everyone's code is quiet
    quiet_body : (b : Choreography) (f : NameId) (j : ℕ) (ps ss : List Ref) → body_of (procedure_named procs f) j ps ss ≡ Some b → CallFits procs (live_scope c) f j ps ss → ((p : ℕ) → among (Live p) ps ≡ true → p < length c.vars → AtEnd p b) → IsWellFormed e.channels procs (live_scope c) b → IsQuiet b
    quiet_body Ends f j ps ss i cf h w = ended
    quiet_body (Calls g k [] us) f j ps ss i cf h w = nobody
    quiet_body (Calls g k (r ∷ rs) us) f j ps ss i cf h w = absurd (by r w.processes.0 refl)
      where
        by : (r' : Ref) → IsProcess (live_scope c) r' → r ≡ r' → ⊥
        by (Named x d) known same = cc
        by (Live p) known same = at (among (Live p) ps) refl
          where
            here : among (Live p) (r ∷ rs) ≡ true
            here = ap (λ y. among (Live p) (y ∷ rs)) same ∙ or_left _ _ (self_ref (Live p))

            at : (b : Bool) → among (Live p) ps ≡ b → ⊥
            at true z = clash here (bd.guarded p f j ps ss (Calls g k (r ∷ rs) us) i z)
            at false z = clash here (bd.outside (live_scope c) (Live p) f j ps ss (Calls g k (r ∷ rs) us) i cf z tt).0
    quiet_body (Then node rest) f j ps ss i cf h w = absurd (by (names_one (live_scope c) node w.0))
      where
        by : NamesOne (live_scope c) node → ⊥
        by one = go (live_ref one.r one.known)
          where
            go : (p : ℕ) × (one.r ≡ Live p) × (p < length c.vars) → ⊥
            go (p, same, old) = at (among (Live p) ps) refl
              where
                here : among (Live p) (named_in node) ≡ true
                here = ap (λ y. among y (named_in node)) (sym same) ∙ one.here

                at : (b : Bool) → among (Live p) ps ≡ b → ⊥
                at true z = not_named p node rest (h p z old) here
                at false z = clash here (bd.outside (live_scope c) (Live p) f j ps ss (Then node rest) i cf z tt).0
    quiet_body (Either r x d d') f j ps ss i cf h w = absurd (go (live_ref r w.0.0))
      where
        go : (p : ℕ) × (r ≡ Live p) × (p < length c.vars) → ⊥
        go (p, same, old) = at (among (Live p) ps) refl
          where
            at : (b : Bool) → among (Live p) ps ≡ b → ⊥
            at true z = not_deciding p x d d' (subst (λ y. AtEnd p (Either y x d d')) same (h p z old))
            at false z = clash (ap (ref_eq (Live p)) same ∙ self_ref (Live p)) (bd.outside (live_scope c) (Live p) f j ps ss (Either r x d d') i cf z tt).0

    quiet_tree : (t : Choreography) → ((p : ℕ) → p < length c.vars → AtEnd p t) → IsWellFormed e.channels procs (live_scope c) t → IsTerminated procs t
    quiet_tree Ends h w = quiet ended
    quiet_tree (Then node rest) h w = absurd (by (names_one (live_scope c) node w.0))
      where
        by : NamesOne (live_scope c) node → ⊥
        by one = go (live_ref one.r one.known)
          where
            go : (p : ℕ) × (one.r ≡ Live p) × (p < length c.vars) → ⊥
            go (p, same, old) = not_named p node rest (h p old) (ap (λ y. among y (named_in node)) (sym same) ∙ one.here)
    quiet_tree (Either r x d d') h w = absurd (go (live_ref r w.0.0))
      where
        go : (p : ℕ) × (r ≡ Live p) × (p < length c.vars) → ⊥
        go (p, same, old) = not_deciding p x d d' (subst (λ y. AtEnd p (Either y x d d')) same (h p old))
    quiet_tree (Calls f j [] ss) h w = quiet nobody
    quiet_tree (Calls f j (q ∷ qs) ss) h w = go (body_of (procedure_named procs f) j (q ∷ qs) ss) refl
      where
        go : (o : Option Choreography) → body_of (procedure_named procs f) j (q ∷ qs) ss ≡ o → IsTerminated procs (Calls f j (q ∷ qs) ss)
        go None i = absurd (no_body (procedure_named procs f) w.declared i)
          where
            no_body : (o : Option Procedure) → o ≡ Some w.procedure → body_of o j (q ∷ qs) ss ≡ None → ⊥
            no_body None a b = cc
            no_body (Some p) a b = cc
        go (Some b) i = called i (quiet_body b f j (q ∷ qs) ss i w inside (bd.fit (live_scope c) f j (q ∷ qs) ss b i w))
          where
            inside : (p : ℕ) → among (Live p) (q ∷ qs) ≡ true → p < length c.vars → AtEnd p b
            inside p z old =
                let a = h p old in
                record { q = a.q; m = a.m; stands = a.stands; follows = λ k. subst (λ o. follows_call e true o (Follows e procs k (Live p)) a.q a.m) i (subst (λ y. follows_call e y (body_of (procedure_named procs f) j (q ∷ qs) ss) (Follows e procs k (Live p)) a.q a.m) z (a.follows (suc k))) }

    -- where every process has ended, the choreography is terminated
    pub ended_terminated : IsTerminated procs c.tree
    ended_terminated = quiet_tree c.tree at_end co.well_formed
