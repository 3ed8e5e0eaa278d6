-- In each state that a run reaches, the processes know their sessions.
use Rattle.std.proofs.Common.{◌≡◌, ℕ, ℤ, Bool, true, false, List, [], ◌∷◌, refl, sym, ap, ◌∙◌, subst, Option, Some, None}
use Rattle.std.specs.Prelude.{slice_get, slice_set, All}
use Rattle.std.specs.FinMap as fin
use Rattle.std.proofs.lemmas.Option.{none-some, same_Some}
use Rattle.std.proofs.lemmas.List.Elements.{All-append, All-set}
use Rattle.chor_base.specs.declared.names.NameId.{NameId}
use Rattle.chor_base.specs.declared.value.Load.{Load}
use Rattle.chor_base.specs.declared.event.Event.{Event}
use Rattle.chor_base.specs.Meaning.{Hosts}
use Rattle.chor_base.specs.NameMap.{Variables}
use Rattle.chor_base.proofs.Members.{at_head}
use Rattle.endpoint_code.specs.declared.code.CodeId.{CodeId}
use Rattle.endpoint_code.specs.declared.code.CodeNode.{CodeNode}
use Rattle.endpoint_code.specs.declared.code.CodeNode.TheVariants.{Join, Send, Recv, Pick, Branch, Throw, Catch, Set, Show, Host, If, Call, End}
use Rattle.endpoint_code.specs.declared.endpoints.Endpoints.{Endpoints}
use Rattle.endpoint_code.specs.Faults.{IsFaultless, has_service}
use Rattle.endpoint_code.specs.InBodies.{after_node}
use Rattle.endpoint_code.specs.Network.{Sessions, Machine, NetworkState, Place, Makes, Taking, Goes, moved, put_if, puts, has_room, queue_of, takes, takes_from, went, takes_value, takes_label, takes_part, node_makes, makes, place_joins, joins, one_joiner, joiners, with_machines, served, starts, NetworkSteps, acts, begins, first_state}
use Rattle.endpoint_code.specs.NetworkRuns.{NetworkLeads, IsNetworkRun}
use Rattle.endpoint_code.proofs.Begun.{begun_as}
use Rattle.endpoint_machine.specs.Bound.{IsBound}
use Rattle.endpoint_machine.specs.Places.{StandsAt}
use Rattle.endpoint_machine.proofs.Actings.{all_at}
use Rattle.endpoint_machine.proofs.Goings.{bound_sent, bound_taken, bound_acted}
use Rattle.endpoint_machine.proofs.Scopes.{scoped_node, bound_put}
use Rattle.post_office.proofs.Reached.{node_joined, made_same}
use Rattle.session_starts.proofs.Served.{served_bound, provided}
use Rattle.net_core.proofs.Begins.{channel_named}
use Rattle.net_core.proofs.Makers.{running}
use Rattle.net_core.proofs.Scopes.{first_bound}
use Rattle.unfinished_runs.proofs.Standing.{somewhere}

-- ---- one process moves

-- only process p has moved, and it knows its sessions
record Moved (e : Endpoints) (p : ℕ) (n k : NetworkState) : Type 0 where
  machine : Machine
  machines : k.machines ≡ slice_set n.machines p machine
  bound : IsBound e machine

module _ (e : Endpoints) (p : ℕ) (x : Event) (n k : NetworkState) where
  moves : (m : Machine) {y : Event} {j : NetworkState} → Some (Makes y j) ≡ Some (Makes x k) → j.machines ≡ slice_set n.machines p m → IsBound e m → Moved e p n k
  moves m h is bound = record { machine = m; machines = sym (ap (λ (w : NetworkState). w.machines) (made_same h)) ∙ is; bound = bound }

  put_moves : (cap : Option ℕ) (a : CodeId) (vars : Variables) (ss : Sessions) (b : NameId) (o : Option (ℕ × NameId)) (l : Option Load) → IsBound e (record { at = a; vars = vars; sessions = ss }) → puts cap (moved n p a vars ss) p b o l ≡ Some (Makes x k) → Moved e p n k
  put_moves cap a vars ss b None l bound h = absurd (none-some _ h)
  put_moves cap a vars ss b (Some s) None bound h = absurd (none-some _ h)
  put_moves cap a vars ss b (Some (s, r)) (Some l) bound h = go (has_room cap (queue_of n (s, r, b))) h
    where
      go : (t : Bool) → put_if t (moved n p a vars ss) p (s, r, b) l ≡ Some (Makes x k) → Moved e p n k
      go false i = absurd (none-some _ i)
      go true i = moves (record { at = a; vars = vars; sessions = ss }) i refl bound

  take_moves : (a : NameId) (o : Option (ℕ × NameId)) (f : Load → Option Taking) → ((l : Load) (b : CodeId) (vars : Variables) (ss : Sessions) → f l ≡ Some (Goes b vars ss) → IsBound e (record { at = b; vars = vars; sessions = ss })) → takes n p a o f ≡ Some (Makes x k) → Moved e p n k
  take_moves a None f bound h = absurd (none-some _ h)
  take_moves a (Some (s, b)) f bound h = at_queue (queue_of n (s, a, b)) h
    where
      at_load : (l : Load) (rest : List Load) (o : Option Taking) → f l ≡ o → went n p (s, a, b) l rest o ≡ Some (Makes x k) → Moved e p n k
      at_load l rest None i j = absurd (none-some _ j)
      at_load l rest (Some (Goes next vars ss)) i j = moves (record { at = next; vars = vars; sessions = ss }) j refl (bound l next vars ss i)

      at_queue : (q : List Load) → takes_from n p (s, a, b) f q ≡ Some (Makes x k) → Moved e p n k
      at_queue [] j = absurd (none-some _ j)
      at_queue (l ∷ rest) j = at_load l rest (f l) refl j

  node_moves : (cap : Option ℕ) (v : ℤ) (m : Machine) (ss : Sessions) (node : CodeNode) → StandsAt e m node ss → node_makes cap n p v m.vars ss node ≡ Some (Makes x k) → Moved e p n k
  node_moves cap v m ss (Send y b t next) st h = put_moves cap next m.vars ss b _ _ (bound_sent e m (Send y b t next) ss _ st refl) h
  node_moves cap v m ss (Pick y b l next) st h = put_moves cap next m.vars ss b _ _ (bound_sent e m (Pick y b l next) ss _ st refl) h
  node_moves cap v m ss (Throw y b g next) st h = put_moves cap next m.vars (fin.remove ss g.0) b _ _ (bound_sent e m (Throw y b g next) ss _ st refl) h
  node_moves cap v m ss (Recv y a z next) st h = take_moves a _ (takes_value next m.vars ss z) (λ l b vs us i. bound_taken e m (Recv y a z next) ss l b vs us st i) h
  node_moves cap v m ss (Branch y a arms) st h = take_moves a _ (takes_label arms m.vars ss) (λ l b vs us i. bound_taken e m (Branch y a arms) ss l b vs us st i) h
  node_moves cap v m ss (Catch y a g next) st h = take_moves a _ (takes_part next m.vars ss g) (λ l b vs us i. bound_taken e m (Catch y a g next) ss l b vs us st i) h
  node_moves cap v m ss (Set y t next) st h = moves _ h refl (bound_acted e m (Set y t next) ss v _ st refl)
  node_moves cap v m ss (Show t next) st h = moves _ h refl (bound_acted e m (Show t next) ss v _ st refl)
  node_moves cap v m ss (Host y f a b next) st h = moves _ h refl (bound_acted e m (Host y f a b next) ss v _ st refl)
  node_moves cap v m ss (If t c d) st h = moves _ h refl (bound_acted e m (If t c d) ss v _ st refl)
  node_moves cap v m ss (Join c r y next) st h = absurd (none-some _ h)
  node_moves cap v m ss (Call f q us) st h = absurd (none-some _ h)
  node_moves cap v m ss End st h = absurd (none-some _ h)

-- ---- all processes

module _ (e : Endpoints) (faultless : IsFaultless e) where
  acted_bound : (cap : Option ℕ) (n k : NetworkState) (p : ℕ) (v : ℤ) (x : Event) → All (IsBound e) n.machines → makes e cap n p v ≡ Some (Makes x k) → All (IsBound e) k.machines
  acted_bound cap n k p v x all h =
      let r = running e [] cap n p x v k h in
      let s = somewhere e faultless r.machine (all_at (IsBound e) n.machines p r.machine all r.there) in
      let at : Place = record { node = s.node; sessions = s.sessions } in
      let here : r.place ≡ at = same_Some r.place at (sym r.stands ∙ s.at_node.place) in
      let made = subst (λ (q : Place). node_makes cap n p v r.machine.vars q.sessions q.node ≡ Some (Makes x k)) here r.made in
      let on = node_moves e p x n k cap v r.machine s.sessions s.node s.at_node made in
      subst (All (IsBound e)) (sym on.machines) (All-set (IsBound e) n.machines p on.machine on.bound all)

  joined_bound : (w : Machine) (c r : NameId) (s : ℕ) (m : Machine) → IsBound e w → joins e (Some w) c r s ≡ Some m → IsBound e m
  joined_bound w c r s m bound h =
      let at = somewhere e faultless w bound in
      let st = at.at_node in
      let j = node_joined at.node w.vars at.sessions c r s m (sym (ap (λ (o : Option Place). place_joins o w.vars c r s) st.place) ∙ h) in
      let found = st.found ∙ ap (λ (z : CodeNode). Some z) j.node_is in
      let scoped = scoped_node st.bound.scoped (Join j.channel j.role j.key j.next) found in
      subst (IsBound e) (sym j.machine_is)
      (record {
        in_body = after_node st.bound.in_body found (at_head j.next [] j.next refl);
        names = j.key ∷ st.bound.names;
        scoped = scoped.2;
        bound = bound_put at.sessions st.bound.names j.key (s, r) st.bound.bound;
      })

  joiners_bound : (n : NetworkState) (c : NameId) (s : ℕ) (ps : List (NameId × ℕ)) (js : List (ℕ × Machine)) → All (IsBound e) n.machines → joiners e n c s ps ≡ Some js → (ms : List Machine) → All (IsBound e) ms → All (IsBound e) (with_machines ms js)
  joiners_bound n c s [] js all h ms a = subst (λ (w : List (ℕ × Machine)). All (IsBound e) (with_machines ms w)) (same_Some [] js h) a
  joiners_bound n c s (q ∷ ps) js all h ms a = go (slice_get n.machines q.1) refl (joins e (slice_get n.machines q.1) c q.0 s) refl (joiners e n c s ps) refl (λ ws i. joiners_bound n c s ps ws all i) h
    where
      one : (u : Option Machine) → slice_get n.machines q.1 ≡ u → (m : Machine) → joins e u c q.0 s ≡ Some m → IsBound e m
      one None f m i = absurd (none-some m i)
      one (Some w) f m i = joined_bound w c q.0 s m (all_at (IsBound e) n.machines q.1 w all f) i

      go : (u : Option Machine) → slice_get n.machines q.1 ≡ u → (o : Option Machine) → joins e u c q.0 s ≡ o → (os : Option (List (ℕ × Machine))) → joiners e n c s ps ≡ os
          → ((ws : List (ℕ × Machine)) → joiners e n c s ps ≡ Some ws → (us : List Machine) → All (IsBound e) us → All (IsBound e) (with_machines us ws)) → one_joiner q.1 o os ≡ Some js → All (IsBound e) (with_machines ms js)
      go u t None f os g again i = absurd (none-some js i)
      go u t (Some m) f None g again i = absurd (none-some js i)
      go u t (Some m) f (Some ws) g again i =
          subst (λ (w : List (ℕ × Machine)). All (IsBound e) (with_machines ms w)) (same_Some ((q.1, m) ∷ ws) js i)
          (again ws g (slice_set ms q.1 m) (All-set (IsBound e) ms q.1 m (one u t m f) a))

  started_bound : (n k : NetworkState) (c : NameId) (ps : List ℕ) (x : Event) → All (IsBound e) n.machines → starts e n c ps ≡ Some (Makes x k) → All (IsBound e) k.machines
  started_bound n k c ps x all h =
      let b = begun_as e n c ps x k h in
      let named = channel_named e.channels c b.channel b.found in
      let services = subst (λ (z : NameId). All (λ r. has_service z r e.services ≡ true) b.channel.serve) named (provided e c b.channel faultless b.found) in
      subst (λ (z : NetworkState). All (IsBound e) z.machines) (sym b.state_is)
      (All-append (IsBound e) (with_machines n.machines b.joined) (served e c n.sid b.channel.serve) (joiners_bound n c n.sid b.parts b.joined all b.joins n.machines all) (served_bound e c n.sid b.channel.serve faultless services))

  -- by a step no process forgets its sessions
  pub step_bound : (hosts : Hosts) (cap : Option ℕ) (n m : NetworkState) (x : Event) → All (IsBound e) n.machines → NetworkSteps e hosts cap n x m → All (IsBound e) m.machines
  step_bound hosts capacity n m x all (acts p v allowed made) = acted_bound capacity n m p v x all made
  step_bound hosts capacity n m x all (begins c ps made) = started_bound n m c ps x all made

  leads_bound : (hosts : Hosts) (cap : Option ℕ) (h : List Event) (n last : NetworkState) → All (IsBound e) n.machines → NetworkLeads e hosts cap n h last → All (IsBound e) last.machines
  leads_bound hosts cap [] n last all l = subst (λ (w : NetworkState). All (IsBound e) w.machines) l all
  leads_bound hosts cap (x ∷ xs) n last all l = leads_bound hosts cap xs l.0 last (step_bound hosts cap n l.0 x all l.1) l.2

  pub run_bound : (hosts : Hosts) (cap : Option ℕ) (h : List Event) (last : NetworkState) → IsNetworkRun e hosts cap h last → All (IsBound e) last.machines
  run_bound hosts cap h last run = leads_bound hosts cap h (first_state e) last (first_bound e e.processes (λ p among. among) faultless.names.process_bodies) run
