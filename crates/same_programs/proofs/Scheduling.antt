-- The scheduled run from states that are the same.
use Rattle.std.proofs.Common.{◌≡◌, ℕ, suc, ◌+◌, Bool, true, false, ◌==◌, List, [], ◌∷◌, refl, sym, ap, ◌∙◌, subst, Option, Some, None, ℤ, if◌then◌else◌}
use Rattle.std.specs.Prelude.{slice_get}
use Rattle.std.specs.List.{AllZip}
use Rattle.chor_base.specs.declared.names.NameId.{NameId}
use Rattle.chor_base.specs.declared.event.Event.{Event}
use Rattle.chor_base.specs.declared.event.Why.{Why}
use Rattle.chor_base.specs.Meaning.{Hosts}
use Rattle.endpoint_code.specs.declared.code.CodeNode.{CodeNode}
use Rattle.endpoint_code.specs.declared.endpoints.Channel.{Channel}
use Rattle.endpoint_code.specs.declared.endpoints.Endpoints.{Endpoints}
use Rattle.endpoint_code.specs.Network.{Sessions, Machine, NetworkState, Place, place_of, place_at, channel_of, first_state}
use Rattle.endpoint_code.specs.NetworkRuns.{has_ended, waits_for, can_step}
use Rattle.endpoint_code.specs.Scheduled as close
use Rattle.endpoint_code.specs.Scheduled.{least_joiner, partner, partners, started, started_on, chosen_at, chosen, Chooses, first_role, listed_at, is_listed, listed_from, listed, picked_of, picked, first_waiting_from, first_waiting, Close, Closes, IsScheduled}
use Rattle.same_programs.specs.Words.{SameName, BothOrNeither}
use Rattle.same_programs.specs.Programs.{IsCopy, SameHosts}
use Rattle.same_programs.specs.States as closing
use Rattle.same_programs.specs.States.{SameWhy, SameClose, SameMachine, SameState}
use Rattle.same_programs.specs.Laws.{Agrees, IsScheduledAlike}
use Rattle.same_programs.proofs.Zips.{zip_get}
use Rattle.same_programs.proofs.Nodes.{Alike, join}
use Rattle.same_programs.proofs.Places.{tell, SamePlace, place_same}
use Rattle.same_programs.proofs.Makings.{SameMade, makes_same}
use Rattle.same_programs.proofs.Starting.{IsChannelOf, channel_same, starts_same}
use Rattle.same_programs.proofs.Steps.{IsMadeToo, made_too, answers_same, first_same}
use Rattle.same_programs.proofs.Waiting.{ended_same, all_same, joins_same, waits_same, steps_same, none_same}
use Rattle.same_programs.proofs.Tests.{both_tests}

module _ (e e' : Endpoints) (c : IsCopy e e') where
  abbrev N : NameId → NameId → Type 0
  N = SameName e e'

  -- ---- partners

  least_same : (p : ℕ) (ms ns : List Machine) → AllZip (SameMachine e e') ms ns → (a b r q : NameId) → N a b → N r q → least_joiner e p ms a r ≡ least_joiner e' p ns b q
  least_same p [] [] h a b r q i j = refl
  least_same p [] (y ∷ ns) h a b r q i j = absurd h
  least_same p (x ∷ ms) [] h a b r q i j = absurd h
  least_same p (x ∷ ms) (y ∷ ns) h a b r q i j =
      let one = joins_same e e' c x y h.0 a b r q i j in
      let rest = least_same (suc p) ms ns h.1 a b r q i j in
      λ k. if one k then Some p else rest k

  partners_same : (ms ns : List Machine) → AllZip (SameMachine e e') ms ns → (a b : NameId) → N a b → (p : ℕ) (own his : NameId) → N own his → (rs qs : List NameId) → AllZip (SameName e e') rs qs
      → partners e ms a p own rs ≡ partners e' ns b p his qs
  partners_same ms ns h a b i p own his j [] [] k = refl
  partners_same ms ns h a b i p own his j [] (q ∷ qs) k = absurd k
  partners_same ms ns h a b i p own his j (r ∷ rs) [] k = absurd k
  partners_same ms ns h a b i p own his j (r ∷ rs) (q ∷ qs) k =
      let is_own : (r.0 == own.0) ≡ (q.0 == his.0) = tell e e' c r q own his k.0 j in
      let least = least_same 0 ms ns h a b r q i k.0 in
      let rest = partners_same ms ns h a b i p own his j rs qs k.1 in
      λ l. partner (if is_own l then Some p else least l) (rest l)

  started_same : (n n' : NetworkState) → SameState e e' n n' → (a b : NameId) → N a b → (o : Option (List ℕ)) → BothOrNeither (SameMade e e' c) (started e n a o) (started e' n' b o)
  started_same n n' same a b i None = tt
  started_same n n' same a b i (Some ps) = starts_same e e' c n n' same a b i ps

  start_same : (n n' : NetworkState) → SameState e e' n n' → (p : ℕ) (a b r q : NameId) → N a b → N r q → (o u : Option Channel) → BothOrNeither (IsChannelOf e e' c a) o u
      → BothOrNeither (SameMade e e' c) (started_on e n p a r o) (started_on e' n' p b q u)
  start_same n n' same p a b r q i j None None f = tt
  start_same n n' same p a b r q i j None (Some h) f = absurd f
  start_same n n' same p a b r q i j (Some k) None f = absurd f
  start_same n n' same p a b r q i j (Some k) (Some h) f =
      subst (λ (o : Option (List ℕ)). BothOrNeither (SameMade e e' c) (started e n a (partners e n.machines a p r k.active)) (started e' n' b o))
      (partners_same n.machines n'.machines same.machines a b i p r q j k.active h.active f.same.active) (started_same n n' same a b i (partners e n.machines a p r k.active))

  node_chosen : (cap : Option ℕ) (n n' : NetworkState) → SameState e e' n n' → (p : ℕ) (v : ℤ) (m m' : Sessions) (o o' : CodeNode) → Alike e e' o o'
      → BothOrNeither (SameMade e e' c) (chosen_at e cap n p v (Some (record { node = o; sessions = m }))) (chosen_at e' cap n' p v (Some (record { node = o'; sessions = m' })))
  node_chosen cap n n' same p v m m' o o' (join {c = a} {d = b} {r = r} {q = q} x y z t) =
      start_same n n' same p a b r q x y (channel_of e.channels a) (channel_of e'.channels b) (channel_same e e' c a b x)
  node_chosen cap n n' same p v m m' o o' s = makes_same e e' c cap n n' same p v

  place_chosen : (cap : Option ℕ) (n n' : NetworkState) → SameState e e' n n' → (p : ℕ) (v : ℤ) (o u : Option Place) → BothOrNeither (SamePlace e e' c) o u
      → BothOrNeither (SameMade e e' c) (chosen_at e cap n p v o) (chosen_at e' cap n' p v u)
  place_chosen cap n n' same p v None None s = tt
  place_chosen cap n n' same p v None (Some y) s = absurd s
  place_chosen cap n n' same p v (Some x) None s = absurd s
  place_chosen cap n n' same p v (Some x) (Some y) s = node_chosen cap n n' same p v x.sessions y.sessions x.node y.node s.node

  place_there : (o u : Option Machine) → BothOrNeither (SameMachine e e') o u → BothOrNeither (SamePlace e e' c) (place_at e o) (place_at e' u)
  place_there None None s = tt
  place_there None (Some y) s = absurd s
  place_there (Some x) None s = absurd s
  place_there (Some x) (Some y) s = place_same e e' c x y s

  chosen_same : (cap : Option ℕ) (n n' : NetworkState) → SameState e e' n n' → (p : ℕ) (v : ℤ) → BothOrNeither (SameMade e e' c) (chosen e cap n p v) (chosen e' cap n' p v)
  chosen_same cap n n' same p v =
      place_chosen cap n n' same p v (place_at e (slice_get n.machines p)) (place_at e' (slice_get n'.machines p))
      (place_there (slice_get n.machines p) (slice_get n'.machines p) (zip_get (SameMachine e e') n.machines n'.machines same.machines p))

  -- ---- the pick rule

  role_among : (name name' : NameId) (active active' serve serve' : List NameId) → AllZip (SameName e e') active active' → (r q : NameId) → N r q
      → first_role (Some (record { name = name; active = active; serve = serve })) r ≡ first_role (Some (record { name = name'; active = active'; serve = serve' })) q
  role_among name name' [] [] serve serve' h r q i = refl
  role_among name name' [] (y ∷ ys) serve serve' h r q i = absurd h
  role_among name name' (x ∷ xs) [] serve serve' h r q i = absurd h
  role_among name name' (x ∷ xs) (y ∷ ys) serve serve' h r q i = tell e e' c x y r q h.0 i

  role_same : (a : NameId) (o u : Option Channel) → BothOrNeither (IsChannelOf e e' c a) o u → (r q : NameId) → N r q → first_role o r ≡ first_role u q
  role_same a None None f r q i = refl
  role_same a None (Some h) f r q i = absurd f
  role_same a (Some k) None f r q i = absurd f
  role_same a (Some k) (Some h) f r q i = role_among k.name h.name k.active h.active k.serve h.serve f.same.active r q i

  node_listed : (o o' : CodeNode) → Alike e e' o o' → (m m' : Sessions) → listed_at e (Some (record { node = o; sessions = m })) ≡ listed_at e' (Some (record { node = o'; sessions = m' }))
  node_listed o o' (join {c = a} {d = b} {r = r} {q = q} x y z t) m m' = role_same a (channel_of e.channels a) (channel_of e'.channels b) (channel_same e e' c a b x) r q y
  node_listed o o' s m m' = refl

  place_listed : (o u : Option Place) → BothOrNeither (SamePlace e e' c) o u → listed_at e o ≡ listed_at e' u
  place_listed None None s = refl
  place_listed None (Some y) s = absurd s
  place_listed (Some x) None s = absurd s
  place_listed (Some x) (Some y) s = node_listed x.node y.node s.node x.sessions y.sessions

  one_listed : (cap : Option ℕ) (n n' : NetworkState) → SameState e e' n n' → (m m' : Machine) → SameMachine e e' m m' → is_listed e cap n m ≡ is_listed e' cap n' m'
  one_listed cap n n' same m m' s =
      both_tests (can_step e cap n m) (can_step e' cap n' m') (listed_at e (place_of e m)) (listed_at e' (place_of e' m')) (steps_same e e' c cap n n' same m m' s)
      (place_listed (place_of e m) (place_of e' m') (place_same e e' c m m' s))

  all_listed : (cap : Option ℕ) (n n' : NetworkState) → SameState e e' n n' → (p : ℕ) (ms ns : List Machine) → AllZip (SameMachine e e') ms ns → listed_from e cap n p ms ≡ listed_from e' cap n' p ns
  all_listed cap n n' same p [] [] h = refl
  all_listed cap n n' same p [] (y ∷ ns) h = absurd h
  all_listed cap n n' same p (x ∷ ms) [] h = absurd h
  all_listed cap n n' same p (x ∷ ms) (y ∷ ns) h =
      let one = one_listed cap n n' same x y h.0 in
      let rest = all_listed cap n n' same (suc p) ms ns h.1 in
      λ i. if one i then p ∷ rest i else rest i

  picked_same : (cap : Option ℕ) (seed events : ℕ) (n n' : NetworkState) → SameState e e' n n' → picked e cap seed events n ≡ picked e' cap seed events n'
  picked_same cap seed events n n' same = ap (λ ps. picked_of ps (seed + events)) (all_listed cap n n' same 0 n.machines n'.machines same.machines)

  -- ---- the end of a run

  abbrev Waiter : ℕ × Option Why → ℕ × Option Why → Type 0
  Waiter x y = (x.0 ≡ y.0) × BothOrNeither (SameWhy (SameName e e')) x.1 y.1

  waiter_same : (cap : Option ℕ) (n n' : NetworkState) → SameState e e' n n' → (p : ℕ) (ms ns : List Machine) → AllZip (SameMachine e e') ms ns
      → BothOrNeither Waiter (first_waiting_from e cap n p ms) (first_waiting_from e' cap n' p ns)
  waiter_same cap n n' same p [] [] h = tt
  waiter_same cap n n' same p [] (y ∷ ns) h = absurd h
  waiter_same cap n n' same p (x ∷ ms) [] h = absurd h
  waiter_same cap n n' same p (x ∷ ms) (y ∷ ns) h =
      subst (λ t. BothOrNeither Waiter (if has_ended e x then first_waiting_from e cap n (suc p) ms else Some (p, waits_for e cap n x)) (if t then first_waiting_from e' cap n' (suc p) ns else Some (p, waits_for e' cap n' y)))
      (ended_same e e' c x y h.0) (go (has_ended e x) (waiter_same cap n n' same (suc p) ms ns h.1))
    where
      go : (t : Bool) → BothOrNeither Waiter (first_waiting_from e cap n (suc p) ms) (first_waiting_from e' cap n' (suc p) ns)
          → BothOrNeither Waiter (if t then first_waiting_from e cap n (suc p) ms else Some (p, waits_for e cap n x)) (if t then first_waiting_from e' cap n' (suc p) ns else Some (p, waits_for e' cap n' y))
      go true more = more
      go false more = (refl, waits_same e e' c cap n n' same x y h.0)

  -- the first that waits in the other state
  record WaitsToo (p : ℕ) (why : Why) (u : Option (ℕ × Option Why)) : Type 0 where
    because : Why
    is : u ≡ Some (p, Some because)
    same_why : SameWhy (SameName e e') why because

  waits_too : (p : ℕ) (why : Why) (o u : Option (ℕ × Option Why)) → BothOrNeither Waiter o u → o ≡ Some (p, Some why) → WaitsToo p why u
  waits_too p why None u h i = absurd cc
  waits_too p why (Some x) None h i = absurd h
  waits_too p why (Some (q, None)) (Some (r, w)) h i = absurd (let k : ◌≡◌ {A = ℕ × Option Why} (q, None) (p, Some why) = cc in let j : None ≡ Some why = ap (λ (z : ℕ × Option Why). z.1) k in cc)
  waits_too p why (Some (q, Some x)) (Some (r, None)) h i = absurd h.1
  waits_too p why (Some (q, Some x)) (Some (r, Some y)) h i =
      let k : ◌≡◌ {A = ℕ × Option Why} (q, Some x) (p, Some why) = cc in
      let number : q ≡ p = ap (λ (z : ℕ × Option Why). z.0) k in
      let some : Some x ≡ Some why = ap (λ (z : ℕ × Option Why). z.1) k in
      let cause : x ≡ why = cc in
      let r_is : r ≡ p = sym h.0 ∙ number in
      record { because = y; is = λ j. Some (r_is j, Some y); same_why = subst (λ (z : Why). SameWhy (SameName e e') z y) cause h.1 }

  pub record ClosesToo (cap : Option ℕ) (steps : ℕ) (n' : NetworkState) (events : ℕ) (o : Close) : Type 0 where
    pub closed : Close
    pub closes : Closes e' cap steps n' events closed
    pub same_close : SameClose (SameName e e') o closed

  pub closes_same : (cap : Option ℕ) (steps : ℕ) (n n' : NetworkState) → SameState e e' n n' → (events : ℕ) (o : Close) → Closes e cap steps n events o → ClosesToo cap steps n' events o
  closes_same cap steps n n' same events o (close.ended h) =
      record { closed = close.Ended; closes = close.ended (sym (all_same e e' c n.machines n'.machines same.machines) ∙ h); same_close = closing.ended }
  closes_same cap steps n n' same events o (close.limit h i) =
      record { closed = close.Limit; closes = close.limit (sym (all_same e e' c n.machines n'.machines same.machines) ∙ h) i; same_close = closing.limit }
  closes_same cap steps n n' same events o (close.stuck {p = p} {why = why} h none i) =
      let t : WaitsToo p why (first_waiting e' cap n') =
      waits_too p why (first_waiting e cap n) (first_waiting e' cap n') (waiter_same cap n n' same 0 n.machines n'.machines same.machines) i in
      record { closed = close.Stuck p t.because; closes = close.stuck h (sym (none_same e e' c cap n n' same n.machines n'.machines same.machines) ∙ none) t.is; same_close = closing.stuck t.same_why }

  -- ---- the run

  module _ (hosts hosts' : Hosts) (hosts_same : SameHosts e e' hosts hosts') where
    record GoesAlike (cap : Option ℕ) (seed steps : ℕ) (n' : NetworkState) (k : ℕ) (h : List Event) (last : NetworkState) (o : Close) : Type 0 where
      events : List Event
      state : NetworkState
      closed : Close
      scheduled : IsScheduled e' hosts' cap seed steps n' k events state closed
      same_events : AllZip (Agrees e e') h events
      same_state : SameState e e' last state
      same_close : SameClose (SameName e e') o closed

    goes_same : (cap : Option ℕ) (seed steps : ℕ) {n last : NetworkState} {k : ℕ} {h : List Event} {o : Close} → IsScheduled e hosts cap seed steps n k h last o
        → (n' : NetworkState) → SameState e e' n n' → GoesAlike cap seed steps n' k h last o
    goes_same cap seed steps {n = n} {k = k} {o = o} (close.closed h) n' alike =
        let t : ClosesToo cap steps n' k o = closes_same cap steps n n' alike k o h in
        record { events = []; state = n'; closed = t.closed; scheduled = close.closed t.closes; same_events = tt; same_state = alike; same_close = t.same_close }
    goes_same cap seed steps {n = n} {last = last} {k = k} {o = o} (close.goes {m = m} {p = p} {x = x} {xs = xs} going more pick chooses rest) n' alike =
        let t : IsMadeToo e e' c x m (chosen e' cap n' p chooses.answer) =
        made_too e e' c x m (chosen e cap n p chooses.answer) (chosen e' cap n' p chooses.answer) (chosen_same cap n n' alike p chooses.answer) chooses.made in
        let choice : Chooses e' hosts' cap n' p t.event t.state =
        record { answer = chooses.answer; allowed = answers_same e e' c hosts hosts' hosts_same n n' alike p chooses.answer chooses.allowed; made = t.is } in
        let r : GoesAlike cap seed steps t.state (suc k) xs last o = goes_same cap seed steps rest t.state t.same_state in
        record {
          events = t.event ∷ r.events;
          state = r.state;
          closed = r.closed;
          scheduled = close.goes (sym (all_same e e' c n.machines n'.machines alike.machines) ∙ going) more (sym (picked_same cap seed k n n' alike) ∙ pick) choice r.scheduled;
          same_events = (t.same_event, r.same_events);
          same_state = r.same_state;
          same_close = r.same_close;
        }

    pub scheduled_same : (cap : Option ℕ) (seed steps : ℕ) (h : List Event) (last : NetworkState) (o : Close) → IsScheduled e hosts cap seed steps (first_state e) 0 h last o
        → IsScheduledAlike e e' hosts' cap seed steps h last o
    scheduled_same cap seed steps h last o run =
        let t : GoesAlike cap seed steps (first_state e') 0 h last o = goes_same cap seed steps run (first_state e') (first_same e e' c) in
        record { events = t.events; state = t.state; closed = t.closed; scheduled = t.scheduled; same_events = t.same_events; same_state = t.same_state; same_close = t.same_close }
