-- With a capacity: a run of the network is within it, and a run within it has room.
use Rattle.std.proofs.Common.{◌≡◌, ℕ, zero, ◌+◌, ◌≤◌, Bool, true, false, List, [], ◌∷◌, ◌++◌, length, Option, Some, None, refl, sym, ap, ◌∙◌, subst, if◌then◌else◌, ℤ, arith}
use Rattle.std.specs.Prelude.{slice_get, nat_lt}
use Rattle.std.proofs.lemmas.List.{length-append}
use Rattle.std.proofs.lemmas.Bool.Decides.{nat_tests}
use Rattle.std.specs.FinMap as fin
use Rattle.chor_base.specs.declared.names.NameId.{NameId}
use Rattle.chor_base.specs.declared.value.Load.{Load}
use Rattle.chor_base.specs.declared.event.Event.{Event}
use Rattle.chor_base.specs.declared.event.Event.TheVariants as event
use Rattle.chor_base.specs.NameMap.{Variables}
use Rattle.chor_base.specs.Meaning.{Hosts}
use Rattle.chor_base.specs.Events.{Triple, triple_eq, sent_by, received_by, sent_on, received_on, IsWithin}
use Rattle.chor_tree.specs.declared.file.File.{File}
use Rattle.chor_semantics.specs.Sources.{procedures_of, first_configuration}
use Rattle.chor_semantics.specs.Runs.{IsRun, WithinCapacity}
use Rattle.endpoint_code.specs.declared.code.CodeNode.{CodeNode}
use Rattle.endpoint_code.specs.declared.code.CodeNode.TheVariants.{Join, Send, Recv, Pick, Branch, Throw, Catch, Set, Show, Host, If, Call, End}
use Rattle.endpoint_code.specs.declared.endpoints.Channel.{Channel}
use Rattle.endpoint_code.specs.declared.endpoints.Endpoints.{Endpoints}
use Rattle.endpoint_code.specs.Network.{Machine, NetworkState, Place, Sessions, Makes, Taking, Goes, loads_for, queue_of, moved, put_if, puts, has_room, takes, takes_from, went, node_makes, place_makes, machine_makes, makes, place_of, starts, channel_starts, channel_of, starts_with, begun, joiners, paired, NetworkSteps, acts, begins, first_state}
use Rattle.endpoint_code.specs.NetworkRuns.{NetworkLeads, IsNetworkRun}
use Rattle.endpoint_code.proofs.Fifo.{same_triple, step_keeps}
use Rattle.well_formed.specs.Linear.{ParameterSets}
use Rattle.well_formed.specs.Holders.{ListedHolders}
use Rattle.correspondence.proofs.Queues.{triple_self}
use Rattle.correspondence.proofs.FromSources.{all_bodies, bodies_renamed}
use Rattle.correspondence.proofs.First.{first_corresponds}
use Rattle.correspondence.proofs.Runs.{leads_too}
use Rattle.correspondence.proofs.BothWays.{HasRoom, always_room, leads_back}
use Rattle.correspondence.specs.Premises.{IsSound, Begins, NoCallFirst, HasRoomFor}

-- ---- what is sent had room

module _ (cap : Option ℕ) (n : NetworkState) (x : Event) (m : NetworkState) where
  as_made : {y : Event} {k : NetworkState} → Some (Makes y k) ≡ Some (Makes x m) → HasRoomFor cap n y → HasRoomFor cap n x
  as_made {y} {k} h r =
      let i : y ≡ x = cc in
      subst (λ (w : Event). HasRoomFor cap n w) i r

  put_room : (k : NetworkState) → k.queues ≡ n.queues → (p : ℕ) (b : NameId) (o : Option (ℕ × NameId)) (ol : Option Load) → puts cap k p b o ol ≡ Some (Makes x m) → HasRoomFor cap n x
  put_room k q p b None ol h = absurd cc
  put_room k q p b (Some s) None h = absurd cc
  put_room k q p b (Some (s, a)) (Some l) h = go (has_room cap (queue_of k (s, a, b))) refl h
    where
      go : (r : Bool) → has_room cap (queue_of k (s, a, b)) ≡ r → put_if r k p (s, a, b) l ≡ Some (Makes x m) → HasRoomFor cap n x
      go false e i = absurd cc
      go true e i = as_made {y = event.Send p s a b l} i (ap (λ w. has_room cap (loads_for w (s, a, b))) (sym q) ∙ e)

  take_room : (p : ℕ) (a : NameId) (o : Option (ℕ × NameId)) (f : Load → Option Taking) → takes n p a o f ≡ Some (Makes x m) → HasRoomFor cap n x
  take_room p a None f h = absurd cc
  take_room p a (Some (s, b)) f h = at_queue (queue_of n (s, a, b)) h
    where
      at_load : (l : Load) (rest : List Load) (o : Option Taking) → went n p (s, a, b) l rest o ≡ Some (Makes x m) → HasRoomFor cap n x
      at_load l rest None j = absurd cc
      at_load l rest (Some (Goes next vars ss)) j = as_made {y = event.Recv p s a b l} j tt

      at_queue : (q : List Load) → takes_from n p (s, a, b) f q ≡ Some (Makes x m) → HasRoomFor cap n x
      at_queue [] j = absurd cc
      at_queue (l ∷ rest) j = at_load l rest (f l) j

  node_room : (p : ℕ) (v : ℤ) (vars : Variables) (ss : Sessions) (node : CodeNode) → node_makes cap n p v vars ss node ≡ Some (Makes x m) → HasRoomFor cap n x
  node_room p v vars ss (Send k b e next) h = put_room (moved n p next vars ss) refl p b _ _ h
  node_room p v vars ss (Pick k b l next) h = put_room (moved n p next vars ss) refl p b _ _ h
  node_room p v vars ss (Throw k b g next) h = put_room (moved n p next vars (fin.remove ss g.0)) refl p b _ _ h
  node_room p v vars ss (Recv k a y next) h = take_room p a _ _ h
  node_room p v vars ss (Branch k a arms) h = take_room p a _ _ h
  node_room p v vars ss (Catch k a g next) h = take_room p a _ _ h
  node_room p v vars ss (Set y e next) h = as_made h tt
  node_room p v vars ss (Show e next) h = as_made h tt
  node_room p v vars ss (Host y f a b next) h = as_made h tt
  node_room p v vars ss (If e c d) h = as_made h tt
  node_room p v vars ss (Join c r k next) h = absurd cc
  node_room p v vars ss (Call f q ks) h = absurd cc
  node_room p v vars ss End h = absurd cc

  act_room : (e : Endpoints) (p : ℕ) (v : ℤ) → makes e cap n p v ≡ Some (Makes x m) → HasRoomFor cap n x
  act_room e p v h = at_machine (slice_get n.machines p) h
    where
      at_place : (vars : Variables) (o : Option Place) → place_makes cap n p v vars o ≡ Some (Makes x m) → HasRoomFor cap n x
      at_place vars None i = absurd cc
      at_place vars (Some q) i = node_room p v vars q.sessions q.node i

      at_machine : (o : Option Machine) → machine_makes e cap n p v o ≡ Some (Makes x m) → HasRoomFor cap n x
      at_machine None i = absurd cc
      at_machine (Some w) i = at_place w.vars (place_of e w) i

  start_room : (e : Endpoints) (c : NameId) (ps : List ℕ) → starts e n c ps ≡ Some (Makes x m) → HasRoomFor cap n x
  start_room e c ps h = at_channel (channel_of e.channels c) h
    where
      at_joiners : (k : Channel) (qs : List (NameId × ℕ)) (o : Option (List (ℕ × Machine))) → begun e n c k qs o ≡ Some (Makes x m) → HasRoomFor cap n x
      at_joiners k qs None i = absurd cc
      at_joiners k qs (Some ms) i = as_made i tt

      at_pairs : (k : Channel) (o : Option (List (NameId × ℕ))) → starts_with e n c k o ≡ Some (Makes x m) → HasRoomFor cap n x
      at_pairs k None i = absurd cc
      at_pairs k (Some []) i = absurd cc
      at_pairs k (Some (q ∷ qs)) i = at_joiners k (q ∷ qs) (joiners e n c n.sid (q ∷ qs)) i

      at_channel : (o : Option Channel) → channel_starts e n c ps o ≡ Some (Makes x m) → HasRoomFor cap n x
      at_channel None i = absurd cc
      at_channel (Some k) i = at_pairs k (paired k.active ps) i

had_room : (e : Endpoints) (hosts : Hosts) (cap : Option ℕ) (n : NetworkState) (x : Event) (m : NetworkState) → NetworkSteps e hosts cap n x m → HasRoomFor cap n x
had_room e hosts cap n x m (acts p v a h) = act_room cap n x m e p v h
had_room e hosts cap n x m (begins c ps h) = start_room cap n x m e c ps h

-- ---- how long queues are

-- with the loads in transit in this state, the events stay within the capacity
abbrev RoomIn : ℕ → NetworkState → List Event → Type 0
RoomIn c n h = (front rest : List Event) → h ≡ front ++ rest → (t : Triple) → length (queue_of n t) + length (sent_on t front) ≤ length (received_on t front) + c

step_lengths : (e : Endpoints) (hosts : Hosts) (cap : Option ℕ) (n : NetworkState) (x : Event) (m : NetworkState) (t : Triple) → NetworkSteps e hosts cap n x m → length (received_by t x) + length (queue_of m t) ≡ length (queue_of n t) + length (sent_by t x)
step_lengths e hosts cap n x m t s =
    sym (length-append (received_by t x) (queue_of m t)) ∙ ap (λ w. length w) (step_keeps e hosts cap n x m t s) ∙ length-append (queue_of n t) (sent_by t x)

-- after a step, what is still to come is within the capacity if all of it was
room_later : (c : ℕ) (e : Endpoints) (hosts : Hosts) (cap : Option ℕ) (n : NetworkState) (x : Event) (xs : List Event) (m : NetworkState) → NetworkSteps e hosts cap n x m → RoomIn c n (x ∷ xs) → RoomIn c m xs
room_later c e hosts cap n x xs m s r = λ front rest is t.
    let one = step_lengths e hosts cap n x m t s in
    let all = r (x ∷ front) rest (ap (λ w. x ∷ w) is) t in
    let sent = length-append (sent_by t x) (sent_on t front) in
    let got = length-append (received_by t x) (received_on t front) in
    grind (arith)

-- a run within the capacity has room
has_room_in : (c : ℕ) (e : Endpoints) (hosts : Hosts) (h : List Event) (n : NetworkState) → RoomIn c n h → HasRoom e hosts (Some c) n h
has_room_in c e hosts [] n r = tt
has_room_in c e hosts (x ∷ xs) n r = (one x (λ t. r (x ∷ []) xs refl t), λ m s. has_room_in c e hosts xs m (room_later c e hosts (Some c) n x xs m s r))
  where
    one : (y : Event) → ((t : Triple) → length (queue_of n t) + length (sent_on t (y ∷ [])) ≤ length (received_on t (y ∷ [])) + c) → HasRoomFor (Some c) n y
    one (event.Start a s parts) k = tt
    one (event.Send p s a b l) k =
        let i : length (queue_of n (s, a, b)) + length ((if triple_eq (s, a, b) (s, a, b) then l ∷ [] else []) ++ []) ≤ zero + c = k (s, a, b) in
        let j : length (queue_of n (s, a, b)) + 1 ≤ zero + c = subst (λ (w : Bool). length (queue_of n (s, a, b)) + length ((if w then l ∷ [] else []) ++ []) ≤ zero + c) (triple_self (s, a, b)) i in
        grind (arith, nat_tests)
    one (event.Recv p s a b l) k = tt
    one (event.Test p b) k = tt
    one (event.Set p y v) k = tt
    one (event.Show p v) k = tt
    one (event.Host p y f v w z) k = tt

-- no queue is longer after a step than the capacity
no_longer : (c : ℕ) (e : Endpoints) (hosts : Hosts) (n : NetworkState) (x : Event) (m : NetworkState) → NetworkSteps e hosts (Some c) n x m → ((t : Triple) → length (queue_of n t) ≤ c) → (t : Triple) → length (queue_of m t) ≤ c
no_longer c e hosts n x m s q t = one x (had_room e hosts (Some c) n x m s) (step_lengths e hosts (Some c) n x m t s)
  where
    one : (y : Event) → HasRoomFor (Some c) n y → length (received_by t y) + length (queue_of m t) ≡ length (queue_of n t) + length (sent_by t y) → length (queue_of m t) ≤ c
    one (event.Start a s parts) r k = let b = q t in grind (arith)
    one (event.Send p s a b l) r k = at_triple (triple_eq t (s, a, b)) refl
      where
        at_triple : (w : Bool) → triple_eq t (s, a, b) ≡ w → length (queue_of m t) ≤ c
        at_triple false i =
            let z : zero + length (queue_of m t) ≡ length (queue_of n t) + zero = subst (λ (w : Bool). zero + length (queue_of m t) ≡ length (queue_of n t) + length (if w then l ∷ [] else [])) i k in
            let b = q t in
            grind (arith)
        at_triple true i =
            let z : zero + length (queue_of m t) ≡ length (queue_of n t) + 1 = subst (λ (w : Bool). zero + length (queue_of m t) ≡ length (queue_of n t) + length (if w then l ∷ [] else [])) i k in
            let is = same_triple t (s, a, b) i in
            let u : nat_lt (length (queue_of n t)) c ≡ true = subst (λ (w : Triple). nat_lt (length (queue_of n w)) c ≡ true) (sym is) r in
            grind (arith, nat_tests)
    one (event.Recv p s a b l) r k = let b = q t in grind (arith)
    one (event.Test p b) r k = let b = q t in grind (arith)
    one (event.Set p y v) r k = let b = q t in grind (arith)
    one (event.Show p v) r k = let b = q t in grind (arith)
    one (event.Host p y f v w z) r k = let b = q t in grind (arith)

-- a run under the capacity is within it
within_in : (c : ℕ) (e : Endpoints) (hosts : Hosts) (h : List Event) (n m : NetworkState) → NetworkLeads e hosts (Some c) n h m → ((t : Triple) → length (queue_of n t) ≤ c) → RoomIn c n h
within_in c e hosts h n m l q [] rest is t = let b = q t in grind (arith)
within_in c e hosts [] n m l q (y ∷ front) rest is t = absurd cc
within_in c e hosts (x ∷ xs) n m l q (y ∷ front) rest is t =
    let mid = l.0 in
    let s = l.1 in
    let same : x ≡ y = cc in
    let on : xs ≡ front ++ rest = cc in
    let later = within_in c e hosts xs mid m l.2 (no_longer c e hosts n x mid s q) front rest on t in
    let one : length (received_by t y) + length (queue_of mid t) ≡ length (queue_of n t) + length (sent_by t y) = subst (λ (w : Event). length (received_by t w) + length (queue_of mid t) ≡ length (queue_of n t) + length (sent_by t w)) same (step_lengths e hosts (Some c) n x mid t s) in
    let sent = length-append (sent_by t y) (sent_on t front) in
    let got = length-append (received_by t y) (received_on t front) in
    grind (arith)

pub run_within : (e : Endpoints) (hosts : Hosts) (cap : Option ℕ) (h : List Event) (last : NetworkState) → IsNetworkRun e hosts cap h last → WithinCapacity cap h
run_within e hosts None h last run = tt
run_within e hosts (Some c) h last run = within
  where
    empty : (u : Triple) → length (queue_of (first_state e) u) ≤ c
    empty u = grind (arith)

    within : IsWithin c h
    within front rest is t = let b = within_in c e hosts h (first_state e) last run empty front rest is t in grind (arith)

pub run_has_room : (e : Endpoints) (hosts : Hosts) (cap : Option ℕ) (h : List Event) → WithinCapacity cap h → HasRoom e hosts cap (first_state e) h
run_has_room e hosts None h w = always_room e hosts h (first_state e)
run_has_room e hosts (Some c) h w = has_room_in c e hosts h (first_state e) within
  where
    within : RoomIn c (first_state e) h
    within front rest is t = let b = w front rest is t in grind (arith)

-- Each run of the endpoints of a file is a run of its choreography, and back, under the same capacity
module _ (f : File) (e : Endpoints) (sets : NameId → ParameterSets) (lists : ListedHolders) (hosts : Hosts) (sound : IsSound e (procedures_of f) sets lists) (begins : Begins e f sets lists) (no_call : NoCallFirst e) (cap : Option ℕ) where
  pub network_run_is_run : (h : List Event) (last : NetworkState) → IsNetworkRun e hosts cap h last → IsRun f hosts cap h
  network_run_is_run h last run =
      let r = leads_too e (procedures_of f) sets lists hosts (all_bodies e (procedures_of f) sets lists sound) (bodies_renamed e.channels (procedures_of f) sound.sources sound.fit) cap h (first_configuration f) (first_state e) last (first_corresponds e f sets lists begins) run in
      (r.0, record { leads = r.1; within = run_within e hosts cap h last run })

  pub run_is_network_run : (h : List Event) → IsRun f hosts cap h → (last : NetworkState) × IsNetworkRun e hosts cap h last
  run_is_network_run h (d, run) =
      let r = leads_back e (procedures_of f) sets lists hosts (all_bodies e (procedures_of f) sets lists sound) (bodies_renamed e.channels (procedures_of f) sound.sources sound.fit) no_call cap h (first_configuration f) d (first_state e) (first_corresponds e f sets lists begins) run.leads (run_has_room e hosts cap h run.within) in
      (r.0, r.1)
