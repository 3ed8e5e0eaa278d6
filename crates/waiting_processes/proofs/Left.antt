-- By an event no other process has moved, and no other queue has changed.
use Rattle.std.proofs.Common.{◌≡◌, ℕ, zero, suc, ◌<◌, ◌==◌, ◌&&◌, Bool, true, false, cond, List, [], ◌∷◌, ◌++◌, length, refl, sym, ap, ◌∙◌, subst, Option, Some, None, ℤ, arith}
use Rattle.std.specs.Prelude.{slice_get, slice_set, ◌≢◌}
use Rattle.std.proofs.lemmas.Bool.{eqb-true, and_parts}
use Rattle.std.specs.FinMap as fin
use Rattle.chor_base.proofs.Lists.{get_set_other, get_append_left}
use Rattle.chor_base.specs.declared.names.NameId.{NameId}
use Rattle.chor_base.specs.declared.value.Load.{Load}
use Rattle.chor_base.specs.declared.event.Event.{Event}
use Rattle.chor_base.specs.NameMap.{Variables}
use Rattle.chor_base.specs.Meaning.{Hosts}
use Rattle.chor_base.specs.Events.{Triple, triple_eq}
use Rattle.endpoint_code.specs.declared.code.CodeId.{CodeId}
use Rattle.endpoint_code.specs.declared.code.CodeNode.{CodeNode}
use Rattle.endpoint_code.specs.declared.code.CodeNode.TheVariants.{Join, Send, Recv, Pick, Branch, Throw, Catch, Set, Show, Host, If, Call, End}
use Rattle.endpoint_code.specs.declared.endpoints.Channel.{Channel as ChannelCode}
use Rattle.endpoint_code.specs.declared.endpoints.Endpoints.{Endpoints}
use Rattle.endpoint_code.specs.Network.{Sessions, Machine, NetworkState, Place, Makes, Taking, Goes, queue_of, loads_for, with_loads, moved, put_if, puts, has_room, takes, takes_from, went, node_makes, place_makes, machine_makes, makes, place_of, place_at, node_joins, place_joins, joins, one_joiner, joiners, with_machines, served, begun, starts_with, channel_starts, channel_of, paired}
use Rattle.endpoint_code.specs.Scheduled.{Chooses, chosen_at, started_on, started, partners}
use Rattle.endpoint_code.proofs.Queues.{loads-other}
use Rattle.endpoint_code.proofs.Fifo.{same_triple}
use Rattle.endpoint_machine.specs.declared.head.Head.{Head}
use Rattle.endpoint_machine.specs.declared.head.Head.TheVariants as head
use Rattle.endpoint_machine.specs.Heads.{place_head, node_head, sends_on, takes_on}
use Rattle.waiting_processes.specs.declared.waits.Awaited.TheVariants.{Queue, Channel}
use Rattle.waiting_processes.specs.Waits.{touched_by, awaited_of, awaited_in, awaited_at}
use Rattle.waiting_processes.specs.Untouched.{IsAt, IsUnmoved, LeavesOthers}

-- ---- lists

length_set : {X : Type 0} (xs : List X) (i : ℕ) (x : X) → length (slice_set xs i x) ≡ length xs
length_set [] i x = refl
length_set (y ∷ xs) zero x = refl
length_set (y ∷ xs) (suc i) x = ap suc (length_set xs i x)

-- ---- an event that a process makes by itself

-- a process alone has moved, and no queue has changed but the one that its head touches
record MovesAlone (n : NetworkState) (p : ℕ) (h : Head) (m : NetworkState) : Type 0 where
  machines : (q : ℕ) → q ≢ p → IsUnmoved n m q
  queues : (t : Triple) → (touched_by h ≡ Some (Queue t.0 t.1 t.2) → ⊥) → queue_of m t ≡ queue_of n t

made_state : {x y : Event} {n m : NetworkState} → Some (Makes y n) ≡ Some (Makes x m) → n ≡ m
made_state h = cc

-- the queue of the touched triple is another
with_other : (n : NetworkState) (u : Triple) (ls : List Load) (h : Head) → touched_by h ≡ Some (Queue u.0 u.1 u.2) → (t : Triple) → (touched_by h ≡ Some (Queue t.0 t.1 t.2) → ⊥)
    → loads_for (with_loads n.queues u ls) t ≡ queue_of n t
with_other n u ls h is t apart = go (triple_eq u t) refl
  where
    go : (b : Bool) → triple_eq u t ≡ b → loads_for (with_loads n.queues u ls) t ≡ queue_of n t
    go true e = absurd (apart (is ∙ ap (λ (w : Triple). Some (Queue w.0 w.1 w.2)) (same_triple u t e)))
    go false e = loads-other n.queues u t ls e

module _ (n : NetworkState) (p : ℕ) (h : Head) (x : Event) (m : NetworkState) where
  abbrev Alone : Type 0
  Alone = MovesAlone n p h m

  moves : (at : CodeId) (vars : Variables) (ss : Sessions) (y : Event) → Some (Makes y (moved n p at vars ss)) ≡ Some (Makes x m) → Alone
  moves at vars ss y i = subst (λ (k : NetworkState). MovesAlone n p h k) (made_state i) (record {
    machines = λ q other. get_set_other n.machines p q (record { at = at; vars = vars; sessions = ss }) other;
    queues = λ t apart. refl;
  })

  changes : (at : CodeId) (vars : Variables) (ss : Sessions) (u : Triple) (ls : List Load) (y : Event) → touched_by h ≡ Some (Queue u.0 u.1 u.2)
      → Some (Makes y (record (moved n p at vars ss) { queues = with_loads n.queues u ls })) ≡ Some (Makes x m) → Alone
  changes at vars ss u ls y is i = subst (λ (k : NetworkState). MovesAlone n p h k) (made_state i) (record {
    machines = λ q other. get_set_other n.machines p q (record { at = at; vars = vars; sessions = ss }) other;
    queues = λ t apart. with_other n u ls h is t apart;
  })

  puts_alone : (cap : Option ℕ) (at : CodeId) (vars : Variables) (ss : Sessions) (b : NameId) (o : Option (ℕ × NameId)) (ol : Option Load)
      → sends_on o b ≡ Some h → puts cap (moved n p at vars ss) p b o ol ≡ Some (Makes x m) → Alone
  puts_alone cap at vars ss b None ol g i = absurd cc
  puts_alone cap at vars ss b (Some (s, a)) None g i = absurd cc
  puts_alone cap at vars ss b (Some (s, a)) (Some l) g i = go (has_room cap (queue_of n (s, a, b))) i
    where
      is : touched_by h ≡ Some (Queue s a b)
      is = let same : head.Out s a b ≡ h = cc in ap touched_by (sym same)

      go : (r : Bool) → put_if r (moved n p at vars ss) p (s, a, b) l ≡ Some (Makes x m) → Alone
      go false j = absurd cc
      go true j = changes at vars ss (s, a, b) (queue_of n (s, a, b) ++ l ∷ []) _ is j

  takes_alone : (a : NameId) (o : Option (ℕ × NameId)) (f : Load → Option Taking) → takes_on o a ≡ Some h → takes n p a o f ≡ Some (Makes x m) → Alone
  takes_alone a None f g i = absurd cc
  takes_alone a (Some (s, b)) f g i = at_queue (queue_of n (s, a, b)) i
    where
      is : touched_by h ≡ Some (Queue s a b)
      is = let same : head.Take s a b ≡ h = cc in ap touched_by (sym same)

      at_load : (l : Load) (rest : List Load) (o : Option Taking) → went n p (s, a, b) l rest o ≡ Some (Makes x m) → Alone
      at_load l rest None j = absurd cc
      at_load l rest (Some (Goes next vars ss)) j = changes next vars ss (s, a, b) rest _ is j

      at_queue : (ls : List Load) → takes_from n p (s, a, b) f ls ≡ Some (Makes x m) → Alone
      at_queue [] j = absurd cc
      at_queue (l ∷ rest) j = at_load l rest (f l) j

  node_alone : (cap : Option ℕ) (v : ℤ) (vars : Variables) (ss : Sessions) (node : CodeNode) → node_head ss node ≡ Some h → node_makes cap n p v vars ss node ≡ Some (Makes x m) → Alone
  node_alone cap v vars ss (Send k b e next) g i = puts_alone cap next vars ss b (fin.get ss k.0) _ g i
  node_alone cap v vars ss (Pick k b l next) g i = puts_alone cap next vars ss b (fin.get ss k.0) _ g i
  node_alone cap v vars ss (Throw k b d next) g i = puts_alone cap next vars (fin.remove ss d.0) b (fin.get ss k.0) _ g i
  node_alone cap v vars ss (Recv k a y next) g i = takes_alone a (fin.get ss k.0) _ g i
  node_alone cap v vars ss (Branch k a arms) g i = takes_alone a (fin.get ss k.0) _ g i
  node_alone cap v vars ss (Catch k a y next) g i = takes_alone a (fin.get ss k.0) _ g i
  node_alone cap v vars ss (Set y e next) g i = moves _ _ _ _ i
  node_alone cap v vars ss (Show e next) g i = moves _ _ _ _ i
  node_alone cap v vars ss (Host y f a b next) g i = moves _ _ _ _ i
  node_alone cap v vars ss (If e c d) g i = moves _ _ _ _ i
  node_alone cap v vars ss (Join c r k next) g i = absurd cc
  node_alone cap v vars ss (Call f d ks) g i = absurd cc
  node_alone cap v vars ss End g i = absurd cc

-- ---- a start

-- a machine that joins a channel
joining_waits : (e : Endpoints) (cap : Option ℕ) (o : Option Machine) (c r : NameId) (s : ℕ) (w : Machine) → joins e o c r s ≡ Some w → awaited_in e cap o ≡ Some (Channel c)
joining_waits e cap None c r s w h = absurd cc
joining_waits e cap (Some m) c r s w h = at_place (place_of e m) h
  where
    at_join : (d q : NameId) (b : Bool) (ss : Sessions) (k : NameId) (next : CodeId) → ((d.0 == c.0) && b) ≡ true → awaited_of cap (Some (head.Join d q)) ≡ Some (Channel c)
    at_join d q b ss k next i = let same : d.0 ≡ c.0 = eqb-true d.0 c.0 (and_parts (d.0 == c.0) b i).0 in ap (λ (j : ℕ). Some (Channel (let name : NameId = record { 0 = j } in name))) same

    tested : (b : Bool) (o : Machine) → cond b (Some o) None ≡ Some w → b ≡ true
    tested true o i = refl
    tested false o i = absurd cc

    at_node : (node : CodeNode) (ss : Sessions) → node_joins node m.vars ss c r s ≡ Some w → awaited_of cap (node_head ss node) ≡ Some (Channel c)
    at_node (Join d q k next) ss i = at_join d q (q.0 == r.0) ss k next (tested ((d.0 == c.0) && (q.0 == r.0)) _ i)
    at_node (Send k b y next) ss i = absurd cc
    at_node (Recv k b y next) ss i = absurd cc
    at_node (Pick k b l next) ss i = absurd cc
    at_node (Branch k b arms) ss i = absurd cc
    at_node (Throw k b l next) ss i = absurd cc
    at_node (Catch k b l next) ss i = absurd cc
    at_node (Set y v next) ss i = absurd cc
    at_node (Show v next) ss i = absurd cc
    at_node (Host y f a b next) ss i = absurd cc
    at_node (If v a b) ss i = absurd cc
    at_node (Call f o ks) ss i = absurd cc
    at_node End ss i = absurd cc

    at_place : (o : Option Place) → place_joins o m.vars c r s ≡ Some w → awaited_of cap (place_head o) ≡ Some (Channel c)
    at_place None i = absurd cc
    at_place (Some q) i = at_node q.node q.sessions i

-- the machines of the joiners stand at other places than that of a process that doesn't join the channel
abbrev AreOff : ℕ → List (ℕ × Machine) → Type 0
AreOff q [] = Unit {0}
AreOff q (j ∷ js) = (q ≢ j.0) × AreOff q js

joiners_off : (e : Endpoints) (cap : Option ℕ) (n : NetworkState) (c : NameId) (s q : ℕ) → (awaited_at e cap n q ≡ Some (Channel c) → ⊥) → (ps : List (NameId × ℕ)) (js : List (ℕ × Machine)) → joiners e n c s ps ≡ Some js → AreOff q js
joiners_off e cap n c s q apart [] js h = let is : [] ≡ js = cc in subst (AreOff q) is tt
joiners_off e cap n c s q apart (r ∷ ps) js h = go (joins e (slice_get n.machines r.1) c r.0 s) refl (joiners e n c s ps) refl h (λ ks i. joiners_off e cap n c s q apart ps ks i)
  where
    go : (o : Option Machine) → joins e (slice_get n.machines r.1) c r.0 s ≡ o → (ms : Option (List (ℕ × Machine))) → joiners e n c s ps ≡ ms → one_joiner r.1 o ms ≡ Some js
        → ((ks : List (ℕ × Machine)) → joiners e n c s ps ≡ Some ks → AreOff q ks) → AreOff q js
    go None i ms j k more = absurd cc
    go (Some w) i None j k more = absurd cc
    go (Some w) i (Some ks) j k more =
        let is : (r.1, w) ∷ ks ≡ js = cc in
        subst (AreOff q) is (λ same. apart (ap (awaited_at e cap n) same ∙ joining_waits e cap (slice_get n.machines r.1) c r.0 s w i), more ks j)

joined_length : (ms : List Machine) (js : List (ℕ × Machine)) → length (with_machines ms js) ≡ length ms
joined_length ms [] = refl
joined_length ms (j ∷ js) = joined_length (slice_set ms j.0 j.1) js ∙ length_set ms j.0 j.1

joined_other : (ms : List Machine) (js : List (ℕ × Machine)) (q : ℕ) → AreOff q js → slice_get (with_machines ms js) q ≡ slice_get ms q
joined_other ms [] q off = refl
joined_other ms (j ∷ js) q off = joined_other (slice_set ms j.0 j.1) js q off.1 ∙ get_set_other ms j.0 q j.1 off.0

-- who doesn't join the channel hasn't moved, and no queue has changed
record MovesJoiners (e : Endpoints) (cap : Option ℕ) (n : NetworkState) (c : NameId) (m : NetworkState) : Type 0 where
  machines : (q : ℕ) → q < length n.machines → (awaited_at e cap n q ≡ Some (Channel c) → ⊥) → IsUnmoved n m q
  queues : (t : Triple) → queue_of m t ≡ queue_of n t

module _ (e : Endpoints) (cap : Option ℕ) (n : NetworkState) (c : NameId) (x : Event) (m : NetworkState) where
  abbrev Started : Type 0
  Started = MovesJoiners e cap n c m

  at_joiners : (k : ChannelCode) (ps : List (NameId × ℕ)) (o : Option (List (ℕ × Machine))) → joiners e n c n.sid ps ≡ o → begun e n c k ps o ≡ Some (Makes x m) → Started
  at_joiners k ps None i h = absurd cc
  at_joiners k ps (Some js) i h = subst (λ (w : NetworkState). MovesJoiners e cap n c w) (made_state h) (record {
    machines = λ q lt apart.
        let within : q < length (with_machines n.machines js) = subst (λ l. q < l) (sym (joined_length n.machines js)) lt in
        get_append_left (with_machines n.machines js) (served e c n.sid k.serve) q within ∙ joined_other n.machines js q (joiners_off e cap n c n.sid q apart ps js i);
    queues = λ t. refl;
  })

  at_pairs : (k : ChannelCode) (o : Option (List (NameId × ℕ))) → starts_with e n c k o ≡ Some (Makes x m) → Started
  at_pairs k None h = absurd cc
  at_pairs k (Some []) h = absurd cc
  at_pairs k (Some (p ∷ ps)) h = at_joiners k (p ∷ ps) (joiners e n c n.sid (p ∷ ps)) refl h

  at_channel : (ps : List ℕ) (o : Option ChannelCode) → channel_starts e n c ps o ≡ Some (Makes x m) → Started
  at_channel ps None h = absurd cc
  at_channel ps (Some k) h = at_pairs k (paired k.active ps) h

  at_partners : (o : Option (List ℕ)) → started e n c o ≡ Some (Makes x m) → Started
  at_partners None h = absurd cc
  at_partners (Some ps) h = at_channel ps (channel_of e.channels c) h

  starts_on : (p : ℕ) (r : NameId) (o : Option ChannelCode) → started_on e n p c r o ≡ Some (Makes x m) → Started
  starts_on p r None h = absurd cc
  starts_on p r (Some k) h = at_partners (partners e n.machines c p r k.active) h

-- ---- either

module _ (e : Endpoints) (hosts : Hosts) (cap : Option ℕ) (n m : NetworkState) (p : ℕ) (x : Event) (h : Head) where
  from_alone : MovesAlone n p h m → LeavesOthers e cap n p h m
  from_alone a = record { machines = λ q lt other. a.machines q other.another; queues = a.queues }

  from_start : (c r : NameId) → head.Join c r ≡ h → MovesJoiners e cap n c m → LeavesOthers e cap n p h m
  from_start c r is s = record { machines = λ q lt other. s.machines q lt (other.apart (Channel c) (ap touched_by (sym is))); queues = λ t apart. s.queues t }

  -- where the process stands at this place, it makes what is made there
  at_place : (v : ℤ) (w : Machine) → slice_get n.machines p ≡ Some w → (o : Option Place) → place_of e w ≡ o → place_head o ≡ Some h → chosen_at e cap n p v o ≡ Some (Makes x m) → LeavesOthers e cap n p h m
  at_place v w there None i g made = absurd cc
  at_place v w there (Some q) i g made = at_node q.node q.sessions i g made
    where
      acts : (node : CodeNode) (ss : Sessions) → place_of e w ≡ Some (record { node = node; sessions = ss }) → node_head ss node ≡ Some h → makes e cap n p v ≡ Some (Makes x m) → LeavesOthers e cap n p h m
      acts node ss i g made =
          let here : node_makes cap n p v w.vars ss node ≡ Some (Makes x m) = sym (ap (machine_makes e cap n p v) there ∙ ap (place_makes cap n p v w.vars) i) ∙ made in
          from_alone (node_alone n p h x m cap v w.vars ss node g here)

      at_node : (node : CodeNode) (ss : Sessions) → place_of e w ≡ Some (record { node = node; sessions = ss }) → node_head ss node ≡ Some h
          → chosen_at e cap n p v (Some (record { node = node; sessions = ss })) ≡ Some (Makes x m) → LeavesOthers e cap n p h m
      at_node (Join c r k next) ss i g made = let is : head.Join c r ≡ h = cc in from_start c r is (starts_on e cap n c x m p r (channel_of e.channels c) made)
      at_node (Send k b y next) ss i g made = acts (Send k b y next) ss i g made
      at_node (Recv k b y next) ss i g made = acts (Recv k b y next) ss i g made
      at_node (Pick k b l next) ss i g made = acts (Pick k b l next) ss i g made
      at_node (Branch k b arms) ss i g made = acts (Branch k b arms) ss i g made
      at_node (Throw k b l next) ss i g made = acts (Throw k b l next) ss i g made
      at_node (Catch k b l next) ss i g made = acts (Catch k b l next) ss i g made
      at_node (Set y u next) ss i g made = acts (Set y u next) ss i g made
      at_node (Show u next) ss i g made = acts (Show u next) ss i g made
      at_node (Host y f a b next) ss i g made = acts (Host y f a b next) ss i g made
      at_node (If u c d) ss i g made = acts (If u c d) ss i g made
      at_node (Call f q ks) ss i g made = acts (Call f q ks) ss i g made
      at_node End ss i g made = acts End ss i g made

  -- By an event of a process no other has moved, and no other queue has changed
  pub others_left : IsAt e n p h → Chooses e hosts cap n p x m → LeavesOthers e cap n p h m
  others_left at chooses =
      at_place chooses.answer at.machine at.there (place_of e at.machine) refl at.head
      (subst (λ (o : Option Machine). chosen_at e cap n p chooses.answer (place_at e o) ≡ Some (Makes x m)) at.there chooses.made)
