-- What a step that one process makes leaves as it was.
use Rattle.std.proofs.Common.{◌≡◌, ◌≢◌, ℕ, zero, suc, ◌<◌, Bool, true, false, List, [], ◌∷◌, ◌++◌, length, drop, refl, sym, ap, ◌∙◌, subst, Option, Some, None, ℤ}
use Rattle.std.specs.Prelude.{slice_get, slice_set}
use Rattle.std.proofs.lemmas.List.{length-set}
use Rattle.std.proofs.lemmas.Option.{slice_get_within}
use Rattle.std.specs.FinMap as fin
use Rattle.chor_base.proofs.Lists.{get_set_other}
use Rattle.chor_base.specs.declared.names.NameId.{NameId}
use Rattle.chor_base.specs.declared.value.Load.{Load}
use Rattle.chor_base.specs.declared.event.Event.{Event}
use Rattle.chor_base.specs.declared.event.Event.TheVariants as event
use Rattle.chor_base.specs.NameMap.{Variables}
use Rattle.chor_base.specs.Meaning.{Hosts}
use Rattle.chor_base.specs.Events.{Triple, actors_of}
use Rattle.endpoint_code.specs.declared.code.CodeId.{CodeId}
use Rattle.endpoint_code.specs.declared.code.CodeNode.{CodeNode}
use Rattle.endpoint_code.specs.declared.code.CodeNode.TheVariants.{Join, Send, Recv, Pick, Branch, Throw, Catch, Set, Show, Host, If, Call, End}
use Rattle.endpoint_code.specs.declared.endpoints.Channel.{Channel}
use Rattle.endpoint_code.specs.declared.endpoints.Endpoints.{Endpoints}
use Rattle.endpoint_code.specs.Network.{Sessions, Machine, NetworkState, Place, Makes, Taking, Goes, loads_for, with_loads, moved, put_if, puts, has_room, queue_of, takes, takes_from, went, node_makes, place_makes, machine_makes, makes, place_of, starts, starts_with, channel_starts, channel_of, begun, joiners, paired, part_load, served_parts, NetworkSteps, acts, begins}

-- ---- lists

-- ---- one process

-- the queues after an event
abbrev pub queues_after : Event → List (Triple × List Load) → List (Triple × List Load)
queues_after (event.Send p s a b l) qs = with_loads qs (s, a, b) (loads_for qs (s, a, b) ++ l ∷ [])
queues_after (event.Recv p s a b l) qs = with_loads qs (s, a, b) (drop 1 (loads_for qs (s, a, b)))
queues_after _ qs = qs

-- by event x of process p the network has come to another state, in which the other processes stand where they stood
pub record ActsAlone (p : ℕ) (x : Event) (n m : NetworkState) : Type 0 where
  pub actor : actors_of x ≡ p ∷ []
  pub sid : m.sid ≡ n.sid
  pub queues : m.queues ≡ queues_after x n.queues
  pub long : length m.machines ≡ length n.machines
  pub others : (q : ℕ) → q ≢ p → slice_get m.machines q ≡ slice_get n.machines q

-- a process has moved, and the queues are those after its event
moved_alone : (n : NetworkState) (p : ℕ) (at : CodeId) (vars : Variables) (ss : Sessions) (x : Event) (qs : List (Triple × List Load)) → actors_of x ≡ p ∷ [] → qs ≡ queues_after x n.queues
    → ActsAlone p x n (record { machines = slice_set n.machines p (record { at = at; vars = vars; sessions = ss }); queues = qs; sid = n.sid })
moved_alone n p at vars ss x qs a is = record {
  actor = a;
  sid = refl;
  queues = is;
  long = length-set n.machines p (record { at = at; vars = vars; sessions = ss });
  others = λ q h. get_set_other n.machines p q (record { at = at; vars = vars; sessions = ss }) h;
}

module _ (p : ℕ) (x : Event) (m : NetworkState) where
  is_made : (n : NetworkState) {k : NetworkState} {y : Event} → Some (Makes y k) ≡ Some (Makes x m) → ActsAlone p y n k → ActsAlone p x n m
  is_made n {k} {y} h a =
      let i : y ≡ x = cc in
      let j : k ≡ m = cc in
      subst (λ (w : NetworkState). ActsAlone p x n w) j (subst (λ (w : Event). ActsAlone p w n k) i a)

  put_alone : (cap : Option ℕ) (n : NetworkState) (at : CodeId) (vars : Variables) (ss : Sessions) (b : NameId) (o : Option (ℕ × NameId)) (ol : Option Load) → puts cap (moved n p at vars ss) p b o ol ≡ Some (Makes x m) → ActsAlone p x n m
  put_alone cap n at vars ss b None ol h = absurd cc
  put_alone cap n at vars ss b (Some s) None h = absurd cc
  put_alone cap n at vars ss b (Some (s, a)) (Some l) h = go (has_room cap (queue_of n (s, a, b))) h
    where
      go : (r : Bool) → put_if r (moved n p at vars ss) p (s, a, b) l ≡ Some (Makes x m) → ActsAlone p x n m
      go false i = absurd cc
      go true i = is_made n i (moved_alone n p at vars ss (event.Send p s a b l) _ refl refl)

  take_alone : (n : NetworkState) (a : NameId) (o : Option (ℕ × NameId)) (f : Load → Option Taking) → takes n p a o f ≡ Some (Makes x m) → ActsAlone p x n m
  take_alone n a None f h = absurd cc
  take_alone n a (Some (s, b)) f h = at_queue (queue_of n (s, a, b)) refl h
    where
      at_load : (l : Load) (rest : List Load) (o : Option Taking) → queue_of n (s, a, b) ≡ l ∷ rest → went n p (s, a, b) l rest o ≡ Some (Makes x m) → ActsAlone p x n m
      at_load l rest None e j = absurd cc
      at_load l rest (Some (Goes next vars ss)) e j = is_made n j (moved_alone n p next vars ss (event.Recv p s a b l) _ refl (ap (λ (ls : List Load). with_loads n.queues (s, a, b) (drop 1 ls)) (sym e)))

      at_queue : (q : List Load) → queue_of n (s, a, b) ≡ q → takes_from n p (s, a, b) f q ≡ Some (Makes x m) → ActsAlone p x n m
      at_queue [] e j = absurd cc
      at_queue (l ∷ rest) e j = at_load l rest (f l) e j

  node_alone : (cap : Option ℕ) (n : NetworkState) (v : ℤ) (vars : Variables) (ss : Sessions) (node : CodeNode) → node_makes cap n p v vars ss node ≡ Some (Makes x m) → ActsAlone p x n m
  node_alone cap n v vars ss (Send k b e next) h = put_alone cap n next vars ss b _ _ h
  node_alone cap n v vars ss (Pick k b l next) h = put_alone cap n next vars ss b _ _ h
  node_alone cap n v vars ss (Throw k b g next) h = put_alone cap n next vars (fin.remove ss g.0) b _ _ h
  node_alone cap n v vars ss (Recv k a y next) h = take_alone n a _ _ h
  node_alone cap n v vars ss (Branch k a arms) h = take_alone n a _ _ h
  node_alone cap n v vars ss (Catch k a g next) h = take_alone n a _ _ h
  node_alone cap n v vars ss (Set y e next) h = is_made n h (moved_alone n p _ _ _ _ _ refl refl)
  node_alone cap n v vars ss (Show e next) h = is_made n h (moved_alone n p _ _ _ _ _ refl refl)
  node_alone cap n v vars ss (Host y f a b next) h = is_made n h (moved_alone n p _ _ _ _ _ refl refl)
  node_alone cap n v vars ss (If e c d) h = is_made n h (moved_alone n p _ _ _ _ _ refl refl)
  node_alone cap n v vars ss (Join c r k next) h = absurd cc
  node_alone cap n v vars ss (Call f q ks) h = absurd cc
  node_alone cap n v vars ss End h = absurd cc

  pub makes_alone : (e : Endpoints) (cap : Option ℕ) (n : NetworkState) (v : ℤ) → makes e cap n p v ≡ Some (Makes x m) → ActsAlone p x n m × (p < length n.machines)
  makes_alone e cap n v h = at_machine (slice_get n.machines p) refl h
    where
      at_place : (vars : Variables) (o : Option Place) → place_makes cap n p v vars o ≡ Some (Makes x m) → ActsAlone p x n m
      at_place vars None i = absurd cc
      at_place vars (Some q) i = node_alone cap n v vars q.sessions q.node i

      at_machine : (o : Option Machine) → slice_get n.machines p ≡ o → machine_makes e cap n p v o ≡ Some (Makes x m) → ActsAlone p x n m × (p < length n.machines)
      at_machine None g i = absurd cc
      at_machine (Some w) g i = (at_place w.vars (place_of e w) i, slice_get_within n.machines p w g)

-- ---- starts

abbrev pub is_start : Event → Bool
is_start (event.Start c s ps) = true
is_start _ = false

pub starts_start : (e : Endpoints) (n m : NetworkState) (c : NameId) (ps : List ℕ) (x : Event) → starts e n c ps ≡ Some (Makes x m) → is_start x ≡ true
starts_start e n m c ps x h = at_channel (channel_of e.channels c) h
  where
    at_joiners : (k : Channel) (qs : List (NameId × ℕ)) (o : Option (List (ℕ × Machine))) → begun e n c k qs o ≡ Some (Makes x m) → is_start x ≡ true
    at_joiners k qs None i = absurd cc
    at_joiners k qs (Some ms) i = (let j : event.Start c n.sid (qs ++ served_parts k.serve (length n.machines)) ≡ x = cc in ap is_start (sym j))

    at_pairs : (k : Channel) (o : Option (List (NameId × ℕ))) → starts_with e n c k o ≡ Some (Makes x m) → is_start x ≡ true
    at_pairs k None i = absurd cc
    at_pairs k (Some []) i = absurd cc
    at_pairs k (Some (q ∷ qs)) i = at_joiners k (q ∷ qs) (joiners e n c n.sid (q ∷ qs)) i

    at_channel : (o : Option Channel) → channel_starts e n c ps o ≡ Some (Makes x m) → is_start x ≡ true
    at_channel None i = absurd cc
    at_channel (Some k) i = at_pairs k (paired k.active ps) i

-- a step that starts no session is made by the process of its event
pub step_alone : (e : Endpoints) (hosts : Hosts) (cap : Option ℕ) (n m : NetworkState) (x : Event) (p : ℕ) → is_start x ≡ false → actors_of x ≡ p ∷ [] → NetworkSteps e hosts cap n x m → ActsAlone p x n m × (p < length n.machines)
step_alone e hosts capacity n m x p local a (acts q v answers h) =
    let by = makes_alone q x m e capacity n v h in
    let same : q ∷ [] ≡ p ∷ [] = sym by.0.actor ∙ a in
    let is : q ≡ p = cc in
    subst (λ r. ActsAlone r x n m × (r < length n.machines)) is by
step_alone e hosts capacity n m x p local a (begins c ps h) = (let yes = starts_start e n m c ps x h in absurd cc)

-- ---- capacities

-- the triple on which an event sends
abbrev pub sends_on : Event → Option Triple
sends_on (event.Send p s a b l) = Some (s, a, b)
sends_on _ = None

-- where an event sends, its queue has room
abbrev pub FindsRoom : Option ℕ → List (Triple × List Load) → Option Triple → Type 0
FindsRoom cap qs None = Unit {0}
FindsRoom cap qs (Some t) = has_room cap (loads_for qs t) ≡ true

module _ (cap : Option ℕ) (x : Event) (m : NetworkState) where
  put_capped : (n : NetworkState) (p : ℕ) (at : CodeId) (vars : Variables) (ss : Sessions) (b : NameId) (o : Option (ℕ × NameId)) (ol : Option Load) → FindsRoom cap n.queues (sends_on x)
      → puts None (moved n p at vars ss) p b o ol ≡ Some (Makes x m) → puts cap (moved n p at vars ss) p b o ol ≡ Some (Makes x m)
  put_capped n p at vars ss b None ol r h = absurd cc
  put_capped n p at vars ss b (Some s) None r h = absurd cc
  put_capped n p at vars ss b (Some (s, a)) (Some l) r h =
      let is : event.Send p s a b l ≡ x = cc in
      let room : has_room cap (queue_of n (s, a, b)) ≡ true = subst (λ (y : Event). FindsRoom cap n.queues (sends_on y)) (sym is) r in
      ap (λ t. put_if t (moved n p at vars ss) p (s, a, b) l) room ∙ h

  node_capped : (n : NetworkState) (p : ℕ) (v : ℤ) (vars : Variables) (ss : Sessions) (node : CodeNode) → FindsRoom cap n.queues (sends_on x) → node_makes None n p v vars ss node ≡ Some (Makes x m) → node_makes cap n p v vars ss node ≡ Some (Makes x m)
  node_capped n p v vars ss (Send k b e next) r h = put_capped n p next vars ss b (fin.get ss k.0) (Some _) r h
  node_capped n p v vars ss (Pick k b l next) r h = put_capped n p next vars ss b (fin.get ss k.0) (Some _) r h
  node_capped n p v vars ss (Throw k b g next) r h = put_capped n p next vars (fin.remove ss g.0) b (fin.get ss k.0) (part_load (fin.get ss g.0)) r h
  node_capped n p v vars ss (Recv k a y next) r h = h
  node_capped n p v vars ss (Branch k a arms) r h = h
  node_capped n p v vars ss (Catch k a g next) r h = h
  node_capped n p v vars ss (Set y e next) r h = h
  node_capped n p v vars ss (Show e next) r h = h
  node_capped n p v vars ss (Host y f a b next) r h = h
  node_capped n p v vars ss (If e c d) r h = h
  node_capped n p v vars ss (Join c q k next) r h = h
  node_capped n p v vars ss (Call f q ks) r h = h
  node_capped n p v vars ss End r h = h

  -- a step without a capacity is one under a capacity that its queue hasn't reached
  pub step_capped : (e : Endpoints) (hosts : Hosts) (n : NetworkState) → FindsRoom cap n.queues (sends_on x) → NetworkSteps e hosts None n x m → NetworkSteps e hosts cap n x m
  step_capped e hosts n r (begins c ps h) = begins c ps h
  step_capped e hosts n r (acts p v answers h) = acts p v answers (at_machine (slice_get n.machines p) h)
    where
      at_place : (vars : Variables) (o : Option Place) → place_makes None n p v vars o ≡ Some (Makes x m) → place_makes cap n p v vars o ≡ Some (Makes x m)
      at_place vars None i = absurd cc
      at_place vars (Some q) i = node_capped n p v vars q.sessions q.node r i

      at_machine : (o : Option Machine) → machine_makes e None n p v o ≡ Some (Makes x m) → machine_makes e cap n p v o ≡ Some (Makes x m)
      at_machine None i = absurd cc
      at_machine (Some w) i = at_place w.vars (place_of e w) i
