-- Each queue holds what was sent and not yet received, in order.
use Rattle.std.proofs.Common.{◌≡◌, ℕ, Bool, true, false, List, [], ◌∷◌, ◌++◌, refl, sym, ap, ◌∙◌, Option, Some, None, ℤ, subst, arith, if◌then◌else◌, append_assoc}
use Rattle.std.specs.Prelude.{slice_get}
use Rattle.std.proofs.lemmas.List.{append-nil}
use Rattle.std.proofs.lemmas.Bool.Decides.{nat_tests}
use Rattle.std.specs.FinMap as fin
use Rattle.chor_base.specs.declared.names.NameId.{NameId}
use Rattle.chor_base.specs.declared.value.Load.{Load}
use Rattle.chor_base.specs.declared.event.Event.{Event}
use Rattle.chor_base.specs.NameMap.{Variables}
use Rattle.chor_base.specs.Meaning.{Hosts}
use Rattle.chor_base.specs.Events.{Triple, triple_eq, load_on, sent_by, received_by, sent_on, received_on, IsFifo}
use Rattle.endpoint_code.specs.declared.code.CodeNode.{CodeNode}
use Rattle.endpoint_code.specs.declared.code.CodeNode.TheVariants.{Join, Send, Recv, Pick, Branch, Throw, Catch, Set, Show, Host, If, Call, End}
use Rattle.endpoint_code.specs.declared.endpoints.Channel.{Channel}
use Rattle.endpoint_code.specs.declared.endpoints.Endpoints.{Endpoints}
use Rattle.endpoint_code.specs.Network.{Machine, NetworkState, Place, Sessions, Makes, Taking, Goes, loads_for, with_loads, queue_of, moved, put_if, puts, has_room, takes, takes_from, went, node_makes, place_makes, machine_makes, makes, place_of, starts, channel_starts, channel_of, starts_with, begun, joiners, paired, NetworkSteps, acts, begins}
use Rattle.endpoint_code.specs.NetworkRuns.{NetworkLeads, IsNetworkRun}
use Rattle.endpoint_code.proofs.Queues.{loads-same, loads-other}

pub same_triple : (t u : Triple) → triple_eq t u ≡ true → t ≡ u
same_triple t u h =
    let a : t.0 ≡ u.0 = grind (arith, nat_tests) in
    let b : t.1.0 ≡ u.1.0 = grind (arith, nat_tests) in
    let c : t.2.0 ≡ u.2.0 = grind (arith, nat_tests) in
    λ i. (a i, record { 0 = b i }, record { 0 = c i })

turned : (t u : Triple) → triple_eq t u ≡ false → triple_eq u t ≡ false
turned t u h = grind (arith, nat_tests)

-- one load more
put_one : (qs : List (Triple × List Load)) (t u : Triple) (l : Load) → loads_for (with_loads qs u (loads_for qs u ++ l ∷ [])) t ≡ loads_for qs t ++ load_on t u l
put_one qs t u l = go (triple_eq t u) refl
  where
    go : (b : Bool) → triple_eq t u ≡ b → loads_for (with_loads qs u (loads_for qs u ++ l ∷ [])) t ≡ loads_for qs t ++ (if triple_eq t u then l ∷ [] else [])
    go true e =
        let is = same_triple t u e in
        rw e (subst (λ (w : Triple). loads_for (with_loads qs u (loads_for qs u ++ l ∷ [])) w ≡ loads_for qs w ++ l ∷ []) (sym is) (loads-same qs u (loads_for qs u ++ l ∷ [])))
    go false e = rw e (loads-other qs u t (loads_for qs u ++ l ∷ []) (turned t u e) ∙ sym (append-nil (loads_for qs t)))

-- without the first load
take_one : (qs : List (Triple × List Load)) (t u : Triple) (l : Load) (rest : List Load) → loads_for qs u ≡ l ∷ rest → load_on t u l ++ loads_for (with_loads qs u rest) t ≡ loads_for qs t
take_one qs t u l rest h = go (triple_eq t u) refl
  where
    go : (b : Bool) → triple_eq t u ≡ b → (if triple_eq t u then l ∷ [] else []) ++ loads_for (with_loads qs u rest) t ≡ loads_for qs t
    go true e =
        let is = same_triple t u e in
        rw e (subst (λ (w : Triple). l ∷ loads_for (with_loads qs u rest) w ≡ loads_for qs w) (sym is) (ap (λ r. l ∷ r) (loads-same qs u rest) ∙ sym h))
    go false e = rw e (loads-other qs u t rest (turned t u e))

-- what a step does to each queue
abbrev pub Keeps : NetworkState → Event → NetworkState → Triple → Type 0
Keeps n x m t = received_by t x ++ queue_of m t ≡ queue_of n t ++ sent_by t x

alone : (n m : NetworkState) (x : Event) (t : Triple) → m.queues ≡ n.queues → received_by t x ≡ [] → sent_by t x ≡ [] → Keeps n x m t
alone n m x t q r s =
    ap (λ w. w ++ queue_of m t) r ∙ ap (λ w. loads_for w t) q ∙ sym (append-nil (queue_of n t)) ∙ ap (λ w. queue_of n t ++ w) (sym s)

made_same : {x y : Event} {n m : NetworkState} → Makes x n ≡ Makes y m → (x ≡ y) × (n ≡ m)
made_same h = (cc, cc)

module _ (t : Triple) (x : Event) (m : NetworkState) where
  moved_on : (n : NetworkState) {n' : NetworkState} {y : Event} → Some (Makes y n') ≡ Some (Makes x m) → Keeps n y n' t → Keeps n x m t
  moved_on n {n'} {y} h k =
      let i : y ≡ x = cc in
      let j : n' ≡ m = cc in
      subst (λ (w : NetworkState). Keeps n x w t) j (subst (λ (w : Event). Keeps n w n' t) i k)

  -- a step that leaves the queues alone
  left_alone : (n : NetworkState) {n' : NetworkState} {y : Event} → Some (Makes y n') ≡ Some (Makes x m) → n'.queues ≡ n.queues → received_by t y ≡ [] → sent_by t y ≡ [] → Keeps n x m t
  left_alone n {n'} {y} h q r s = moved_on n h (alone n n' y t q r s)

  put_keeps : (cap : Option ℕ) (n : NetworkState) (p : ℕ) (b : NameId) (o : Option (ℕ × NameId)) (ol : Option Load) → puts cap n p b o ol ≡ Some (Makes x m) → Keeps n x m t
  put_keeps cap n p b None ol h = absurd cc
  put_keeps cap n p b (Some s) None h = absurd cc
  put_keeps cap n p b (Some (s, a)) (Some l) h = go (has_room cap (queue_of n (s, a, b))) h
    where
      go : (r : Bool) → put_if r n p (s, a, b) l ≡ Some (Makes x m) → Keeps n x m t
      go false i = absurd cc
      go true i = moved_on n i (put_one n.queues t (s, a, b) l)

  take_keeps : (n : NetworkState) (p : ℕ) (a : NameId) (o : Option (ℕ × NameId)) (f : Load → Option Taking) → takes n p a o f ≡ Some (Makes x m) → Keeps n x m t
  take_keeps n p a None f h = absurd cc
  take_keeps n p a (Some (s, b)) f h = at_queue (queue_of n (s, a, b)) refl h
    where
      at_load : (l : Load) (rest : List Load) → queue_of n (s, a, b) ≡ l ∷ rest → (o : Option Taking) → went n p (s, a, b) l rest o ≡ Some (Makes x m) → Keeps n x m t
      at_load l rest i None j = absurd cc
      at_load l rest i (Some (Goes next vars ss)) j = moved_on n j (take_one n.queues t (s, a, b) l rest i ∙ sym (append-nil (queue_of n t)))

      at_queue : (q : List Load) → queue_of n (s, a, b) ≡ q → takes_from n p (s, a, b) f q ≡ Some (Makes x m) → Keeps n x m t
      at_queue [] i j = absurd cc
      at_queue (l ∷ rest) i j = at_load l rest i (f l) j

  node_keeps : (cap : Option ℕ) (n : NetworkState) (p : ℕ) (v : ℤ) (vars : Variables) (ss : Sessions) (node : CodeNode) → node_makes cap n p v vars ss node ≡ Some (Makes x m) → Keeps n x m t
  node_keeps cap n p v vars ss (Send k b e next) h = put_keeps cap (moved n p next vars ss) p b _ _ h
  node_keeps cap n p v vars ss (Pick k b l next) h = put_keeps cap (moved n p next vars ss) p b _ _ h
  node_keeps cap n p v vars ss (Throw k b g next) h = put_keeps cap (moved n p next vars (fin.remove ss g.0)) p b _ _ h
  node_keeps cap n p v vars ss (Recv k a y next) h = take_keeps n p a _ _ h
  node_keeps cap n p v vars ss (Branch k a arms) h = take_keeps n p a _ _ h
  node_keeps cap n p v vars ss (Catch k a g next) h = take_keeps n p a _ _ h
  node_keeps cap n p v vars ss (Set y e next) h = left_alone n h refl refl refl
  node_keeps cap n p v vars ss (Show e next) h = left_alone n h refl refl refl
  node_keeps cap n p v vars ss (Host y f a b next) h = left_alone n h refl refl refl
  node_keeps cap n p v vars ss (If e c d) h = left_alone n h refl refl refl
  node_keeps cap n p v vars ss (Join c r k next) h = absurd cc
  node_keeps cap n p v vars ss (Call f q ks) h = absurd cc
  node_keeps cap n p v vars ss End h = absurd cc

  act_keeps : (e : Endpoints) (cap : Option ℕ) (n : NetworkState) (p : ℕ) (v : ℤ) → makes e cap n p v ≡ Some (Makes x m) → Keeps n x m t
  act_keeps e cap n p v h = at_machine (slice_get n.machines p) h
    where
      at_place : (vars : Variables) (o : Option Place) → place_makes cap n p v vars o ≡ Some (Makes x m) → Keeps n x m t
      at_place vars None i = absurd cc
      at_place vars (Some q) i = node_keeps cap n p v vars q.sessions q.node i

      at_machine : (o : Option Machine) → machine_makes e cap n p v o ≡ Some (Makes x m) → Keeps n x m t
      at_machine None i = absurd cc
      at_machine (Some w) i = at_place w.vars (place_of e w) i

  start_keeps : (e : Endpoints) (n : NetworkState) (c : NameId) (ps : List ℕ) → starts e n c ps ≡ Some (Makes x m) → Keeps n x m t
  start_keeps e n c ps h = at_channel (channel_of e.channels c) h
    where
      at_joiners : (k : Channel) (qs : List (NameId × ℕ)) (o : Option (List (ℕ × Machine))) → begun e n c k qs o ≡ Some (Makes x m) → Keeps n x m t
      at_joiners k qs None i = absurd cc
      at_joiners k qs (Some ms) i = left_alone n i refl refl refl

      at_pairs : (k : Channel) (o : Option (List (NameId × ℕ))) → starts_with e n c k o ≡ Some (Makes x m) → Keeps n x m t
      at_pairs k None i = absurd cc
      at_pairs k (Some []) i = absurd cc
      at_pairs k (Some (q ∷ qs)) i = at_joiners k (q ∷ qs) (joiners e n c n.sid (q ∷ qs)) i

      at_channel : (o : Option Channel) → channel_starts e n c ps o ≡ Some (Makes x m) → Keeps n x m t
      at_channel None i = absurd cc
      at_channel (Some k) i = at_pairs k (paired k.active ps) i

pub step_keeps : (e : Endpoints) (hosts : Hosts) (cap : Option ℕ) (n : NetworkState) (x : Event) (m : NetworkState) (t : Triple) → NetworkSteps e hosts cap n x m → Keeps n x m t
step_keeps e hosts cap n x m t (acts p v a h) = act_keeps t x m e cap n p v h
step_keeps e hosts cap n x m t (begins c ps h) = start_keeps t x m e n c ps h

-- what a run does to each queue
pub leads_keep : (e : Endpoints) (hosts : Hosts) (cap : Option ℕ) (t : Triple) (h : List Event) (n m : NetworkState) → NetworkLeads e hosts cap n h m → received_on t h ++ queue_of m t ≡ queue_of n t ++ sent_on t h
leads_keep e hosts cap t [] n m l = ap (λ w. queue_of w t) (sym l) ∙ sym (append-nil (queue_of n t))
leads_keep e hosts cap t (x ∷ xs) n m l =
    let one : received_by t x ++ queue_of l.0 t ≡ queue_of n t ++ sent_by t x = step_keeps e hosts cap n x l.0 t l.1 in
    let rest : received_on t xs ++ queue_of m t ≡ queue_of l.0 t ++ sent_on t xs = leads_keep e hosts cap t xs l.0 m l.2 in
    append_assoc (received_by t x) (received_on t xs) (queue_of m t)
    ∙ ap (λ w. received_by t x ++ w) rest
    ∙ sym (append_assoc (received_by t x) (queue_of l.0 t) (sent_on t xs))
    ∙ ap (λ w. w ++ sent_on t xs) one
    ∙ append_assoc (queue_of n t) (sent_by t x) (sent_on t xs)

-- In each run of a network messages are received first in, first out
pub network_fifo : (e : Endpoints) (hosts : Hosts) (cap : Option ℕ) (h : List Event) (last : NetworkState) → IsNetworkRun e hosts cap h last → IsFifo h
network_fifo e hosts cap h last run t = (queue_of last t, sym (leads_keep e hosts cap t h _ last run))
