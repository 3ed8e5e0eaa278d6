-- The effect of a step, in any state in which the machines of its processes are the same.
use Rattle.std.proofs.Common.{◌≡◌, ℕ, suc, ◌<◌, ◌≤◌, ◌+◌, Bool, true, false, ◌==◌, ◌||◌, List, [], ◌∷◌, ◌++◌, length, map, refl, sym, ap, ◌∙◌, subst, Option, Some, None, ℤ, arith, append-nil, length-append}
use Rattle.std.specs.Prelude.{slice_get, slice_set}
use Rattle.std.specs.FinMap as fin
use Rattle.std.proofs.lemmas.Bool.{eqb-false, or_right, or_left, eq-eqb}
use Rattle.std.proofs.lemmas.Option.{slice_get_within}
use Rattle.std.proofs.lemmas.List.{map-append}
use Rattle.chor_base.specs.declared.names.NameId.{NameId}
use Rattle.chor_base.specs.declared.event.Event.{Event}
use Rattle.chor_base.specs.declared.event.Event.TheVariants as event
use Rattle.chor_base.specs.Meaning.{Hosts}
use Rattle.chor_base.specs.Events.{Triple}
use Rattle.endpoint_code.specs.declared.endpoints.Channel.{Channel}
use Rattle.endpoint_code.specs.declared.endpoints.Endpoints.{Endpoints}
use Rattle.endpoint_code.specs.Network.{Machine, NetworkState, Place, Makes, queue_of, place_of, place_makes, machine_makes, makes, joins, one_joiner, joiners, with_machines, served, served_parts, channel_of, begun, paired, starts_with, channel_starts, starts, MachineAnswers, NetworkSteps, acts, begins}
use Rattle.endpoint_code.proofs.Begun.{Begun, begun_as}
use Rattle.event_orders.specs.EventKinds.{EventKind, Sends, Receives, Starts, has_kind, one_if, is_in, participates}
use Rattle.event_orders.specs.Holders.{IsRoleHolder}
use Rattle.event_orders.proofs.Machines.{with_length}
use Rattle.event_orders.proofs.Actions.{Action, performs, performs_if, action_at, node_same, node_uses, node_plain}
use Rattle.event_orders.proofs.Effects.{changed, Fits, role_of, Effect, EffectElsewhere, effect}

-- the places are those of processes that participate in the event
abbrev pub AreParts : ℕ → Event → List (ℕ × Machine) → Type 0
AreParts l x [] = Unit {0}
AreParts l x (j ∷ js) = (j.0 < l) × (participates j.0 x ≡ true) × AreParts l x js

-- in another state the machines of the event's processes are the same, and a start draws the same numbers
pub record IsReady (n n' : NetworkState) (x : Event) : Type 0 where
  pub same : (q : ℕ) → participates q x ≡ true → q < length n.machines → slice_get n'.machines q ≡ slice_get n.machines q
  pub sid : has_kind Starts x ≡ true → n'.sid ≡ n.sid
  pub count : has_kind Starts x ≡ true → length n'.machines ≡ length n.machines

pub record StepElsewhere (e : Endpoints) (hosts : Hosts) (cap : Option ℕ) (n : NetworkState) (x : Event) (put : List (ℕ × Machine)) (new : List Machine) : Type 0 where
  pub state : NetworkState
  pub steps : NetworkSteps e hosts cap n x state
  pub machines : state.machines ≡ with_machines n.machines put ++ new
  pub queues : (u : Triple) → queue_of state u ≡ changed x u (queue_of n u)
  pub sid : state.sid ≡ n.sid + one_if (has_kind Starts x)

pub record StepEffect (e : Endpoints) (hosts : Hosts) (cap : Option ℕ) (n : NetworkState) (x : Event) (m : NetworkState) : Type 0 where
  pub put : List (ℕ × Machine)
  pub new : List Machine
  pub machines : m.machines ≡ with_machines n.machines put ++ new
  pub queues : (u : Triple) → queue_of m u ≡ changed x u (queue_of n u)
  pub sid : m.sid ≡ n.sid + one_if (has_kind Starts x)
  pub parts : AreParts (length n.machines) x put
  pub added : has_kind Starts x ≡ false → new ≡ []
  pub fresh : (q : ℕ) → length n.machines ≤ q → q < length m.machines → participates q x ≡ true
  pub numbered : has_kind Starts x ≡ true → (c : NameId) × (ps : List (NameId × ℕ)) × (x ≡ event.Start c n.sid ps)
  pub someone : (p : ℕ) × (participates p x ≡ true)
  pub fits : Fits cap n x
  pub user : (kind : EventKind) (part : ℕ × NameId) → role_of kind ≡ Some part → has_kind kind x ≡ true → (p : ℕ) × (participates p x ≡ true) × IsRoleHolder e n p part
  pub elsewhere : (n' : NetworkState) → IsReady n n' x → Fits cap n' x → StepElsewhere e hosts cap n' x put new

-- ---- one process

module _ (e : Endpoints) (hosts : Hosts) (cap : Option ℕ) (n : NetworkState) (x : Event) (m : NetworkState) where
  acted_performs : (k : NetworkState) (p : ℕ) (v : ℤ) (w : Machine) (q : Place) (d : Action) → slice_get k.machines p ≡ Some w → place_of e w ≡ Some q → action_at p v w.vars q.sessions q.node ≡ Some d → makes e cap k p v ≡ performs cap k p d
  acted_performs k p v w q d there stands is =
      ap (machine_makes e cap k p v) there ∙ ap (place_makes cap k p v w.vars) stands ∙ node_same cap k p v w.vars q.sessions q.node ∙ ap (performs_if cap k p) is

  acted : (p : ℕ) (v : ℤ) → MachineAnswers hosts e (slice_get n.machines p) v → (w : Machine) (q : Place) (d : Action) → slice_get n.machines p ≡ Some w → place_of e w ≡ Some q → action_at p v w.vars q.sessions q.node ≡ Some d
      → performs cap n p d ≡ Some (Makes x m) → StepEffect e hosts cap n x m
  acted p v answers w q d there stands is h = record {
    put = (p, by.machine) ∷ [];
    new = [];
    machines = by.machines ∙ sym (append-nil (slice_set n.machines p by.machine));
    queues = by.queues;
    sid = by.sid ∙ one_more n.sid;
    parts = (within, by.own, tt);
    added = λ i. refl;
    fresh = λ r old new. absurd (let same : length m.machines ≡ length n.machines = ap length by.machines ∙ with_length n.machines ((p, by.machine) ∷ []) in omega arith);
    numbered = λ i. (let f : true ≡ false = sym i ∙ by.no_start in absurd cc);
    someone = (p, by.own);
    fits = by.fits;
    user = λ kind part role i.
        let u : (k : ℕ) × (fin.get q.sessions k ≡ role_of kind) = by.uses q.sessions (node_uses p v w.vars q.sessions q.node d is) kind i in
        (p, by.own, record { machine = w; there = there; place = q; at_place = stands; name = u.0; bound = u.1 ∙ role });
    elsewhere = λ n' ready fits.
        let same : slice_get n'.machines p ≡ slice_get n.machines p = ready.same p by.own within in
        let a : EffectElsewhere cap n' p d x by.machine = by.elsewhere n' fits in
        record {
          state = a.state;
          steps = acts p v (subst (λ (o : Option Machine). MachineAnswers hosts e o v) (sym same) answers) (acted_performs n' p v w q d (same ∙ there) stands is ∙ a.is);
          machines = a.machines ∙ sym (append-nil (slice_set n'.machines p by.machine));
          queues = a.queues;
          sid = a.sid ∙ one_more n'.sid;
        };
  }
    where
      by : Effect cap n p d x m
      by = effect cap n p d (node_plain p v w.vars q.sessions q.node d is) x m h

      within : p < length n.machines
      within = slice_get_within n.machines p w there

      one_more : (s : ℕ) → s ≡ s + one_if (has_kind Starts x)
      one_more s = rw by.no_start (omega arith)

  pub act_effect : (p : ℕ) (v : ℤ) → MachineAnswers hosts e (slice_get n.machines p) v → makes e cap n p v ≡ Some (Makes x m) → StepEffect e hosts cap n x m
  act_effect p v answers h = at_machine (slice_get n.machines p) refl h
    where
      at_action : (w : Machine) → slice_get n.machines p ≡ Some w → (q : Place) → place_of e w ≡ Some q → (o : Option Action) → action_at p v w.vars q.sessions q.node ≡ o → performs_if cap n p o ≡ Some (Makes x m) → StepEffect e hosts cap n x m
      at_action w i q j None k g = absurd cc
      at_action w i q j (Some d) k g = acted p v answers w q d i j k g

      at_place : (w : Machine) → slice_get n.machines p ≡ Some w → (o : Option Place) → place_of e w ≡ o → place_makes cap n p v w.vars o ≡ Some (Makes x m) → StepEffect e hosts cap n x m
      at_place w i None j g = absurd cc
      at_place w i (Some q) j g = at_action w i q j (action_at p v w.vars q.sessions q.node) refl (sym (node_same cap n p v w.vars q.sessions q.node) ∙ g)

      at_machine : (o : Option Machine) → slice_get n.machines p ≡ o → machine_makes e cap n p v o ≡ Some (Makes x m) → StepEffect e hosts cap n x m
      at_machine None i g = absurd cc
      at_machine (Some w) i g = at_place w i (place_of e w) refl g

-- ---- a start

abbrev places : List (NameId × ℕ) → List ℕ
places ps = map (λ (q : NameId × ℕ). q.1) ps

in_front : (q : ℕ) (ps rest : List ℕ) → is_in q ps ≡ true → is_in q (ps ++ rest) ≡ true
in_front q [] rest h = absurd cc
in_front q (p ∷ ps) rest h = go (q == p) refl h (in_front q ps rest)
  where
    go : (b : Bool) → (q == p) ≡ b → (b || is_in q ps) ≡ true → (is_in q ps ≡ true → is_in q (ps ++ rest) ≡ true) → (b || is_in q (ps ++ rest)) ≡ true
    go true i j more = refl
    go false i j more = more j

in_back : (q : ℕ) (ps rest : List ℕ) → is_in q rest ≡ true → is_in q (ps ++ rest) ≡ true
in_back q [] rest h = h
in_back q (p ∷ ps) rest h = or_right (q == p) (is_in q (ps ++ rest)) (in_back q ps rest h)

part_of : (q s : ℕ) (d : NameId) (ps rest : List (NameId × ℕ)) → is_in q (places ps) ≡ true → participates q (event.Start d s (ps ++ rest)) ≡ true
part_of q s d ps rest h = rw map-append (in_front q (places ps) (places rest) h)

part_behind : (q s : ℕ) (d : NameId) (ps rest : List (NameId × ℕ)) → is_in q (places rest) ≡ true → participates q (event.Start d s (ps ++ rest)) ≡ true
part_behind q s d ps rest h = rw map-append (in_back q (places ps) (places rest) h)

-- the processes that join are there, and each participates
module _ (e : Endpoints) (n : NetworkState) (c : NameId) (s : ℕ) where
  joins_there : (o : Option Machine) (r : NameId) (w : Machine) → joins e o c r s ≡ Some w → (v : Machine) × (o ≡ Some v)
  joins_there None r w h = absurd cc
  joins_there (Some v) r w h = (v, refl)

  joined_within : (r : NameId × ℕ) (w : Machine) → joins e (slice_get n.machines r.1) c r.0 s ≡ Some w → r.1 < length n.machines
  joined_within r w h = let t = joins_there (slice_get n.machines r.1) r.0 w h in slice_get_within n.machines r.1 t.0 t.1

  joined_parts : (x : Event) (ps : List (NameId × ℕ)) (ms : List (ℕ × Machine)) → joiners e n c s ps ≡ Some ms → ((q : ℕ) → is_in q (places ps) ≡ true → participates q x ≡ true) → AreParts (length n.machines) x ms
  joined_parts x [] ms h all = let is : [] ≡ ms = cc in subst (AreParts (length n.machines) x) is tt
  joined_parts x (r ∷ ps) ms h all = go (joins e (slice_get n.machines r.1) c r.0 s) refl (joiners e n c s ps) refl h (λ ks i. joined_parts x ps ks i (λ q j. all q (or_right (q == r.1) (is_in q (places ps)) j)))
    where
      go : (o : Option Machine) → joins e (slice_get n.machines r.1) c r.0 s ≡ o → (u : Option (List (ℕ × Machine))) → joiners e n c s ps ≡ u → one_joiner r.1 o u ≡ Some ms
          → ((ks : List (ℕ × Machine)) → joiners e n c s ps ≡ Some ks → AreParts (length n.machines) x ks) → AreParts (length n.machines) x ms
      go None i u j k more = absurd cc
      go (Some w) i None j k more = absurd cc
      go (Some w) i (Some ks) j k more =
          let is : (r.1, w) ∷ ks ≡ ms = cc in
          subst (AreParts (length n.machines) x) is (joined_within r w i, all r.1 (or_left (r.1 == r.1) (is_in r.1 (places ps)) (eq-eqb r.1 r.1 refl)), more ks j)

  -- they join in each state in which their machines are the same
  joined_elsewhere : (n' : NetworkState) (ps : List (NameId × ℕ)) (ms : List (ℕ × Machine)) → joiners e n c s ps ≡ Some ms
      → ((q : ℕ) → is_in q (places ps) ≡ true → q < length n.machines → slice_get n'.machines q ≡ slice_get n.machines q) → joiners e n' c s ps ≡ Some ms
  joined_elsewhere n' [] ms h same = h
  joined_elsewhere n' (r ∷ ps) ms h same = go (joins e (slice_get n.machines r.1) c r.0 s) refl (joiners e n c s ps) refl h (λ ks i. joined_elsewhere n' ps ks i (λ q j lt. same q (or_right (q == r.1) (is_in q (places ps)) j) lt))
    where
      go : (o : Option Machine) → joins e (slice_get n.machines r.1) c r.0 s ≡ o → (u : Option (List (ℕ × Machine))) → joiners e n c s ps ≡ u → one_joiner r.1 o u ≡ Some ms
          → ((ks : List (ℕ × Machine)) → joiners e n c s ps ≡ Some ks → joiners e n' c s ps ≡ Some ks) → one_joiner r.1 (joins e (slice_get n'.machines r.1) c r.0 s) (joiners e n' c s ps) ≡ Some ms
      go None i u j k more = absurd cc
      go (Some w) i None j k more = absurd cc
      go (Some w) i (Some ks) j k more =
          let there : slice_get n'.machines r.1 ≡ slice_get n.machines r.1 = same r.1 (or_left (r.1 == r.1) (is_in r.1 (places ps)) (eq-eqb r.1 r.1 refl)) (joined_within r w i) in
          ap (λ (o : Option Machine). one_joiner r.1 (joins e o c r.0 s) (joiners e n' c s ps)) there
          ∙ ap (λ (o : Option Machine). one_joiner r.1 o (joiners e n' c s ps)) i
          ∙ ap (one_joiner r.1 (Some w)) (more ks j)
          ∙ k

served_length : (e : Endpoints) (c : NameId) (s : ℕ) (rs : List NameId) → length (served e c s rs) ≡ length rs
served_length e c s [] = refl
served_length e c s (r ∷ rs) = ap suc (served_length e c s rs)

served_in : (q : ℕ) (rs : List NameId) (p : ℕ) → p ≤ q → q < p + length rs → is_in q (places (served_parts rs p)) ≡ true
served_in q [] p low high = absurd (omega arith)
served_in q (r ∷ rs) p low high = go (q == p) refl (λ l. served_in q rs (suc p) l (omega arith))
  where
    go : (b : Bool) → (q == p) ≡ b → (suc p ≤ q → is_in q (places (served_parts rs (suc p))) ≡ true) → (b || is_in q (places (served_parts rs (suc p)))) ≡ true
    go true i more = refl
    go false i more = more (let other = eqb-false q p i in omega (arith, other))

module _ (e : Endpoints) (hosts : Hosts) (cap : Option ℕ) (n : NetworkState) where
  module _ (c : NameId) (ps : List ℕ) (k : Channel) (q : NameId × ℕ) (qs : List (NameId × ℕ)) (ms : List (ℕ × Machine)) (found : channel_of e.channels c ≡ Some k) (pairs : paired k.active ps ≡ Some (q ∷ qs)) (joined : joiners e n c n.sid (q ∷ qs) ≡ Some ms) where
    abbrev begins_as : NetworkState → Event
    begins_as n' = event.Start c n'.sid ((q ∷ qs) ++ served_parts k.serve (length n'.machines))

    abbrev comes_to : NetworkState → NetworkState
    comes_to n' = record n' { machines = with_machines n'.machines ms ++ served e c n'.sid k.serve; sid = suc n'.sid }

    made : (n' : NetworkState) → joiners e n' c n'.sid (q ∷ qs) ≡ Some ms → starts e n' c ps ≡ Some (Makes (begins_as n') (comes_to n'))
    made n' j = ap (channel_starts e n' c ps) found ∙ ap (starts_with e n' c k) pairs ∙ ap (begun e n' c k (q ∷ qs)) j

    is_part : (r : ℕ) → is_in r (places (q ∷ qs)) ≡ true → participates r (begins_as n) ≡ true
    is_part r h = part_of r n.sid c (q ∷ qs) (served_parts k.serve (length n.machines)) h

    is_fresh : (r : ℕ) → length n.machines ≤ r → r < length (with_machines n.machines ms ++ served e c n.sid k.serve) → participates r (begins_as n) ≡ true
    is_fresh r old new =
        let len : length (with_machines n.machines ms ++ served e c n.sid k.serve) ≡ length n.machines + length k.serve = omega (arith, length-append (with_machines n.machines ms) (served e c n.sid k.serve), with_length n.machines ms, served_length e c n.sid k.serve) in
        part_behind r n.sid c (q ∷ qs) (served_parts k.serve (length n.machines)) (served_in r k.serve (length n.machines) old (omega arith))

    user_of : (kind : EventKind) (part : ℕ × NameId) → role_of kind ≡ Some part → has_kind kind (begins_as n) ≡ true → (p : ℕ) × (participates p (begins_as n) ≡ true) × IsRoleHolder e n p part
    user_of (Sends t) part role i = absurd cc
    user_of (Receives t) part role i = absurd cc
    user_of Starts part role i = absurd cc

    start_elsewhere : (n' : NetworkState) → IsReady n n' (begins_as n) → StepElsewhere e hosts cap n' (begins_as n) ms (served e c n.sid k.serve)
    start_elsewhere n' ready =
        let sid : n'.sid ≡ n.sid = ready.sid refl in
        let count : length n'.machines ≡ length n.machines = ready.count refl in
        let j : joiners e n' c n.sid (q ∷ qs) ≡ Some ms = joined_elsewhere e n c n.sid n' (q ∷ qs) ms joined (λ r i lt. ready.same r (is_part r i) lt) in
        let j' : joiners e n' c n'.sid (q ∷ qs) ≡ Some ms = subst (λ (z : ℕ). joiners e n' c z (q ∷ qs) ≡ Some ms) (sym sid) j in
        let event_same : begins_as n' ≡ begins_as n = ap (λ (z : ℕ). event.Start c z ((q ∷ qs) ++ served_parts k.serve (length n'.machines))) sid ∙ ap (λ (z : ℕ). event.Start c n.sid ((q ∷ qs) ++ served_parts k.serve z)) count in
        record {
          state = comes_to n';
          steps = begins c ps (made n' j' ∙ ap (λ (z : Event). Some (Makes z (comes_to n'))) event_same);
          machines = ap (λ (z : ℕ). with_machines n'.machines ms ++ served e c z k.serve) sid;
          queues = λ u. refl;
          sid = omega arith;
        }

    start_as : StepEffect e hosts cap n (begins_as n) (comes_to n)
    start_as = record {
      put = ms;
      new = served e c n.sid k.serve;
      machines = refl;
      queues = λ u. refl;
      sid = omega arith;
      parts = joined_parts e n c n.sid (begins_as n) (q ∷ qs) ms joined is_part;
      added = λ i. absurd cc;
      fresh = is_fresh;
      numbered = λ i. (c, (q ∷ qs) ++ served_parts k.serve (length n.machines), refl);
      someone = (q.1, is_part q.1 (or_left (q.1 == q.1) (is_in q.1 (places qs)) (eq-eqb q.1 q.1 refl)));
      fits = tt;
      user = user_of;
      elsewhere = λ n' ready fits. start_elsewhere n' ready;
    }

  pub start_effect : (c : NameId) (ps : List ℕ) (x : Event) (m : NetworkState) → starts e n c ps ≡ Some (Makes x m) → StepEffect e hosts cap n x m
  start_effect c ps x m h = go b.parts b.pairs b.joins b.event_is b.state_is
    where
      b : Begun e n c ps x m
      b = begun_as e n c ps x m h

      go : (parts : List (NameId × ℕ)) → paired b.channel.active ps ≡ Some parts → joiners e n c n.sid parts ≡ Some b.joined → x ≡ event.Start c n.sid (parts ++ served_parts b.channel.serve (length n.machines))
          → m ≡ record n { machines = with_machines n.machines b.joined ++ served e c n.sid b.channel.serve; sid = suc n.sid } → StepEffect e hosts cap n x m
      go [] pairs joins event_is state_is = (let none : Some (Makes x m) ≡ None = sym h ∙ ap (channel_starts e n c ps) b.found ∙ ap (starts_with e n c b.channel) pairs in absurd cc)
      go (q ∷ qs) pairs joins event_is state_is =
          subst (λ (z : NetworkState). StepEffect e hosts cap n x z) (sym state_is)
          (subst (λ (z : Event). StepEffect e hosts cap n z (comes_to c ps b.channel q qs b.joined b.found pairs joins n)) (sym event_is) (start_as c ps b.channel q qs b.joined b.found pairs joins))

pub step_effect : (e : Endpoints) (hosts : Hosts) (cap : Option ℕ) (n : NetworkState) (x : Event) (m : NetworkState) → NetworkSteps e hosts cap n x m → StepEffect e hosts cap n x m
step_effect e hosts cap n x m (acts p v a h) = act_effect e hosts cap n x m p v a h
step_effect e hosts cap n x m (begins c ps h) = start_effect e hosts cap n c ps x m h
