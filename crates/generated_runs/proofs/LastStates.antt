-- The counts of a network's run are those of the state after it.
use Rattle.std.proofs.Common.{◌≡◌, ℕ, ℤ, zero, suc, ◌+◌, ◌<◌, ◌≤◌, Bool, true, false, List, [], ◌∷◌, ◌++◌, length, max, Option, Some, None, refl, sym, ap, ◌∙◌, subst, arith, length-set, length-append}
use Rattle.std.specs.Prelude.{slice_get, slice_set}
use Rattle.std.specs.FinMap as fin
use Rattle.std.proofs.lemmas.Option.{slice_get_within}
use Rattle.chor_base.specs.declared.names.NameId.{NameId}
use Rattle.chor_base.specs.declared.value.Load.{Load}
use Rattle.chor_base.specs.declared.value.Load.TheVariants.{Value as Carries, Label as Picks}
use Rattle.chor_base.specs.declared.event.Event.{Event}
use Rattle.chor_base.specs.declared.event.Event.TheVariants as event
use Rattle.chor_base.specs.Events.{Triple}
use Rattle.chor_base.specs.Expr.{term_of, value_of}
use Rattle.chor_base.specs.Meaning.{Hosts}
use Rattle.chor_base.specs.NameMap.{Variables}
use Rattle.endpoint_code.specs.declared.code.CodeNode.{CodeNode}
use Rattle.endpoint_code.specs.declared.code.CodeNode.TheVariants.{Join, Send, Recv, Pick, Branch, Throw, Catch, Set, Show, Host, If, Call, End}
use Rattle.endpoint_code.specs.declared.endpoints.Channel.{Channel}
use Rattle.endpoint_code.specs.declared.endpoints.Endpoints.{Endpoints}
use Rattle.endpoint_code.specs.Network.{Sessions, Machine, NetworkState, Place, Made, Makes, Taking, Goes, queue_of, has_room, put_if, puts, part_load, takes_value, takes_label, takes_part, went, takes_from, takes, moved, channel_of, joins, one_joiner, joiners, with_machines, served, begun, paired, served_parts, starts_with, channel_starts, starts, place_of, node_makes, place_makes, machine_makes, NetworkSteps, acts, begins}
use Rattle.endpoint_code.specs.NetworkRuns.{NetworkLeads}
use Rattle.generated_runs.specs.Counts.{grown, sessions_in, processes_after}

-- what an event adds is what the state has more
record Counts (n : NetworkState) (x : Event) (m : NetworkState) : Type 0 where
  sessions : m.sid ≡ n.sid + sessions_in (x ∷ [])
  processes : length m.machines ≡ processes_after (length n.machines) (x ∷ [])

-- ---- what one process makes

module _ (n : NetworkState) (x : Event) (m : NetworkState) where
  made_counts : (y : Event) (k : NetworkState) → Some (Makes y k) ≡ Some (Makes x m) → Counts n y k → Counts n x m
  made_counts y k h w =
      let same : y ≡ x = cc in
      let here : k ≡ m = cc in
      subst (λ (z : Event). Counts n z m) same (subst (Counts n y) here w)

  put_counts : (b : Bool) (k : NetworkState) (p : ℕ) (t : Triple) (l : Load) → k.sid ≡ n.sid → length k.machines ≡ length n.machines → put_if b k p t l ≡ Some (Makes x m) → Counts n x m
  put_counts true k p t l sid long h = made_counts _ _ h (record { sessions = omega arith; processes = long })
  put_counts false k p t l sid long h = absurd cc

  puts_counts : (capacity : Option ℕ) (k : NetworkState) (p : ℕ) (b : NameId) (o : Option (ℕ × NameId)) (l : Option Load) → k.sid ≡ n.sid → length k.machines ≡ length n.machines → puts capacity k p b o l ≡ Some (Makes x m) → Counts n x m
  puts_counts capacity k p b (Some (s, a)) (Some l) sid long h = put_counts (has_room capacity (queue_of k (s, a, b))) k p (s, a, b) l sid long h
  puts_counts capacity k p b (Some y) None sid long h = absurd cc
  puts_counts capacity k p b None l sid long h = absurd cc

  takes_counts : (p : ℕ) (a : NameId) (o : Option (ℕ × NameId)) (f : Load → Option Taking) → takes n p a o f ≡ Some (Makes x m) → Counts n x m
  takes_counts p a None f h = absurd cc
  takes_counts p a (Some (s, b)) f h = go (queue_of n (s, a, b)) h
    where
      taken : (l : Load) (rest : List Load) (o : Option Taking) → went n p (s, a, b) l rest o ≡ Some (Makes x m) → Counts n x m
      taken l rest None j = absurd cc
      taken l rest (Some (Goes next vars k)) j = made_counts _ _ j (record { sessions = omega arith; processes = length-set n.machines p (record { at = next; vars = vars; sessions = k }) })

      go : (q : List Load) → takes_from n p (s, a, b) f q ≡ Some (Makes x m) → Counts n x m
      go [] j = absurd cc
      go (l ∷ rest) j = taken l rest (f l) j

  node_counts : (capacity : Option ℕ) (p : ℕ) (v : ℤ) (vars : Variables) (ss : Sessions) (node : CodeNode) → node_makes capacity n p v vars ss node ≡ Some (Makes x m) → Counts n x m
  node_counts capacity p v vars ss (Send k b g next) h = puts_counts capacity (moved n p next vars ss) p b (fin.get ss k.0) (Some (Carries (value_of (term_of g) vars))) refl (length-set n.machines p _) h
  node_counts capacity p v vars ss (Pick k b l next) h = puts_counts capacity (moved n p next vars ss) p b (fin.get ss k.0) (Some (Picks l)) refl (length-set n.machines p _) h
  node_counts capacity p v vars ss (Throw k b g next) h = puts_counts capacity (moved n p next vars (fin.remove ss g.0)) p b (fin.get ss k.0) (part_load (fin.get ss g.0)) refl (length-set n.machines p _) h
  node_counts capacity p v vars ss (Recv k a y next) h = takes_counts p a (fin.get ss k.0) (takes_value next vars ss y) h
  node_counts capacity p v vars ss (Branch k a arms) h = takes_counts p a (fin.get ss k.0) (takes_label arms vars ss) h
  node_counts capacity p v vars ss (Catch k a g next) h = takes_counts p a (fin.get ss k.0) (takes_part next vars ss g) h
  node_counts capacity p v vars ss (Set y g next) h = made_counts _ _ h (record { sessions = omega arith; processes = length-set n.machines p _ })
  node_counts capacity p v vars ss (Show g next) h = made_counts _ _ h (record { sessions = omega arith; processes = length-set n.machines p _ })
  node_counts capacity p v vars ss (Host y f g t next) h = made_counts _ _ h (record { sessions = omega arith; processes = length-set n.machines p _ })
  node_counts capacity p v vars ss (If g c d) h = made_counts _ _ h (record { sessions = omega arith; processes = length-set n.machines p _ })
  node_counts capacity p v vars ss (Join c r k next) h = absurd cc
  node_counts capacity p v vars ss (Call f q ks) h = absurd cc
  node_counts capacity p v vars ss End h = absurd cc

  machine_counts : (e : Endpoints) (capacity : Option ℕ) (p : ℕ) (v : ℤ) (o : Option Machine) → machine_makes e capacity n p v o ≡ Some (Makes x m) → Counts n x m
  machine_counts e capacity p v None h = absurd cc
  machine_counts e capacity p v (Some k) h = go (place_of e k) h
    where
      go : (o : Option Place) → place_makes capacity n p v k.vars o ≡ Some (Makes x m) → Counts n x m
      go None j = absurd cc
      go (Some q) j = node_counts capacity p v k.vars q.sessions q.node j

-- ---- a start

length-with_machines : (ms : List Machine) (js : List (ℕ × Machine)) → length (with_machines ms js) ≡ length ms
length-with_machines ms [] = refl
length-with_machines ms (j ∷ js) = length-with_machines (slice_set ms j.0 j.1) js ∙ length-set ms j.0 j.1

length-served : (e : Endpoints) (c : NameId) (s : ℕ) (rs : List NameId) → length (served e c s rs) ≡ length rs
length-served e c s [] = refl
length-served e c s (r ∷ rs) = ap suc (length-served e c s rs)

-- the processes that join are there
joined_there : (e : Endpoints) (n : NetworkState) (c : NameId) (s : ℕ) (qs : List (NameId × ℕ)) (js : List (ℕ × Machine)) → joiners e n c s qs ≡ Some js → grown (length n.machines) qs ≡ length n.machines
joined_there e n c s [] js h = refl
joined_there e n c s (q ∷ qs) js h = at_place (λ ks i. joined_there e n c s qs ks i) (slice_get n.machines q.1) refl h
  where
    rest : (o : Option (List (ℕ × Machine))) → joiners e n c s qs ≡ o → (p : ℕ) (k : Machine) → one_joiner p (Some k) o ≡ Some js → (ks : List (ℕ × Machine)) × (joiners e n c s qs ≡ Some ks)
    rest None is p k g = absurd cc
    rest (Some ks) is p k g = (ks, is)

    at_joiner : ((ks : List (ℕ × Machine)) → joiners e n c s qs ≡ Some ks → grown (length n.machines) qs ≡ length n.machines) → (k : Machine) → slice_get n.machines q.1 ≡ Some k → (o : Option Machine) → one_joiner q.1 o (joiners e n c s qs) ≡ Some js → grown (length n.machines) (q ∷ qs) ≡ length n.machines
    at_joiner again k there None g = absurd cc
    at_joiner again k there (Some j) g =
        let more = rest (joiners e n c s qs) refl q.1 j g in
        let inside : q.1 < length n.machines = slice_get_within n.machines q.1 k there in
        let stays : max (length n.machines) (suc q.1) ≡ length n.machines = omega arith in
        ap (λ k. grown k qs) stays ∙ again more.0 more.1

    at_place : ((ks : List (ℕ × Machine)) → joiners e n c s qs ≡ Some ks → grown (length n.machines) qs ≡ length n.machines) → (o : Option Machine) → slice_get n.machines q.1 ≡ o → one_joiner q.1 (joins e o c q.0 s) (joiners e n c s qs) ≡ Some js → grown (length n.machines) (q ∷ qs) ≡ length n.machines
    at_place again None there g = absurd cc
    at_place again (Some k) there g = at_joiner again k there (joins e (Some k) c q.0 s) g

grown_both : (k : ℕ) (ps qs : List (NameId × ℕ)) → grown k (ps ++ qs) ≡ grown (grown k ps) qs
grown_both k [] qs = refl
grown_both k (p ∷ ps) qs = grown_both (max k (suc p.1)) ps qs

-- each new process is one more
grown_served : (rs : List NameId) (k : ℕ) → grown k (served_parts rs k) ≡ k + length rs
grown_served [] k = omega arith
grown_served (r ∷ rs) k =
    let next : max k (suc k) ≡ suc k = omega arith in
    let more = grown_served rs (suc k) in
    ap (λ j. grown j (served_parts rs (suc k))) next ∙ more ∙ (let w : suc k + length rs ≡ k + suc (length rs) = omega arith in w)

start_counts : (e : Endpoints) (n : NetworkState) (c : NameId) (ps : List ℕ) (x : Event) (m : NetworkState) → starts e n c ps ≡ Some (Makes x m) → Counts n x m
start_counts e n c ps x m h = at_channel (channel_of e.channels c) h
  where
    at_joiners : (k : Channel) (qs : List (NameId × ℕ)) (o : Option (List (ℕ × Machine))) → joiners e n c n.sid qs ≡ o → begun e n c k qs o ≡ Some (Makes x m) → Counts n x m
    at_joiners k qs None f i = absurd cc
    at_joiners k qs (Some ms) f i =
        let joined = joined_there e n c n.sid qs ms f in
        let old = length-with_machines n.machines ms in
        let new = length-served e c n.sid k.serve in
        let both = length-append (with_machines n.machines ms) (served e c n.sid k.serve) in
        let count : length (with_machines n.machines ms ++ served e c n.sid k.serve) ≡ length n.machines + length k.serve = omega arith in
        made_counts n x m _ _ i
        (record {
          sessions = omega arith;
          processes =
              count
              ∙ sym (grown_both (length n.machines) qs (served_parts k.serve (length n.machines)) ∙ ap (λ j. grown j (served_parts k.serve (length n.machines))) joined ∙ grown_served k.serve (length n.machines));
        })

    at_pairs : (k : Channel) (o : Option (List (NameId × ℕ))) → starts_with e n c k o ≡ Some (Makes x m) → Counts n x m
    at_pairs k None i = absurd cc
    at_pairs k (Some []) i = absurd cc
    at_pairs k (Some (q ∷ qs)) i = at_joiners k (q ∷ qs) (joiners e n c n.sid (q ∷ qs)) refl i

    at_channel : (o : Option Channel) → channel_starts e n c ps o ≡ Some (Makes x m) → Counts n x m
    at_channel None i = absurd cc
    at_channel (Some k) i = at_pairs k (paired k.active ps) i

-- ---- runs

module _ (e : Endpoints) (hosts : Hosts) (capacity : Option ℕ) where
  step_counts : (n m : NetworkState) (x : Event) → NetworkSteps e hosts capacity n x m → Counts n x m
  step_counts n m x (acts p v answers made) = machine_counts n x m e capacity p v (slice_get n.machines p) made
  step_counts n m x (begins a ps made) = start_counts e n a ps x m made

  first_sessions : (x : Event) (xs : List Event) → sessions_in (x ∷ xs) ≡ sessions_in (x ∷ []) + sessions_in xs
  first_sessions (event.Start c s ps) xs = omega arith
  first_sessions (event.Send p s a b l) xs = omega arith
  first_sessions (event.Recv p s a b l) xs = omega arith
  first_sessions (event.Test p b) xs = omega arith
  first_sessions (event.Set p y v) xs = omega arith
  first_sessions (event.Show p v) xs = omega arith
  first_sessions (event.Host p y f a b v) xs = omega arith

  first_processes : (x : Event) (xs : List Event) (k : ℕ) → processes_after k (x ∷ xs) ≡ processes_after (processes_after k (x ∷ [])) xs
  first_processes (event.Start c s ps) xs k = refl
  first_processes (event.Send p s a b l) xs k = refl
  first_processes (event.Recv p s a b l) xs k = refl
  first_processes (event.Test p b) xs k = refl
  first_processes (event.Set p y v) xs k = refl
  first_processes (event.Show p v) xs k = refl
  first_processes (event.Host p y f a b v) xs k = refl

  pub leads_sessions : (h : List Event) (n m : NetworkState) → NetworkLeads e hosts capacity n h m → m.sid ≡ n.sid + sessions_in h
  leads_sessions [] n m same = let i : n.sid ≡ m.sid = ap (λ (k : NetworkState). k.sid) same in omega arith
  leads_sessions (x ∷ xs) n m (mid, step, rest) =
      let i : mid.sid ≡ n.sid + sessions_in (x ∷ []) = (step_counts n mid x step).sessions in
      let j : m.sid ≡ mid.sid + sessions_in xs = leads_sessions xs mid m rest in
      let k : sessions_in (x ∷ xs) ≡ sessions_in (x ∷ []) + sessions_in xs = first_sessions x xs in
      omega arith

  pub leads_processes : (h : List Event) (n m : NetworkState) → NetworkLeads e hosts capacity n h m → length m.machines ≡ processes_after (length n.machines) h
  leads_processes [] n m same = ap (λ (k : NetworkState). length k.machines) (sym same)
  leads_processes (x ∷ xs) n m (mid, step, rest) =
      leads_processes xs mid m rest ∙ ap (λ k. processes_after k xs) (step_counts n mid x step).processes ∙ sym (first_processes x xs (length n.machines))
