-- Who has ended, who waits and why, in states that are the same.
use Rattle.std.proofs.Common.{◌≡◌, ℕ, Bool, true, false, ◌==◌, ◌||◌, List, [], ◌∷◌, refl, subst, Option, Some, None, is_some, if◌then◌else◌}
use Rattle.std.specs.List.{AllZip}
use Rattle.chor_base.specs.declared.names.NameId.{NameId}
use Rattle.chor_base.specs.declared.value.Load.{Load}
use Rattle.chor_base.specs.declared.event.Why.{Why}
use Rattle.chor_base.specs.declared.event.Why.TheVariants.{Wrong, Full, Absent}
use Rattle.chor_base.specs.NameMap.{Variables}
use Rattle.endpoint_code.specs.declared.code.CodeNode.{CodeNode}
use Rattle.endpoint_code.specs.declared.endpoints.Channel.{Channel}
use Rattle.endpoint_code.specs.declared.endpoints.Endpoints.{Endpoints}
use Rattle.endpoint_code.specs.Network.{Sessions, Machine, NetworkState, Place, Taking, place_of, queue_of, has_room, takes_value, takes_label, takes_part, channel_of}
use Rattle.endpoint_code.specs.NetworkRuns.{ends_there, has_ended, all_ended, joins_there, is_joined, absent_among, absent_on, waits_to_send, waits_for_first, waits_to_receive, node_waits, place_waits, waits_for, can_step, none_can_step}
use Rattle.same_programs.specs.Words.{SameName, SameText, BothOrNeither}
use Rattle.same_programs.specs.Programs.{IsCopy}
use Rattle.same_programs.specs.States as why
use Rattle.same_programs.specs.States.{SameLoad, SameWhy, SameMachine, SameState, SameVariables, SameSessions}
use Rattle.same_programs.specs.Laws.{StandsAlike}
use Rattle.same_programs.proofs.Zips.{both_some}
use Rattle.same_programs.proofs.Nodes.{Alike, join, send, recv, pick, branch, throw, catch, stop}
use Rattle.same_programs.proofs.Places.{tell, Held, SamePlace, place_same}
use Rattle.same_programs.proofs.States.{Loads}
use Rattle.same_programs.proofs.Makings.{SameTaking, rooms_same, value_taken, label_taken, part_taken}
use Rattle.same_programs.proofs.Starting.{IsChannelOf, channel_same}
use Rattle.same_programs.proofs.Tests.{both_tests, one_test}

module _ (e e' : Endpoints) (c : IsCopy e e') where
  abbrev N : NameId → NameId → Type 0
  N = SameName e e'

  abbrev Causes : Option Why → Option Why → Type 0
  Causes o u = BothOrNeither (SameWhy (SameName e e')) o u

  -- ---- ended

  node_ended : (n n' : CodeNode) → Alike e e' n n' → (m m' : Sessions) → ends_there (Some (record { node = n; sessions = m })) ≡ ends_there (Some (record { node = n'; sessions = m' }))
  node_ended n n' stop m m' = refl
  node_ended n n' s m m' = refl

  place_ended : (o u : Option Place) → BothOrNeither (SamePlace e e' c) o u → ends_there o ≡ ends_there u
  place_ended None None s = refl
  place_ended None (Some y) s = absurd s
  place_ended (Some x) None s = absurd s
  place_ended (Some x) (Some y) s = node_ended x.node y.node s.node x.sessions y.sessions

  pub ended_same : (m m' : Machine) → SameMachine e e' m m' → has_ended e m ≡ has_ended e' m'
  ended_same m m' s = place_ended (place_of e m) (place_of e' m') (place_same e e' c m m' s)

  pub all_same : (ms ns : List Machine) → AllZip (SameMachine e e') ms ns → all_ended e ms ≡ all_ended e' ns
  all_same [] [] h = refl
  all_same [] (y ∷ ns) h = absurd h
  all_same (x ∷ ms) [] h = absurd h
  all_same (x ∷ ms) (y ∷ ns) h = both_tests (has_ended e x) (has_ended e' y) (all_ended e ms) (all_ended e' ns) (ended_same x y h.0) (all_same ms ns h.1)

  -- ---- who joins

  node_joins : (n n' : CodeNode) → Alike e e' n n' → (m m' : Sessions) (a b r q : NameId) → N a b → N r q
      → joins_there (Some (record { node = n; sessions = m })) a r ≡ joins_there (Some (record { node = n'; sessions = m' })) b q
  node_joins n n' (join {c = d} {d = f} {r = g} {q = h} x y z t) m m' a b r q i j =
      both_tests (d.0 == a.0) (f.0 == b.0) (g.0 == r.0) (h.0 == q.0) (tell e e' c d f a b x i) (tell e e' c g h r q y j)
  node_joins n n' s m m' a b r q i j = refl

  place_joined : (o u : Option Place) → BothOrNeither (SamePlace e e' c) o u → (a b r q : NameId) → N a b → N r q → joins_there o a r ≡ joins_there u b q
  place_joined None None s a b r q i j = refl
  place_joined None (Some y) s a b r q i j = absurd s
  place_joined (Some x) None s a b r q i j = absurd s
  place_joined (Some x) (Some y) s a b r q i j = node_joins x.node y.node s.node x.sessions y.sessions a b r q i j

  pub joins_same : (m m' : Machine) → SameMachine e e' m m' → (a b r q : NameId) → N a b → N r q → joins_there (place_of e m) a r ≡ joins_there (place_of e' m') b q
  joins_same m m' s a b r q i j = place_joined (place_of e m) (place_of e' m') (place_same e e' c m m' s) a b r q i j

  joined_same : (ms ns : List Machine) → AllZip (SameMachine e e') ms ns → (a b r q : NameId) → N a b → N r q → is_joined e ms a r ≡ is_joined e' ns b q
  joined_same [] [] h a b r q i j = refl
  joined_same [] (y ∷ ns) h a b r q i j = absurd h
  joined_same (x ∷ ms) [] h a b r q i j = absurd h
  joined_same (x ∷ ms) (y ∷ ns) h a b r q i j =
      one_test (joins_there (place_of e x) a r) (joins_there (place_of e' y) b q) (is_joined e ms a r) (is_joined e' ns b q) (joins_same x y h.0 a b r q i j) (joined_same ms ns h.1 a b r q i j)

  -- ---- causes of waiting

  cause_unless : (s t : Bool) → s ≡ t → (o u : Option Why) → Causes o u → (x y : Why) → SameWhy (SameName e e') x y → Causes (if s then o else Some x) (if t then u else Some y)
  cause_unless s t h o u k x y w = subst (λ z. Causes (if s then o else Some x) (if z then u else Some y)) h (go s)
    where
      go : (z : Bool) → Causes (if z then o else Some x) (if z then u else Some y)
      go true = k
      go false = w

  absent_same : (ms ns : List Machine) → AllZip (SameMachine e e') ms ns → (a b own his : NameId) → N a b → N own his → (rs qs : List NameId) → AllZip (SameName e e') rs qs
      → Causes (absent_among e ms a own rs) (absent_among e' ns b his qs)
  absent_same ms ns h a b own his i j [] [] k = tt
  absent_same ms ns h a b own his i j [] (q ∷ qs) k = absurd k
  absent_same ms ns h a b own his i j (r ∷ rs) [] k = absurd k
  absent_same ms ns h a b own his i j (r ∷ rs) (q ∷ qs) k =
      cause_unless ((r.0 == own.0) || is_joined e ms a r) ((q.0 == his.0) || is_joined e' ns b q)
      (one_test (r.0 == own.0) (q.0 == his.0) (is_joined e ms a r) (is_joined e' ns b q) (tell e e' c r q own his k.0 j) (joined_same ms ns h a b r q i k.0))
      (absent_among e ms a own rs) (absent_among e' ns b his qs) (absent_same ms ns h a b own his i j rs qs k.1) (Absent a r) (Absent b q) (why.absent i k.0)

  absent_from : (ms ns : List Machine) → AllZip (SameMachine e e') ms ns → (a b own his : NameId) → N a b → N own his → (o u : Option Channel) → BothOrNeither (IsChannelOf e e' c a) o u
      → Causes (absent_on e ms a own o) (absent_on e' ns b his u)
  absent_from ms ns h a b own his i j None None k = tt
  absent_from ms ns h a b own his i j None (Some y) k = absurd k
  absent_from ms ns h a b own his i j (Some x) None k = absurd k
  absent_from ms ns h a b own his i j (Some x) (Some y) k = absent_same ms ns h a b own his i j x.active y.active k.same.active

  full_same : (cap : Option ℕ) (n n' : NetworkState) → SameState e e' n n' → (b d : NameId) → N b d → (o u : Option (ℕ × NameId)) → BothOrNeither (Held e e' c) o u
      → Causes (waits_to_send cap n b o) (waits_to_send cap n' d u)
  full_same cap n n' same b d i None None h = tt
  full_same cap n n' same b d i None (Some y) h = absurd h
  full_same cap n n' same b d i (Some x) None h = absurd h
  full_same cap n n' same b d i (Some (s, a)) (Some (t, f)) h =
      subst (λ (z : ℕ). Causes (waits_to_send cap n b (Some (s, a))) (waits_to_send cap n' d (Some (z, f)))) h.0
      (cause_unless (has_room cap (queue_of n (s, a, b))) (has_room cap (queue_of n' (s, f, d)))
      (rooms_same e e' c cap (queue_of n (s, a, b)) (queue_of n' (s, f, d)) (same.queues s a b f d h.1 i)) None None tt (Full s a b) (Full s f d) (why.full h.1 i))

  first_same : (s : ℕ) (a b d f : NameId) → N a d → N b f → (g h : Load → Option Taking)
      → ((l k : Load) → SameLoad (SameName e e') (SameText e e') l k → BothOrNeither (SameTaking e e' c) (g l) (h k)) → (ls ks : List Load) → Loads e e' c ls ks
      → Causes (waits_for_first s a b g ls) (waits_for_first s d f h ks)
  first_same s a b d f i j g h t [] [] r = why.empty i j
  first_same s a b d f i j g h t [] (k ∷ ks) r = absurd r
  first_same s a b d f i j g h t (l ∷ ls) [] r = absurd r
  first_same s a b d f i j g h t (l ∷ ls) (k ∷ ks) r =
      cause_unless (is_some (g l)) (is_some (h k)) (both_some (SameTaking e e' c) (g l) (h k) (t l k r.0)) None None tt (Wrong s a b) (Wrong s d f) (why.wrong i j)

  empty_same : (n n' : NetworkState) → SameState e e' n n' → (a d : NameId) → N a d → (o u : Option (ℕ × NameId)) → BothOrNeither (Held e e' c) o u → (g h : Load → Option Taking)
      → ((l k : Load) → SameLoad (SameName e e') (SameText e e') l k → BothOrNeither (SameTaking e e' c) (g l) (h k)) → Causes (waits_to_receive n a o g) (waits_to_receive n' d u h)
  empty_same n n' same a d i None None b g h t = tt
  empty_same n n' same a d i None (Some y) b g h t = absurd b
  empty_same n n' same a d i (Some x) None b g h t = absurd b
  empty_same n n' same a d i (Some (s, x)) (Some (r, y)) b g h t =
      subst (λ (z : ℕ). Causes (waits_to_receive n a (Some (s, x)) g) (waits_to_receive n' d (Some (z, y)) h)) b.0
      (first_same s a x d y i b.1 g h t (queue_of n (s, a, x)) (queue_of n' (s, d, y)) (same.queues s a x d y i b.1))

  node_same : (cap : Option ℕ) (n n' : NetworkState) → SameState e e' n n' → (vars vars' : Variables) → SameVariables e e' vars vars' → (m m' : Sessions) → SameSessions e e' m m'
      → (o o' : CodeNode) → Alike e e' o o' → Causes (node_waits e cap n vars m o) (node_waits e' cap n' vars' m' o')
  node_same cap n n' same vars vars' w m m' u o o' (join {c = d} {d = f} {r = r} {q = q} x y z t) =
      absent_from n.machines n'.machines same.machines d f r q x y (channel_of e.channels d) (channel_of e'.channels f) (channel_same e e' c d f x)
  node_same cap n n' same vars vars' w m m' u o o' (send k b x s) = full_same cap n n' same _ _ b _ _ (u _ _ k)
  node_same cap n n' same vars vars' w m m' u o o' (pick k b l s) = full_same cap n n' same _ _ b _ _ (u _ _ k)
  node_same cap n n' same vars vars' w m m' u o o' (throw k b g s) = full_same cap n n' same _ _ b _ _ (u _ _ k)
  node_same cap n n' same vars vars' w m m' u o o' (recv {x = x} {y = y} {i = i} {j = j} k a h s) =
      empty_same n n' same _ _ a _ _ (u _ _ k) (takes_value i vars m x) (takes_value j vars' m' y) (value_taken e e' c vars vars' w m m' u i j s x y h)
  node_same cap n n' same vars vars' w m m' u o o' (branch {qs = qs} {ps = ps} k a s) =
      empty_same n n' same _ _ a _ _ (u _ _ k) (takes_label qs vars m) (takes_label ps vars' m') (label_taken e e' c vars vars' w m m' u qs ps s)
  node_same cap n n' same vars vars' w m m' u o o' (catch {g = g} {f = f} {i = i} {j = j} k a h s) =
      empty_same n n' same _ _ a _ _ (u _ _ k) (takes_part i vars m g) (takes_part j vars' m' f) (part_taken e e' c vars vars' w m m' u i j s g f h)
  node_same cap n n' same vars vars' w m m' u o o' s = tt

  place_waiting : (cap : Option ℕ) (n n' : NetworkState) → SameState e e' n n' → (vars vars' : Variables) → SameVariables e e' vars vars' → (o u : Option Place) → BothOrNeither (SamePlace e e' c) o u
      → Causes (place_waits e cap n vars o) (place_waits e' cap n' vars' u)
  place_waiting cap n n' same vars vars' w None None s = tt
  place_waiting cap n n' same vars vars' w None (Some y) s = absurd s
  place_waiting cap n n' same vars vars' w (Some x) None s = absurd s
  place_waiting cap n n' same vars vars' w (Some x) (Some y) s = node_same cap n n' same vars vars' w x.sessions y.sessions s.sessions x.node y.node s.node

  pub waits_same : (cap : Option ℕ) (n n' : NetworkState) → SameState e e' n n' → (m m' : Machine) → SameMachine e e' m m' → Causes (waits_for e cap n m) (waits_for e' cap n' m')
  waits_same cap n n' same m m' s = place_waiting cap n n' same m.vars m'.vars s.vars (place_of e m) (place_of e' m') (place_same e e' c m m' s)

  -- ---- who can step

  pub steps_same : (cap : Option ℕ) (n n' : NetworkState) → SameState e e' n n' → (m m' : Machine) → SameMachine e e' m m' → can_step e cap n m ≡ can_step e' cap n' m'
  steps_same cap n n' same m m' s =
      let ended = ended_same m m' s in
      let waits : is_some (waits_for e cap n m) ≡ is_some (waits_for e' cap n' m') = both_some (SameWhy (SameName e e')) (waits_for e cap n m) (waits_for e' cap n' m') (waits_same cap n n' same m m' s) in
      λ i. if ended i then false else (if waits i then false else true)

  pub stands_same : (cap : Option ℕ) (n n' : NetworkState) → SameState e e' n n' → (ms ns : List Machine) → AllZip (SameMachine e e') ms ns → AllZip (StandsAlike e e' cap n n') ms ns
  stands_same cap n n' same [] [] h = tt
  stands_same cap n n' same [] (y ∷ ns) h = absurd h
  stands_same cap n n' same (x ∷ ms) [] h = absurd h
  stands_same cap n n' same (x ∷ ms) (y ∷ ns) h =
      (record { ended = ended_same x y h.0; steps = steps_same cap n n' same x y h.0; waits = waits_same cap n n' same x y h.0 }, stands_same cap n n' same ms ns h.1)

  pub none_same : (cap : Option ℕ) (n n' : NetworkState) → SameState e e' n n' → (ms ns : List Machine) → AllZip (SameMachine e e') ms ns → none_can_step e cap n ms ≡ none_can_step e' cap n' ns
  none_same cap n n' same [] [] h = refl
  none_same cap n n' same [] (y ∷ ns) h = absurd h
  none_same cap n n' same (x ∷ ms) [] h = absurd h
  none_same cap n n' same (x ∷ ms) (y ∷ ns) h =
      let one = steps_same cap n n' same x y h.0 in
      let rest = none_same cap n n' same ms ns h.1 in
      λ i. if one i then false else rest i
