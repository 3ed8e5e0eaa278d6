-- Starts in states that are the same.
use Rattle.std.proofs.Common.{◌≡◌, ℕ, suc, Bool, true, false, ◌==◌, ◌&&◌, ◌||◌, List, [], ◌∷◌, ◌++◌, length, refl, ap, ◌∙◌, subst, Option, Some, None, if◌then◌else◌}
use Rattle.std.specs.Prelude.{slice_get, slice_set, All}
use Rattle.std.specs.List.{AllZip}
use Rattle.std.specs.FinMap as fin
use Rattle.std.proofs.lemmas.List.Elements.{All-head, All-tail}
use Rattle.std.proofs.lemmas.Bool.{eqb-true}
use Rattle.chor_base.specs.declared.names.NameId.{NameId}
use Rattle.chor_base.specs.declared.event.Event.TheVariants as event
use Rattle.chor_base.specs.NameMap.{Variables}
use Rattle.endpoint_code.specs.declared.code.CodeNode.{CodeNode}
use Rattle.endpoint_code.specs.declared.endpoints.Channel.{Channel}
use Rattle.endpoint_code.specs.declared.endpoints.ServiceCode.{ServiceCode}
use Rattle.endpoint_code.specs.declared.endpoints.Endpoints.{Endpoints}
use Rattle.endpoint_code.specs.Faults.{has_service}
use Rattle.endpoint_code.specs.Network.{Sessions, Machine, NetworkState, Place, Made, Makes, place_of, node_joins, place_joins, joins, one_joiner, joiners, with_machines, service_of, served, served_parts, channel_of, begun, one_pair, paired, starts_with, channel_starts, starts}
use Rattle.same_programs.specs.Words.{SameName, SameText, BothOrNeither}
use Rattle.same_programs.specs.Codes.{SameValue}
use Rattle.same_programs.specs.Programs.{SameChannel, IsCopy}
use Rattle.same_programs.specs.States as events
use Rattle.same_programs.specs.States.{SamePart, SameMachine, SameState, SameVariables, SameSessions}
use Rattle.same_programs.proofs.Zips.{zip_length, zip_get, zip_set, zip_append, both_choice}
use Rattle.same_programs.proofs.Maps.{empty_same, insert_same}
use Rattle.same_programs.proofs.Nodes.{IsSpot, Alike, join}
use Rattle.same_programs.proofs.Places.{tell, Held, SamePlace, place_same, IsServed, served_units, no_sessions}
use Rattle.same_programs.proofs.States.{machine_same}
use Rattle.same_programs.proofs.Makings.{SameMade}
use Rattle.same_programs.proofs.Tests.{number_turned, both_tests}

module _ (e e' : Endpoints) (c : IsCopy e e') where
  abbrev N : NameId → NameId → Type 0
  N = SameName e e'

  no_variables : SameVariables e e' fin.empty fin.empty
  no_variables = empty_same N (SameValue (SameName e e') (SameText e e'))

  -- ---- who joins

  node_joined : (n n' : CodeNode) → Alike e e' n n' → (vars vars' : Variables) → SameVariables e e' vars vars' → (m m' : Sessions) → SameSessions e e' m m'
      → (a b r q : NameId) → N a b → N r q → (s : ℕ) → BothOrNeither (SameMachine e e') (node_joins n vars m a r s) (node_joins n' vars' m' b q s)
  node_joined n n' (join {c = d} {d = f} {r = g} {q = h} {k = k} {h = l} {i = i} {j = j} x y z t) vars vars' v m m' u a b r q o p s =
      both_choice (SameMachine e e') ((d.0 == a.0) && (g.0 == r.0)) ((f.0 == b.0) && (h.0 == q.0)) _ _ None None
      (both_tests (d.0 == a.0) (f.0 == b.0) (g.0 == r.0) (h.0 == q.0) (tell e e' c d f a b x o) (tell e e' c g h r q y p))
      (machine_same e e' c i j vars vars' _ _ t v (insert_same N (Held e e' c) (tell e e' c) m m' u k l (s, r) (s, q) z (refl, p))) tt
  node_joined n n' h vars vars' v m m' u a b r q o p s = tt

  place_joined : (x y : Option Place) → BothOrNeither (SamePlace e e' c) x y → (vars vars' : Variables) → SameVariables e e' vars vars'
      → (a b r q : NameId) → N a b → N r q → (s : ℕ) → BothOrNeither (SameMachine e e') (place_joins x vars a r s) (place_joins y vars' b q s)
  place_joined None None h vars vars' v a b r q o p s = tt
  place_joined None (Some y) h vars vars' v a b r q o p s = absurd h
  place_joined (Some x) None h vars vars' v a b r q o p s = absurd h
  place_joined (Some x) (Some y) h vars vars' v a b r q o p s = node_joined x.node y.node h.node vars vars' v x.sessions y.sessions h.sessions a b r q o p s

  joined : (x y : Option Machine) → BothOrNeither (SameMachine e e') x y → (a b r q : NameId) → N a b → N r q → (s : ℕ) → BothOrNeither (SameMachine e e') (joins e x a r s) (joins e' y b q s)
  joined None None h a b r q o p s = tt
  joined None (Some y) h a b r q o p s = absurd h
  joined (Some x) None h a b r q o p s = absurd h
  joined (Some x) (Some y) h a b r q o p s = place_joined (place_of e x) (place_of e' y) (place_same e e' c x y h) x.vars y.vars h.vars a b r q o p s

  abbrev SameJoiner : ℕ × Machine → ℕ × Machine → Type 0
  SameJoiner x y = (x.0 ≡ y.0) × SameMachine e e' x.1 y.1

  one_joined : (p q : ℕ) → p ≡ q → (x y : Option Machine) → BothOrNeither (SameMachine e e') x y → (xs ys : Option (List (ℕ × Machine))) → BothOrNeither (AllZip SameJoiner) xs ys
      → BothOrNeither (AllZip SameJoiner) (one_joiner p x xs) (one_joiner q y ys)
  one_joined p q i None None h xs ys k = tt
  one_joined p q i None (Some y) h xs ys k = absurd h
  one_joined p q i (Some x) None h xs ys k = absurd h
  one_joined p q i (Some x) (Some y) h None None k = tt
  one_joined p q i (Some x) (Some y) h None (Some ys) k = absurd k
  one_joined p q i (Some x) (Some y) h (Some xs) None k = absurd k
  one_joined p q i (Some x) (Some y) h (Some xs) (Some ys) k = ((i, h), k)

  joiners_same : (n n' : NetworkState) → SameState e e' n n' → (a b : NameId) → N a b → (s : ℕ) → (ps qs : List (NameId × ℕ)) → AllZip (SamePart (SameName e e')) ps qs
      → BothOrNeither (AllZip SameJoiner) (joiners e n a s ps) (joiners e' n' b s qs)
  joiners_same n n' same a b i s [] [] h = tt
  joiners_same n n' same a b i s [] (q ∷ qs) h = absurd h
  joiners_same n n' same a b i s (p ∷ ps) [] h = absurd h
  joiners_same n n' same a b i s (p ∷ ps) (q ∷ qs) h =
      let there = zip_get (SameMachine e e') n.machines n'.machines same.machines in
      one_joined p.1 q.1 h.0.1 (joins e (slice_get n.machines p.1) a p.0 s) (joins e' (slice_get n'.machines q.1) b q.0 s)
      (joined (slice_get n.machines p.1) (slice_get n'.machines q.1)
      (subst (λ (k : ℕ). BothOrNeither (SameMachine e e') (slice_get n.machines p.1) (slice_get n'.machines k)) h.0.1 (there p.1)) a b p.0 q.0 i h.0.0 s)
      (joiners e n a s ps) (joiners e' n' b s qs) (joiners_same n n' same a b i s ps qs h.1)

  machines_set : (xs ys : List (ℕ × Machine)) → AllZip SameJoiner xs ys → (all all' : List Machine) → AllZip (SameMachine e e') all all' → AllZip (SameMachine e e') (with_machines all xs) (with_machines all' ys)
  machines_set [] [] h all all' a = a
  machines_set [] (y ∷ ys) h all all' a = absurd h
  machines_set (x ∷ xs) [] h all all' a = absurd h
  machines_set (x ∷ xs) (y ∷ ys) h all all' a =
      machines_set xs ys h.1 (slice_set all x.0 x.1) (slice_set all' y.0 y.1)
      (subst (λ (k : ℕ). AllZip (SameMachine e e') (slice_set all x.0 x.1) (slice_set all' k y.1)) h.0.0 (zip_set (SameMachine e e') all all' a x.0 x.1 y.1 h.0.1))

  -- ---- service roles

  service_found : (xs ys : List ServiceCode) → AllZip (IsServed e e') xs ys → (a b r q : NameId) → N a b → N r q → has_service a r xs ≡ true → IsSpot e e' (service_of xs a r) (service_of ys b q)
  service_found [] ys h a b r q i j k = absurd cc
  service_found (x ∷ xs) [] h a b r q i j k = absurd h
  service_found (x ∷ xs) (y ∷ ys) h a b r q i j k =
      go ((x.channel.0 == a.0) && (x.role.0 == r.0)) ((y.channel.0 == b.0) && (y.role.0 == q.0))
      (both_tests (x.channel.0 == a.0) (y.channel.0 == b.0) (x.role.0 == r.0) (y.role.0 == q.0) (tell e e' c x.channel y.channel a b h.0.channel i) (tell e e' c x.role y.role r q h.0.role j))
      (ap (λ t. t || has_service a r xs) (both_tests (x.channel.0 == a.0) (a.0 == x.channel.0) (x.role.0 == r.0) (r.0 == x.role.0) (number_turned x.channel.0 a.0) (number_turned x.role.0 r.0)) ∙ k)
      (λ g. service_found xs ys h.1 a b r q i j g)
    where
      at : (t : Bool) → (t || has_service a r xs) ≡ true → (has_service a r xs ≡ true → IsSpot e e' (service_of xs a r) (service_of ys b q))
          → IsSpot e e' (if t then x.body else service_of xs a r) (if t then y.body else service_of ys b q)
      at true g more = h.0.body
      at false g more = more g

      go : (t u : Bool) → t ≡ u → (t || has_service a r xs) ≡ true → (has_service a r xs ≡ true → IsSpot e e' (service_of xs a r) (service_of ys b q))
          → IsSpot e e' (if t then x.body else service_of xs a r) (if u then y.body else service_of ys b q)
      go t u f g more = subst (λ w. IsSpot e e' (if t then x.body else service_of xs a r) (if w then y.body else service_of ys b q)) f (at t g more)

  served_same : (a b : NameId) → N a b → (s : ℕ) (rs qs : List NameId) → AllZip (SameName e e') rs qs → All (λ r. has_service a r e.services ≡ true) rs → AllZip (SameMachine e e') (served e a s rs) (served e' b s qs)
  served_same a b i s [] [] h p = tt
  served_same a b i s [] (q ∷ qs) h p = absurd h
  served_same a b i s (r ∷ rs) [] h p = absurd h
  served_same a b i s (r ∷ rs) (q ∷ qs) h p = (
    machine_same e e' c (service_of e.services a r) (service_of e'.services b q) fin.empty fin.empty _ _
        (service_found e.services e'.services (served_units e e' c) a b r q i h.0 (All-head (λ z. has_service a z e.services ≡ true) r rs p)) no_variables
        (insert_same N (Held e e' c) (tell e e' c) fin.empty fin.empty (no_sessions e e' c) a b (s, r) (s, q) i (refl, h.0)),
    served_same a b i s rs qs h.1 (All-tail (λ z. has_service a z e.services ≡ true) r rs p),
  )

  parts_same : (rs qs : List NameId) → AllZip (SameName e e') rs qs → (p : ℕ) → AllZip (SamePart (SameName e e')) (served_parts rs p) (served_parts qs p)
  parts_same [] [] h p = tt
  parts_same [] (q ∷ qs) h p = absurd h
  parts_same (r ∷ rs) [] h p = absurd h
  parts_same (r ∷ rs) (q ∷ qs) h p = ((h.0, refl), parts_same rs qs h.1 (suc p))

  -- ---- channels

  -- the channel of this name in both, with code for each of its service roles
  pub record IsChannelOf (a : NameId) (k h : Channel) : Type 0 where
    pub same : SameChannel e e' k h
    pub provided : All (λ r. has_service a r e.services ≡ true) k.serve

  channel_found : (ks hs : List Channel) → AllZip (SameChannel e e') ks hs → All (λ k. All (λ r. has_service k.name r e.services ≡ true) k.serve) ks → (a b : NameId) → N a b
      → BothOrNeither (IsChannelOf a) (channel_of ks a) (channel_of hs b)
  channel_found [] [] h p a b i = tt
  channel_found [] (y ∷ hs) h p a b i = absurd h
  channel_found (x ∷ ks) [] h p a b i = absurd h
  channel_found (x ∷ ks) (y ∷ hs) h p a b i =
      subst (λ t. BothOrNeither (IsChannelOf a) (if x.name.0 == a.0 then Some x else channel_of ks a) (if t then Some y else channel_of hs b)) (tell e e' c x.name y.name a b h.0.name i)
      (go (x.name.0 == a.0) refl (channel_found ks hs h.1 (All-tail (λ (k : Channel). All (λ r. has_service k.name r e.services ≡ true) k.serve) x ks p) a b i))
    where
      here : (x.name.0 == a.0) ≡ true → IsChannelOf a x y
      here f =
          let number : x.name.0 ≡ a.0 = eqb-true x.name.0 a.0 f in
          let name : x.name ≡ a = λ j. record { 0 = number j } in
          record { same = h.0; provided = subst (λ (z : NameId). All (λ r. has_service z r e.services ≡ true) x.serve) name (All-head (λ (k : Channel). All (λ r. has_service k.name r e.services ≡ true) k.serve) x ks p) }

      go : (t : Bool) → (x.name.0 == a.0) ≡ t → BothOrNeither (IsChannelOf a) (channel_of ks a) (channel_of hs b)
          → BothOrNeither (IsChannelOf a) (if t then Some x else channel_of ks a) (if t then Some y else channel_of hs b)
      go true f more = here f
      go false f more = more

  pub channel_same : (a b : NameId) → N a b → BothOrNeither (IsChannelOf a) (channel_of e.channels a) (channel_of e'.channels b)
  channel_same a b i = channel_found e.channels e'.channels c.same.channels c.faultless.names.provided a b i

  -- ---- starts

  one_paired : (r q : NameId) → N r q → (p : ℕ) → (xs ys : Option (List (NameId × ℕ))) → BothOrNeither (AllZip (SamePart (SameName e e'))) xs ys
      → BothOrNeither (AllZip (SamePart (SameName e e'))) (one_pair r p xs) (one_pair q p ys)
  one_paired r q i p None None h = tt
  one_paired r q i p None (Some y) h = absurd h
  one_paired r q i p (Some x) None h = absurd h
  one_paired r q i p (Some x) (Some y) h = ((i, refl), h)

  paired_same : (rs qs : List NameId) → AllZip (SameName e e') rs qs → (ps : List ℕ) → BothOrNeither (AllZip (SamePart (SameName e e'))) (paired rs ps) (paired qs ps)
  paired_same [] [] h [] = tt
  paired_same [] [] h (p ∷ ps) = tt
  paired_same [] (q ∷ qs) h ps = absurd h
  paired_same (r ∷ rs) [] h ps = absurd h
  paired_same (r ∷ rs) (q ∷ qs) h [] = tt
  paired_same (r ∷ rs) (q ∷ qs) h (p ∷ ps) = one_paired r q h.0 p (paired rs ps) (paired qs ps) (paired_same rs qs h.1 ps)

  -- what is begun by session s where there are l processes
  abbrev begun_by : Endpoints → NetworkState → ℕ → ℕ → NameId → Channel → List (NameId × ℕ) → List (ℕ × Machine) → Made
  begun_by d n s l a k ps ms = Makes (event.Start a s (ps ++ served_parts k.serve l)) (record n { machines = with_machines n.machines ms ++ served d a s k.serve; sid = suc s })

  begun_same : (n n' : NetworkState) → SameState e e' n n' → (a b : NameId) → N a b → (k h : Channel) → IsChannelOf a k h → (ps qs : List (NameId × ℕ)) → AllZip (SamePart (SameName e e')) ps qs
      → (xs ys : List (ℕ × Machine)) → AllZip SameJoiner xs ys → (s l : ℕ) → SameMade e e' c (begun_by e n s l a k ps xs) (begun_by e' n' s l b h qs ys)
  begun_same n n' same a b i k h f ps qs g xs ys j s l = (
    events.start i (zip_append (SamePart (SameName e e')) ps qs (served_parts k.serve l) (served_parts h.serve l) g (parts_same k.serve h.serve f.same.serve l)),
    record {
      machines = zip_append (SameMachine e e') (with_machines n.machines xs) (with_machines n'.machines ys) (served e a s k.serve) (served e' b s h.serve)
          (machines_set xs ys j n.machines n'.machines same.machines) (served_same a b i s k.serve h.serve f.same.serve f.provided);
      queues = same.queues;
      sid = refl;
    },
  )

  begun_both : (n n' : NetworkState) → SameState e e' n n' → (a b : NameId) → N a b → (k h : Channel) → IsChannelOf a k h → (ps qs : List (NameId × ℕ)) → AllZip (SamePart (SameName e e')) ps qs
      → (o u : Option (List (ℕ × Machine))) → BothOrNeither (AllZip SameJoiner) o u → BothOrNeither (SameMade e e' c) (begun e n a k ps o) (begun e' n' b h qs u)
  begun_both n n' same a b i k h f ps qs g None None j = tt
  begun_both n n' same a b i k h f ps qs g None (Some ys) j = absurd j
  begun_both n n' same a b i k h f ps qs g (Some xs) None j = absurd j
  begun_both n n' same a b i k h f ps qs g (Some xs) (Some ys) j =
      subst (λ (s : ℕ). SameMade e e' c (begun_by e n n.sid (length n.machines) a k ps xs) (begun_by e' n' s (length n'.machines) b h qs ys)) same.sid
      (subst (λ (l : ℕ). SameMade e e' c (begun_by e n n.sid (length n.machines) a k ps xs) (begun_by e' n' n.sid l b h qs ys)) (zip_length (SameMachine e e') n.machines n'.machines same.machines)
      (begun_same n n' same a b i k h f ps qs g xs ys j n.sid (length n.machines)))

  pairs_start : (n n' : NetworkState) → SameState e e' n n' → (a b : NameId) → N a b → (k h : Channel) → IsChannelOf a k h → (o u : Option (List (NameId × ℕ)))
      → BothOrNeither (AllZip (SamePart (SameName e e'))) o u → BothOrNeither (SameMade e e' c) (starts_with e n a k o) (starts_with e' n' b h u)
  pairs_start n n' same a b i k h f None None g = tt
  pairs_start n n' same a b i k h f None (Some ys) g = absurd g
  pairs_start n n' same a b i k h f (Some xs) None g = absurd g
  pairs_start n n' same a b i k h f (Some []) (Some []) g = tt
  pairs_start n n' same a b i k h f (Some []) (Some (y ∷ ys)) g = absurd g
  pairs_start n n' same a b i k h f (Some (x ∷ xs)) (Some []) g = absurd g
  pairs_start n n' same a b i k h f (Some (x ∷ xs)) (Some (y ∷ ys)) g =
      begun_both n n' same a b i k h f (x ∷ xs) (y ∷ ys) g (joiners e n a n.sid (x ∷ xs)) (joiners e' n' b n'.sid (y ∷ ys))
      (subst (λ (s : ℕ). BothOrNeither (AllZip SameJoiner) (joiners e n a n.sid (x ∷ xs)) (joiners e' n' b s (y ∷ ys))) same.sid (joiners_same n n' same a b i n.sid (x ∷ xs) (y ∷ ys) g))

  channel_start : (n n' : NetworkState) → SameState e e' n n' → (a b : NameId) → N a b → (ps : List ℕ) → (o u : Option Channel) → BothOrNeither (IsChannelOf a) o u
      → BothOrNeither (SameMade e e' c) (channel_starts e n a ps o) (channel_starts e' n' b ps u)
  channel_start n n' same a b i ps None None f = tt
  channel_start n n' same a b i ps None (Some h) f = absurd f
  channel_start n n' same a b i ps (Some k) None f = absurd f
  channel_start n n' same a b i ps (Some k) (Some h) f = pairs_start n n' same a b i k h f (paired k.active ps) (paired h.active ps) (paired_same k.active h.active f.same.active ps)

  pub starts_same : (n n' : NetworkState) → SameState e e' n n' → (a b : NameId) → N a b → (ps : List ℕ) → BothOrNeither (SameMade e e' c) (starts e n a ps) (starts e' n' b ps)
  starts_same n n' same a b i ps = channel_start n n' same a b i ps (channel_of e.channels a) (channel_of e'.channels b) (channel_same a b i)
