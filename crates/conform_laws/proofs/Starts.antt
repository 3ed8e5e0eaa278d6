-- The starts of a network's run have the numbers 0, 1, 2 and so on, and each has all roles of its channel.
use Rattle.std.proofs.Common.{◌≡◌, ℕ, suc, ◌+◌, Bool, true, false, List, [], ◌∷◌, ◌++◌, length, Option, Some, None, ℤ, refl, ap, ◌∙◌, subst, arith}
use Rattle.std.specs.Prelude.{map, slice_get}
use Rattle.std.specs.FinMap as fin
use Rattle.chor_base.specs.declared.names.NameId.{NameId}
use Rattle.chor_base.specs.declared.value.Load.{Load}
use Rattle.chor_base.specs.declared.value.Load.TheVariants.{Value as Carries, Label as Picks}
use Rattle.chor_base.specs.declared.event.Event.{Event}
use Rattle.chor_base.specs.declared.event.Event.TheVariants as event
use Rattle.chor_base.specs.Events.{Triple}
use Rattle.chor_base.specs.Expr.{term_of, value_of}
use Rattle.chor_base.specs.Meaning.{Hosts}
use Rattle.chor_base.specs.NameMap.{Variables}
use Rattle.endpoint_code.specs.declared.code.CodeNode.{CodeNode}
use Rattle.endpoint_code.specs.declared.code.CodeNode.TheVariants.{Join, Send, Recv, Pick, Branch, Throw, Catch, Set, Show, Host, If, Call, End}
use Rattle.endpoint_code.specs.declared.endpoints.Channel.{Channel}
use Rattle.endpoint_code.specs.declared.endpoints.Endpoints.{Endpoints}
use Rattle.endpoint_code.specs.Network.{Sessions, Machine, NetworkState, Place, Makes, Taking, Goes, queue_of, has_room, put_if, puts, part_load, takes_value, takes_label, takes_part, went, takes_from, takes, moved, channel_of, served_parts, place_of, node_makes, place_makes, machine_makes, NetworkSteps, acts, begins}
use Rattle.endpoint_code.specs.NetworkRuns.{NetworkLeads}
use Rattle.endpoint_code.proofs.Begun.{Begun, begun_as, pair_roles, served_roles}
use Rattle.conform.specs.ByRole.{start_count}

-- the event is no start, and the next session keeps its number
abbrev IsAlone : NetworkState → Event → NetworkState → Type 0
IsAlone n x m = (start_count (x ∷ []) ≡ 0) × (m.sid ≡ n.sid)

-- ---- what one process makes

module _ (n : NetworkState) (x : Event) (m : NetworkState) where
  made_alone : (y : Event) (k : NetworkState) → Some (Makes y k) ≡ Some (Makes x m) → IsAlone n y k → IsAlone n x m
  made_alone y k h w =
      let same : y ≡ x = cc in
      let here : k ≡ m = cc in
      subst (λ (z : Event). IsAlone n z m) same (subst (IsAlone n y) here w)

  put_alone : (b : Bool) (k : NetworkState) (p : ℕ) (t : Triple) (l : Load) → k.sid ≡ n.sid → put_if b k p t l ≡ Some (Makes x m) → IsAlone n x m
  put_alone true k p t l same h = made_alone _ _ h (refl, same)
  put_alone false k p t l same h = absurd cc

  puts_alone : (capacity : Option ℕ) (k : NetworkState) (p : ℕ) (b : NameId) (o : Option (ℕ × NameId)) (l : Option Load) → k.sid ≡ n.sid → puts capacity k p b o l ≡ Some (Makes x m) → IsAlone n x m
  puts_alone capacity k p b (Some (s, a)) (Some l) same h = put_alone (has_room capacity (queue_of k (s, a, b))) k p (s, a, b) l same h
  puts_alone capacity k p b (Some y) None same h = absurd cc
  puts_alone capacity k p b None l same h = absurd cc

  takes_alone : (p : ℕ) (a : NameId) (o : Option (ℕ × NameId)) (f : Load → Option Taking) → takes n p a o f ≡ Some (Makes x m) → IsAlone n x m
  takes_alone p a None f h = absurd cc
  takes_alone p a (Some (s, b)) f h = go (queue_of n (s, a, b)) h
    where
      taken : (l : Load) (rest : List Load) (o : Option Taking) → went n p (s, a, b) l rest o ≡ Some (Makes x m) → IsAlone n x m
      taken l rest None j = absurd cc
      taken l rest (Some (Goes next vars k)) j = made_alone _ _ j (refl, refl)

      go : (q : List Load) → takes_from n p (s, a, b) f q ≡ Some (Makes x m) → IsAlone n x m
      go [] j = absurd cc
      go (l ∷ rest) j = taken l rest (f l) j

  node_alone : (capacity : Option ℕ) (p : ℕ) (v : ℤ) (vars : Variables) (ss : Sessions) (node : CodeNode) → node_makes capacity n p v vars ss node ≡ Some (Makes x m) → IsAlone n x m
  node_alone capacity p v vars ss (Send k b g next) h = puts_alone capacity (moved n p next vars ss) p b (fin.get ss k.0) (Some (Carries (value_of (term_of g) vars))) refl h
  node_alone capacity p v vars ss (Pick k b l next) h = puts_alone capacity (moved n p next vars ss) p b (fin.get ss k.0) (Some (Picks l)) refl h
  node_alone capacity p v vars ss (Throw k b g next) h = puts_alone capacity (moved n p next vars (fin.remove ss g.0)) p b (fin.get ss k.0) (part_load (fin.get ss g.0)) refl h
  node_alone capacity p v vars ss (Recv k a y next) h = takes_alone p a (fin.get ss k.0) (takes_value next vars ss y) h
  node_alone capacity p v vars ss (Branch k a arms) h = takes_alone p a (fin.get ss k.0) (takes_label arms vars ss) h
  node_alone capacity p v vars ss (Catch k a g next) h = takes_alone p a (fin.get ss k.0) (takes_part next vars ss g) h
  node_alone capacity p v vars ss (Set y g next) h = made_alone _ _ h (refl, refl)
  node_alone capacity p v vars ss (Show g next) h = made_alone _ _ h (refl, refl)
  node_alone capacity p v vars ss (Host y f g t next) h = made_alone _ _ h (refl, refl)
  node_alone capacity p v vars ss (If g c d) h = made_alone _ _ h (refl, refl)
  node_alone capacity p v vars ss (Join c r k next) h = absurd cc
  node_alone capacity p v vars ss (Call f q ks) h = absurd cc
  node_alone capacity p v vars ss End h = absurd cc

  machine_alone : (e : Endpoints) (capacity : Option ℕ) (p : ℕ) (v : ℤ) (o : Option Machine) → machine_makes e capacity n p v o ≡ Some (Makes x m) → IsAlone n x m
  machine_alone e capacity p v None h = absurd cc
  machine_alone e capacity p v (Some k) h = go (place_of e k) h
    where
      go : (o : Option Place) → place_makes capacity n p v k.vars o ≡ Some (Makes x m) → IsAlone n x m
      go None j = absurd cc
      go (Some q) j = node_alone capacity p v k.vars q.sessions q.node j

-- ---- a start

map_both : {A B : Type 0} (f : A → B) (xs ys : List A) → map f (xs ++ ys) ≡ map f xs ++ map f ys
map_both f [] ys = refl
map_both f (x ∷ xs) ys = ap (λ z. f x ∷ z) (map_both f xs ys)

-- the event of a start has the number of the next session, and all roles of the channel in order
pub record StartsAll (e : Endpoints) (n : NetworkState) (c : NameId) (s : ℕ) (parts : List (NameId × ℕ)) : Type 0 where
  pub channel : Channel
  pub found : channel_of e.channels c ≡ Some channel
  pub number : s ≡ n.sid
  pub roles : map (λ q. q.0) parts ≡ channel.active ++ channel.serve

starts_all : (e : Endpoints) (n : NetworkState) (a : NameId) (ps : List ℕ) (c : NameId) (s : ℕ) (parts : List (NameId × ℕ)) (m : NetworkState) → Begun e n a ps (event.Start c s parts) m → StartsAll e n c s parts
starts_all e n a ps c s parts m b =
    let is : event.Start c s parts ≡ event.Start a n.sid (b.parts ++ served_parts b.channel.serve (length n.machines)) = b.event_is in
    let name : c ≡ a = cc in
    let number : s ≡ n.sid = cc in
    let all : parts ≡ b.parts ++ served_parts b.channel.serve (length n.machines) = cc in
    record {
      channel = b.channel;
      found = ap (channel_of e.channels) name ∙ b.found;
      number = number;
      roles = ap (map (λ q. q.0)) all ∙ map_both (λ (q : NameId × ℕ). q.0) b.parts (served_parts b.channel.serve (length n.machines))
          ∙ (λ j. pair_roles b.channel.active ps b.parts b.pairs j ++ served_roles b.channel.serve (length n.machines) j);
    }

-- ---- steps

module _ (e : Endpoints) (hosts : Hosts) (capacity : Option ℕ) where
  -- a start begins a session
  pub start_begins : (n m : NetworkState) (c : NameId) (s : ℕ) (parts : List (NameId × ℕ)) → NetworkSteps e hosts capacity n (event.Start c s parts) m → StartsAll e n c s parts
  start_begins n m c s parts (acts p v answers made) = let w : suc 0 ≡ 0 = (machine_alone n (event.Start c s parts) m e capacity p v (slice_get n.machines p) made).0 in absurd (omega (arith, w))
  start_begins n m c s parts (begins a ps made) = starts_all e n a ps c s parts m (begun_as e n a ps (event.Start c s parts) m made)

  -- each event but a start keeps the next session's number
  step_counts : (n m : NetworkState) (x : Event) → NetworkSteps e hosts capacity n x m → m.sid ≡ n.sid + start_count (x ∷ [])
  step_counts n m x (acts p v answers made) = let w = machine_alone n x m e capacity p v (slice_get n.machines p) made in let i : start_count (x ∷ []) ≡ 0 = w.0 in let j : m.sid ≡ n.sid = w.1 in omega (arith, i, j)
  step_counts n m x (begins a ps made) =
      let b = begun_as e n a ps x m made in
      let one : start_count (x ∷ []) ≡ 1 = ap (λ (y : Event). start_count (y ∷ [])) b.event_is in
      let next : m.sid ≡ suc n.sid = ap (λ (k : NetworkState). k.sid) b.state_is in
      omega (arith, one, next)

  one_first : (x : Event) (xs : List Event) → start_count (x ∷ xs) ≡ start_count (x ∷ []) + start_count xs
  one_first (event.Start c s ps) xs = omega arith
  one_first (event.Send p s a b l) xs = omega arith
  one_first (event.Recv p s a b l) xs = omega arith
  one_first (event.Test p b) xs = omega arith
  one_first (event.Set p y v) xs = omega arith
  one_first (event.Show p v) xs = omega arith
  one_first (event.Host p y f a b v) xs = omega arith

  pub leads_count : (h : List Event) (n m : NetworkState) → NetworkLeads e hosts capacity n h m → m.sid ≡ n.sid + start_count h
  leads_count [] n m same = let i : n.sid ≡ m.sid = ap (λ (k : NetworkState). k.sid) same in omega (arith, i)
  leads_count (x ∷ xs) n m (mid, step, rest) =
      let i : mid.sid ≡ n.sid + start_count (x ∷ []) = step_counts n mid x step in
      let j : m.sid ≡ mid.sid + start_count xs = leads_count xs mid m rest in
      let k : start_count (x ∷ xs) ≡ start_count (x ∷ []) + start_count xs = one_first x xs in
      omega (arith, i, j, k)
