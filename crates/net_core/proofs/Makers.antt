-- What a process can make by itself.
use Rattle.std.proofs.Common.{◌≡◌, ℕ, ℤ, ◌<◌, Bool, true, false, cond, List, [], ◌∷◌, length, refl, sym, ap, ◌∙◌, Option, Some, None, is_some}
use Rattle.std.specs.Prelude.{slice_get}
use Rattle.std.specs.FinMap as fin
use Rattle.std.proofs.lemmas.Bool.{true≢false}
use Rattle.std.proofs.lemmas.Option.{slice_get_within, none-some}
use Rattle.chor_base.specs.declared.names.NameId.{NameId}
use Rattle.chor_base.specs.declared.value.Load.{Load}
use Rattle.chor_base.specs.declared.event.Event.{Event}
use Rattle.chor_base.specs.declared.event.Why.{Why}
use Rattle.chor_base.specs.declared.event.Why.TheVariants.{Wrong}
use Rattle.chor_base.specs.Events.{Triple}
use Rattle.chor_base.specs.Meaning.{Hosts}
use Rattle.chor_base.specs.NameMap.{Variables}
use Rattle.endpoint_code.specs.declared.code.CodeNode.{CodeNode}
use Rattle.endpoint_code.specs.declared.code.CodeNode.TheVariants.{Join, Send, Recv, Pick, Branch, Throw, Catch, Set, Show, Host, If, Call, End}
use Rattle.endpoint_code.specs.declared.endpoints.Endpoints.{Endpoints}
use Rattle.endpoint_code.specs.Network.{Sessions, Machine, NetworkState, Place, Makes, Taking, Goes, takes, takes_from, went, puts, put_if, part_load, queue_of, has_room, node_makes, place_makes, machine_makes, makes, place_of, place_at, takes_value, takes_label, takes_part}
use Rattle.endpoint_code.specs.NetworkRuns.{ends_there, node_waits, place_waits, waits_for, waits_to_receive, waits_for_first}
use Rattle.endpoint_code.specs.Scheduled.{chosen, chosen_at}
use Rattle.endpoint_machine.specs.Acts.{is_call_event}
use Rattle.net_core.specs.Follows.{MayMake, maker_of}
use Rattle.net_core.specs.Heads.{steps_at, steps_of, joins_at_all, is_joining}
use Rattle.net_core.specs.Machines.{is_join}
use Rattle.net_core.proofs.Capped.{put_waits_not}
use Rattle.net_core.proofs.Alone.{alone_chosen}

pub event_made : {x y : Event} {k m : NetworkState} → Some (Makes x k) ≡ Some (Makes y m) → x ≡ y
event_made h = cc

-- ---- what is no host call is made by any answer

node_same : (cap : Option ℕ) (n : NetworkState) (p : ℕ) (v w : ℤ) (vars : Variables) (m : Sessions) (node : CodeNode) (x : Event) (k : NetworkState) → is_call_event x ≡ false → node_makes cap n p w vars m node ≡ Some (Makes x k) → node_makes cap n p v vars m node ≡ Some (Makes x k)
node_same cap n p v w vars m (Join c r j next) x k other h = h
node_same cap n p v w vars m (Send j b y next) x k other h = h
node_same cap n p v w vars m (Recv j a y next) x k other h = h
node_same cap n p v w vars m (Pick j b l next) x k other h = h
node_same cap n p v w vars m (Branch j a arms) x k other h = h
node_same cap n p v w vars m (Throw j b g next) x k other h = h
node_same cap n p v w vars m (Catch j a g next) x k other h = h
node_same cap n p v w vars m (Set z y next) x k other h = h
node_same cap n p v w vars m (Show y next) x k other h = h
node_same cap n p v w vars m (Host z f a b next) x k other h = absurd (true≢false (ap is_call_event (event_made h) ∙ other))
node_same cap n p v w vars m (If y c d) x k other h = h
node_same cap n p v w vars m (Call f o ns) x k other h = h
node_same cap n p v w vars m End x k other h = h

pub same_made : (e : Endpoints) (cap : Option ℕ) (n : NetworkState) (p : ℕ) (v w : ℤ) (x : Event) (k : NetworkState) → is_call_event x ≡ false → makes e cap n p w ≡ Some (Makes x k) → makes e cap n p v ≡ Some (Makes x k)
same_made e cap n p v w x k other h = at_machine (slice_get n.machines p) h
  where
    at_place : (vars : Variables) (o : Option Place) → place_makes cap n p w vars o ≡ Some (Makes x k) → place_makes cap n p v vars o ≡ Some (Makes x k)
    at_place vars None i = i
    at_place vars (Some q) i = node_same cap n p v w vars q.sessions q.node x k other i

    at_machine : (o : Option Machine) → machine_makes e cap n p w o ≡ Some (Makes x k) → machine_makes e cap n p v o ≡ Some (Makes x k)
    at_machine None i = i
    at_machine (Some m) i = at_place m.vars (place_of e m) i

-- ---- who makes an event

put_maker : (b : Bool) (n : NetworkState) (p : ℕ) (t : Triple) (l : Load) (x : Event) (k : NetworkState) → put_if b n p t l ≡ Some (Makes x k) → maker_of x ≡ Some p
put_maker true n p t l x k h = ap maker_of (sym (event_made h))
put_maker false n p t l x k h = absurd (none-some _ h)

puts_maker : (cap : Option ℕ) (n : NetworkState) (p : ℕ) (b : NameId) (o : Option (ℕ × NameId)) (l : Option Load) (x : Event) (k : NetworkState) → puts cap n p b o l ≡ Some (Makes x k) → maker_of x ≡ Some p
puts_maker cap n p b (Some (s, a)) (Some l) x k h = put_maker (has_room cap (queue_of n (s, a, b))) n p (s, a, b) l x k h
puts_maker cap n p b (Some t) None x k h = absurd (none-some _ h)
puts_maker cap n p b None l x k h = absurd (none-some _ h)

takes_maker : (n : NetworkState) (p : ℕ) (a : NameId) (o : Option (ℕ × NameId)) (f : Load → Option Taking) (x : Event) (k : NetworkState) → takes n p a o f ≡ Some (Makes x k) → maker_of x ≡ Some p
takes_maker n p a None f x k h = absurd (none-some _ h)
takes_maker n p a (Some (s, b)) f x k h = go (queue_of n (s, a, b)) h
  where
    taken : (l : Load) (rest : List Load) (o : Option Taking) → went n p (s, a, b) l rest o ≡ Some (Makes x k) → maker_of x ≡ Some p
    taken l rest None i = absurd (none-some _ i)
    taken l rest (Some (Goes next vars m)) i = ap maker_of (sym (event_made i))

    go : (q : List Load) → takes_from n p (s, a, b) f q ≡ Some (Makes x k) → maker_of x ≡ Some p
    go [] i = absurd (none-some _ i)
    go (l ∷ rest) i = taken l rest (f l) i

pub node_maker : (cap : Option ℕ) (n : NetworkState) (p : ℕ) (v : ℤ) (vars : Variables) (m : Sessions) (node : CodeNode) (x : Event) (k : NetworkState) → node_makes cap n p v vars m node ≡ Some (Makes x k) → maker_of x ≡ Some p
node_maker cap n p v vars m (Send j b e next) x k h = puts_maker cap _ p b _ _ x k h
node_maker cap n p v vars m (Pick j b l next) x k h = puts_maker cap _ p b _ _ x k h
node_maker cap n p v vars m (Throw j b g next) x k h = puts_maker cap _ p b _ _ x k h
node_maker cap n p v vars m (Recv j a y next) x k h = takes_maker n p a _ _ x k h
node_maker cap n p v vars m (Branch j a arms) x k h = takes_maker n p a _ _ x k h
node_maker cap n p v vars m (Catch j a g next) x k h = takes_maker n p a _ _ x k h
node_maker cap n p v vars m (Set y e next) x k h = ap maker_of (sym (event_made h))
node_maker cap n p v vars m (Show e next) x k h = ap maker_of (sym (event_made h))
node_maker cap n p v vars m (Host y f a b next) x k h = ap maker_of (sym (event_made h))
node_maker cap n p v vars m (If e c d) x k h = ap maker_of (sym (event_made h))
node_maker cap n p v vars m (Join c r j next) x k h = absurd (none-some _ h)
node_maker cap n p v vars m (Call f q ss) x k h = absurd (none-some _ h)
node_maker cap n p v vars m End x k h = absurd (none-some _ h)

-- ---- a process that makes an event can step

no_wait_take : (n : NetworkState) (p : ℕ) (a : NameId) (o : Option (ℕ × NameId)) (f : Load → Option Taking) (x : Event) (k : NetworkState) → takes n p a o f ≡ Some (Makes x k) → waits_to_receive n a o f ≡ None
no_wait_take n p a None f x k h = absurd (none-some _ h)
no_wait_take n p a (Some (s, b)) f x k h = go (queue_of n (s, a, b)) h
  where
    taken : (l : Load) (rest : List Load) (o : Option Taking) → f l ≡ o → went n p (s, a, b) l rest o ≡ Some (Makes x k) → waits_for_first s a b f (l ∷ rest) ≡ None
    taken l rest None j i = absurd (none-some _ i)
    taken l rest (Some t) j i = ap (λ (u : Option Taking). cond (is_some u) None (Some (Wrong s a b))) j

    go : (q : List Load) → takes_from n p (s, a, b) f q ≡ Some (Makes x k) → waits_for_first s a b f q ≡ None
    go [] i = absurd (none-some _ i)
    go (l ∷ rest) i = taken l rest (f l) refl i

-- a node at which a process makes an event
pub record Moves (e : Endpoints) (cap : Option ℕ) (n : NetworkState) (vars : Variables) (m : Sessions) (node : CodeNode) : Type 0 where
  pub goes_on : ends_there (Some (record { node = node; sessions = m })) ≡ false
  pub waits_not : node_waits e cap n vars m node ≡ None
  pub joins_not : is_join node ≡ false

pub moves_at : (e : Endpoints) (cap : Option ℕ) (n : NetworkState) (p : ℕ) (v : ℤ) (vars : Variables) (m : Sessions) (node : CodeNode) (x : Event) (k : NetworkState) → node_makes cap n p v vars m node ≡ Some (Makes x k) → Moves e cap n vars m node
moves_at e cap n p v vars m (Send j b y next) x k h = record { goes_on = refl; waits_not = put_waits_not cap n k x p next vars m b (fin.get m j.0) (Some _) h; joins_not = refl }
moves_at e cap n p v vars m (Pick j b l next) x k h = record { goes_on = refl; waits_not = put_waits_not cap n k x p next vars m b (fin.get m j.0) (Some _) h; joins_not = refl }
moves_at e cap n p v vars m (Throw j b g next) x k h = record { goes_on = refl; waits_not = put_waits_not cap n k x p next vars (fin.remove m g.0) b (fin.get m j.0) (part_load (fin.get m g.0)) h; joins_not = refl }
moves_at e cap n p v vars m (Recv j a y next) x k h = record { goes_on = refl; waits_not = no_wait_take n p a (fin.get m j.0) (takes_value next vars m y) x k h; joins_not = refl }
moves_at e cap n p v vars m (Branch j a arms) x k h = record { goes_on = refl; waits_not = no_wait_take n p a (fin.get m j.0) (takes_label arms vars m) x k h; joins_not = refl }
moves_at e cap n p v vars m (Catch j a g next) x k h = record { goes_on = refl; waits_not = no_wait_take n p a (fin.get m j.0) (takes_part next vars m g) x k h; joins_not = refl }
moves_at e cap n p v vars m (Set y w next) x k h = record { goes_on = refl; waits_not = refl; joins_not = refl }
moves_at e cap n p v vars m (Show w next) x k h = record { goes_on = refl; waits_not = refl; joins_not = refl }
moves_at e cap n p v vars m (Host y f a b next) x k h = record { goes_on = refl; waits_not = refl; joins_not = refl }
moves_at e cap n p v vars m (If w c d) x k h = record { goes_on = refl; waits_not = refl; joins_not = refl }
moves_at e cap n p v vars m (Join c r j next) x k h = absurd (none-some _ h)
moves_at e cap n p v vars m (Call f q ss) x k h = absurd (none-some _ h)
moves_at e cap n p v vars m End x k h = absurd (none-some _ h)

-- where the process of an event is that it can make, and what it makes there
pub record Running (e : Endpoints) (hosts : Hosts) (cap : Option ℕ) (n : NetworkState) (p : ℕ) (x : Event) (answer : ℤ) (after : NetworkState) : Type 0 where
  pub machine : Machine
  pub place : Place
  pub there : slice_get n.machines p ≡ Some machine
  pub stands : place_of e machine ≡ Some place
  pub made : node_makes cap n p answer machine.vars place.sessions place.node ≡ Some (Makes x after)

pub running : (e : Endpoints) (hosts : Hosts) (cap : Option ℕ) (n : NetworkState) (p : ℕ) (x : Event) (v : ℤ) (k : NetworkState) → makes e cap n p v ≡ Some (Makes x k) → Running e hosts cap n p x v k
running e hosts cap n p x v k h = at_machine (slice_get n.machines p) refl h
  where
    at_place : (m : Machine) → slice_get n.machines p ≡ Some m → (o : Option Place) → place_of e m ≡ o → place_makes cap n p v m.vars o ≡ Some (Makes x k) → Running e hosts cap n p x v k
    at_place m t None i j = absurd (none-some _ j)
    at_place m t (Some q) i j = record { machine = m; place = q; there = t; stands = i; made = j }

    at_machine : (o : Option Machine) → slice_get n.machines p ≡ o → machine_makes e cap n p v o ≡ Some (Makes x k) → Running e hosts cap n p x v k
    at_machine None t j = absurd (none-some _ j)
    at_machine (Some m) t j = at_place m t (place_of e m) refl j

pub made_maker : (e : Endpoints) (cap : Option ℕ) (n : NetworkState) (p : ℕ) (x : Event) (v : ℤ) (k : NetworkState) → makes e cap n p v ≡ Some (Makes x k) → maker_of x ≡ Some p
made_maker e cap n p x v k h = let r = running e [] cap n p x v k h in node_maker cap n p v r.machine.vars r.place.sessions r.place.node x k r.made

module _ (e : Endpoints) (hosts : Hosts) (cap : Option ℕ) (n : NetworkState) (p : ℕ) (x : Event) (may : MayMake e hosts cap n p x) where
  pub runs : Running e hosts cap n p x may.answer may.after
  runs = running e hosts cap n p x may.answer may.after may.made

  moves : Moves e cap n runs.machine.vars runs.place.sessions runs.place.node
  moves = moves_at e cap n p may.answer runs.machine.vars runs.place.sessions runs.place.node x may.after runs.made

  pub may_within : p < length n.machines
  may_within = slice_get_within n.machines p runs.machine runs.there

  pub may_step : steps_at e cap n p ≡ true
  may_step =
      ap (steps_of e cap n) runs.there
      ∙ ap (λ (b : Bool). cond b false (cond (is_some (waits_for e cap n runs.machine)) false true)) (ap ends_there runs.stands ∙ moves.goes_on)
      ∙ ap (λ (o : Option Why). cond (is_some o) false true) (ap (place_waits e cap n runs.machine.vars) runs.stands ∙ moves.waits_not)

  pub may_alone : joins_at_all e n p ≡ false
  may_alone = ap (λ (o : Option Machine). is_joining (place_at e o)) runs.there ∙ ap is_joining runs.stands ∙ moves.joins_not

  pub may_chosen : (v : ℤ) → chosen e cap n p v ≡ makes e cap n p v
  may_chosen v = ap (λ (o : Option Machine). chosen_at e cap n p v (place_at e o)) runs.there ∙ ap (chosen_at e cap n p v) runs.stands ∙ alone_chosen e cap n p v runs.place.node runs.place.sessions moves.joins_not
