-- Following a host call with the answer that it tells.
use Rattle.std.proofs.Common.{◌≡◌, ◌<◌, ℕ, ℤ, Bool, true, false, List, [], ◌∷◌, ◌++◌, length, get_or, refl, sym, ap, ◌∙◌, subst, Option, Some, None}
use Rattle.std.specs.Prelude.{slice_get, slice_set}
use Rattle.std.proofs.lemmas.Bool.{true≢false}
use Rattle.std.proofs.lemmas.List.{map-set}
use Rattle.std.proofs.lemmas.Option.{none-some, same_Some}
use Rattle.chor_base.specs.declared.names.NameId.{NameId}
use Rattle.chor_base.specs.declared.value.Load.{Load}
use Rattle.chor_base.specs.declared.event.Event.{Event}
use Rattle.chor_base.specs.declared.event.Entry.{Entry}
use Rattle.chor_base.specs.Events.{Triple}
use Rattle.chor_base.specs.Meaning.{Hosts}
use Rattle.chor_base.specs.NameMap.{Variables}
use Rattle.endpoint_code.specs.declared.code.CodeNode.{CodeNode}
use Rattle.endpoint_code.specs.declared.code.CodeNode.TheVariants.{Join, Send, Recv, Pick, Branch, Throw, Catch, Set, Show, Host, If, Call, End}
use Rattle.endpoint_code.specs.declared.endpoints.Endpoints.{Endpoints}
use Rattle.endpoint_code.specs.Network.{Sessions, Machine, NetworkState, Makes, Taking, Goes, takes, takes_from, went, puts, put_if, queue_of, has_room, moved, node_makes, machine_makes, makes, MachineAnswers, NetworkSteps, acts}
use Rattle.endpoint_machine.specs.Acts.{answer_in, asks_at, asks_next, is_call_event, place_asks}
use Rattle.endpoint_machine.specs.Steps.{HasBeenTold}
use Rattle.endpoint_machine.specs.Views.{MachineView}
use Rattle.post_office.specs.Lanes.{QueuesView}
use Rattle.session_starts.specs.Machines.{standing_of, AreCounted, number_of}
use Rattle.net_core.specs.Follows.{HasFollowed, MayMake}
use Rattle.net_core.specs.Views.{NetworkView, IsSame, state_of}
use Rattle.net_core.proofs.Fields.{fields}
use Rattle.net_core.proofs.Makers.{event_made, runs}
use Rattle.net_core.proofs.Rooms.{mapped_at}
use Rattle.net_core.proofs.Scopes.{runner_at}

-- ---- a host call is made where one is asked, by the answer that it tells

put_no_call : (b : Bool) (n : NetworkState) (p : ℕ) (t : Triple) (l : Load) (x : Event) (k : NetworkState) → put_if b n p t l ≡ Some (Makes x k) → is_call_event x ≡ false
put_no_call true n p t l x k h = sym (ap is_call_event (event_made h))
put_no_call false n p t l x k h = absurd (none-some _ h)

puts_no_call : (cap : Option ℕ) (n : NetworkState) (p : ℕ) (b : NameId) (o : Option (ℕ × NameId)) (l : Option Load) (x : Event) (k : NetworkState) → puts cap n p b o l ≡ Some (Makes x k) → is_call_event x ≡ false
puts_no_call cap n p b (Some (s, a)) (Some l) x k h = put_no_call (has_room cap (queue_of n (s, a, b))) n p (s, a, b) l x k h
puts_no_call cap n p b (Some t) None x k h = absurd (none-some _ h)
puts_no_call cap n p b None l x k h = absurd (none-some _ h)

takes_no_call : (n : NetworkState) (p : ℕ) (a : NameId) (o : Option (ℕ × NameId)) (f : Load → Option Taking) (x : Event) (k : NetworkState) → takes n p a o f ≡ Some (Makes x k) → is_call_event x ≡ false
takes_no_call n p a None f x k h = absurd (none-some _ h)
takes_no_call n p a (Some (s, b)) f x k h = go (queue_of n (s, a, b)) h
  where
    taken : (l : Load) (rest : List Load) (o : Option Taking) → went n p (s, a, b) l rest o ≡ Some (Makes x k) → is_call_event x ≡ false
    taken l rest None i = absurd (none-some _ i)
    taken l rest (Some (Goes next vars m)) i = sym (ap is_call_event (event_made i))

    go : (q : List Load) → takes_from n p (s, a, b) f q ≡ Some (Makes x k) → is_call_event x ≡ false
    go [] i = absurd (none-some _ i)
    go (l ∷ rest) i = taken l rest (f l) i

-- at a node that makes a host call, a host function is asked, and answers as the event tells
record MakesCall (node : CodeNode) (v : ℤ) (x : Event) : Type 0 where
  pub asks : asks_at node ≡ true
  pub answer : v ≡ answer_in x

call_made : (cap : Option ℕ) (n : NetworkState) (p : ℕ) (v : ℤ) (vars : Variables) (m : Sessions) (node : CodeNode) (x : Event) (k : NetworkState) → is_call_event x ≡ true → node_makes cap n p v vars m node ≡ Some (Makes x k) → MakesCall node v x
call_made cap n p v vars m (Host y f a b next) x k is h = record { asks = refl; answer = ap answer_in (event_made h) }
call_made cap n p v vars m (Set y e next) x k is h = absurd (true≢false (sym is ∙ sym (ap is_call_event (event_made h))))
call_made cap n p v vars m (Show e next) x k is h = absurd (true≢false (sym is ∙ sym (ap is_call_event (event_made h))))
call_made cap n p v vars m (If e c d) x k is h = absurd (true≢false (sym is ∙ sym (ap is_call_event (event_made h))))
call_made cap n p v vars m (Send j b e next) x k is h = absurd (true≢false (sym is ∙ puts_no_call cap _ p b _ _ x k h))
call_made cap n p v vars m (Pick j b l next) x k is h = absurd (true≢false (sym is ∙ puts_no_call cap _ p b _ _ x k h))
call_made cap n p v vars m (Throw j b g next) x k is h = absurd (true≢false (sym is ∙ puts_no_call cap _ p b _ _ x k h))
call_made cap n p v vars m (Recv j a y next) x k is h = absurd (true≢false (sym is ∙ takes_no_call n p a _ _ x k h))
call_made cap n p v vars m (Branch j a arms) x k is h = absurd (true≢false (sym is ∙ takes_no_call n p a _ _ x k h))
call_made cap n p v vars m (Catch j a g next) x k is h = absurd (true≢false (sym is ∙ takes_no_call n p a _ _ x k h))
call_made cap n p v vars m (Join c r j next) x k is h = absurd (none-some _ h)
call_made cap n p v vars m (Call f q ss) x k is h = absurd (none-some _ h)
call_made cap n p v vars m End x k is h = absurd (none-some _ h)

-- a process can make a host call: it asks a host function next, which may answer as the event tells, and then the event is made
pub record CanCall (e : Endpoints) (hosts : Hosts) (cap : Option ℕ) (n : NetworkState) (p : ℕ) (x : Event) (after : NetworkState) (m : Machine) : Type 0 where
  pub asks : asks_next e m ≡ true
  pub allowed : MachineAnswers hosts e (Some m) (answer_in x)
  pub made : machine_makes e cap n p (answer_in x) (Some m) ≡ Some (Makes x after)

pub can_call : (e : Endpoints) (hosts : Hosts) (cap : Option ℕ) (n : NetworkState) (p : ℕ) (x : Event) (m : Machine) → (may : MayMake e hosts cap n p x) → is_call_event x ≡ true → slice_get n.machines p ≡ Some m → CanCall e hosts cap n p x may.after m
can_call e hosts cap n p x m may is there =
    let r = runs e hosts cap n p x may in
    let same : r.machine ≡ m = same_Some r.machine m (sym r.there ∙ there) in
    let call = call_made cap n p may.answer r.machine.vars r.place.sessions r.place.node x may.after is r.made in
    record {
      asks = subst (λ (k : Machine). asks_next e k ≡ true) same (ap place_asks r.stands ∙ call.asks);
      allowed = subst (λ (o : Option Machine). MachineAnswers hosts e o (answer_in x)) there (subst (λ (v : ℤ). MachineAnswers hosts e (slice_get n.machines p) v) call.answer may.allowed);
      made =
          ap (λ (v : ℤ). machine_makes e cap n p v (Some m)) (sym call.answer)
          ∙ ap (machine_makes e cap n p may.answer) (sym there)
          ∙ may.made;
    }

-- the event that a process makes that goes past a host call is the one whose answer it was told
told_event : (e : Endpoints) (hosts : Hosts) (cap : Option ℕ) (n : NetworkState) (p : ℕ) (x : Event) (after : NetworkState) (m new : Machine) → CanCall e hosts cap n p x after m → HasBeenTold e hosts p m (answer_in x) new → machine_makes e cap n p (answer_in x) (Some m) ≡ Some (Makes x (moved n p new.at new.vars new.sessions))
told_event e hosts cap n p x after m new can told =
    let made : machine_makes e cap n p (answer_in x) (Some m) ≡ Some (Makes told.event (moved n p new.at new.vars new.sessions)) =
    ap (λ (v : ℤ). machine_makes e cap n p v (Some m)) (sym told.by_it) ∙ told.acted.made cap n
    in
    made ∙ ap (λ (y : Event). Some (Makes y (moved n p new.at new.vars new.sessions))) (event_made (sym made ∙ can.made))

-- so the network makes it
pub told_made : (e : Endpoints) (hosts : Hosts) (cap : Option ℕ) (n : NetworkState) (p : ℕ) (x : Event) (after : NetworkState) (m new : Machine) → CanCall e hosts cap n p x after m → slice_get n.machines p ≡ Some m → HasBeenTold e hosts p m (answer_in x) new → makes e cap n p (answer_in x) ≡ Some (Makes x (record n { machines = slice_set n.machines p new }))
told_made e hosts cap n p x after m new can there told = ap (machine_makes e cap n p (answer_in x)) there ∙ told_event e hosts cap n p x after m new can told

-- where a process of the network has gone past a host call, the network has made it
pub told_steps : (e : Endpoints) (hosts : Hosts) (cap : Option ℕ) (ms : List MachineView) (q : QueuesView) (sid p : ℕ) (x : Event) (m t : MachineView) → MayMake e hosts cap (state_of ms q sid) p x → is_call_event x ≡ true → AreCounted ms → p < length ms → m ≡ get_or ms p m → HasBeenTold e hosts m.number m.machine (answer_in x) t.machine → NetworkSteps e hosts cap (state_of ms q sid) x (state_of (slice_set ms p t) q sid)
told_steps e hosts cap ms q sid p x m t may is counted lt here told =
    let n : NetworkState = state_of ms q sid in
    let there : slice_get n.machines p ≡ Some m.machine = runner_at ms p m lt here in
    let number : m.number ≡ p = counted p m.number (mapped_at number_of ms p m lt here) in
    let can = can_call e hosts cap n p x m.machine may is there in
    acts p (answer_in x) (subst (λ (o : Option Machine). MachineAnswers hosts e o (answer_in x)) (sym there) can.allowed)
    (told_made e hosts cap n p x may.after m.machine t.machine can there (subst (λ (i : ℕ). HasBeenTold e hosts i m.machine (answer_in x) t.machine) number told)
    ∙ ap (λ (a : List Machine). Some (Makes x (record n { machines = a }))) (sym (map-set standing_of ms p t)))

pub told_follows : {e : Endpoints} {cap : Option ℕ} (ms : List MachineView) (q : QueuesView) {sid : ℕ} {h : List Entry} {res : List Bool} {stop : Bool} {v : NetworkView} → fields e cap ms q sid h res stop ≡ v → (hosts : Hosts) (new : NetworkView) (x : Event) (n : NetworkState)
    → new.endpoints ≡ e → new.capacity ≡ cap → new.state ≡ n → new.history ≡ h ++ record { worker = 0; event = x } ∷ [] → new.stopped ≡ stop → NetworkSteps e hosts cap (state_of ms q sid) x n → HasFollowed hosts v x new
told_follows ms q is hosts new x n a t b d z steps =
    subst (λ (w : NetworkView). HasFollowed hosts w x new) is (record { state = n; becomes = record { endpoints = a; capacity = t; state = b; history = d; stopped = z }; steps = steps })

-- ---- room changes nothing

pub may_still : (hosts : Endpoints → Hosts) (v w : NetworkView) (p : ℕ) (x : Event) → IsSame v w → MayMake v.endpoints (hosts v.endpoints) v.capacity v.state p x → MayMake w.endpoints (hosts w.endpoints) w.capacity w.state p x
may_still hosts v w p x same may =
    subst (λ (e : Endpoints). MayMake e (hosts e) w.capacity w.state p x) (sym same.endpoints)
    (subst (λ (k : Option ℕ). MayMake v.endpoints (hosts v.endpoints) k w.state p x) (sym same.capacity)
    (subst (λ (n : NetworkState). MayMake v.endpoints (hosts v.endpoints) v.capacity n p x) (sym same.state) may))

pub followed_after : (hosts : Endpoints → Hosts) (v w new : NetworkView) (x : Event) → IsSame v w → HasFollowed (hosts w.endpoints) w x new → HasFollowed (hosts v.endpoints) v x new
followed_after hosts v w new x same f =
    let b = f.becomes in
    record {
      state = f.state;
      becomes = record {
        endpoints = b.endpoints ∙ same.endpoints;
        capacity = b.capacity ∙ same.capacity;
        state = b.state;
        history = b.history ∙ ap (λ (es : List Entry). es ++ record { worker = 0; event = x } ∷ []) same.history;
        stopped = b.stopped ∙ same.stopped;
      };
      steps = subst (λ (e : Endpoints). NetworkSteps e (hosts e) v.capacity v.state x f.state) same.endpoints
          (subst (λ (k : Option ℕ). NetworkSteps w.endpoints (hosts w.endpoints) k v.state x f.state) same.capacity
          (subst (λ (n : NetworkState). NetworkSteps w.endpoints (hosts w.endpoints) w.capacity n x f.state) same.state f.steps));
    }
