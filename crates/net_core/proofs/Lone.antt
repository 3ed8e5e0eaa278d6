-- Following an event that one process makes.
use Rattle.std.proofs.Common.{◌≡◌, ℕ, ℤ, pos, Bool, true, false, cond, List, [], ◌∷◌, ◌++◌, refl, sym, ap, ◌∙◌, subst, Option, Some, None, is_some}
use Rattle.std.specs.Prelude.{slice_get}
use Rattle.std.proofs.lemmas.Option.{none-some, same_Some}
use Rattle.std.specs.FinMap as fin
use Rattle.chor_base.specs.declared.names.NameId.{NameId}
use Rattle.chor_base.specs.declared.value.Load.{Load}
use Rattle.chor_base.specs.declared.value.Load.TheVariants.{Value as Carries, Label as Picks}
use Rattle.chor_base.specs.declared.event.Event.{Event}
use Rattle.chor_base.specs.declared.event.Event.TheVariants as event
use Rattle.chor_base.specs.declared.event.Why.TheVariants.{Full}
use Rattle.chor_base.specs.Expr.{term_of, value_of}
use Rattle.chor_base.specs.Meaning.{Hosts}
use Rattle.chor_base.specs.NameMap.{Variables}
use Rattle.endpoint_code.specs.declared.code.CodeNode.{CodeNode}
use Rattle.endpoint_code.specs.declared.code.CodeNode.TheVariants.{Join, Send, Recv, Pick, Branch, Throw, Catch, Set, Show, Host, If, Call, End}
use Rattle.endpoint_code.specs.declared.endpoints.Endpoints.{Endpoints}
use Rattle.endpoint_code.specs.declared.endpoints.Channel.{Channel}
use Rattle.endpoint_code.specs.Network.{Sessions, Machine, NetworkState, Place, Made, Makes, Taking, Goes, takes, takes_from, went, puts, put_if, has_room, part_load, moved, with_queue, queue_of, node_makes, place_makes, machine_makes, makes, place_of, PlaceAnswers, MachineAnswers, takes_value, takes_label, takes_part, joiners, begun, starts, starts_with, channel_starts, channel_of, paired, NetworkSteps, acts, begins}
use Rattle.endpoint_machine.specs.declared.head.Head.{Head}
use Rattle.endpoint_machine.specs.declared.head.Head.TheVariants as head
use Rattle.endpoint_machine.specs.Heads.{node_head, place_head, head_of, sends_on, takes_on}
use Rattle.endpoint_machine.specs.Acts.{node_load, place_load, load_of, node_takes, place_takes, taking_of, is_call_event}
use Rattle.endpoint_machine.specs.Places.{StandsAt}
use Rattle.endpoint_machine.specs.Steps.{CanMake}
use Rattle.endpoint_machine.proofs.Actings.{alone_there, answers_alike, made_event, makes_there}
use Rattle.net_core.specs.Follows.{IsStep, HasFollowed, MayMake, maker_of}
use Rattle.net_core.specs.Heads.{Shows, steps_of, why_at, why_of}
use Rattle.net_core.specs.Steps.{HasStepped}
use Rattle.net_core.specs.Views.{NetworkView, Becomes}
use Rattle.net_core.proofs.Moves.{free_answers}
use Rattle.net_core.proofs.Capped.{node_freely}
use Rattle.net_core.proofs.Alone.{steps_freely}
use Rattle.net_core.proofs.Makers.{same_made, made_maker, moves_at, may_step, may_chosen}

abbrev pub event_in : Option Made → Event → Event
event_in None d = d
event_in (Some (Makes x k)) d = x

pub one_event : {o : Option Made} {x y : Event} {k m : NetworkState} → o ≡ Some (Makes x k) → o ≡ Some (Makes y m) → x ≡ y
one_event {x = x} h i = ap (λ (o : Option Made). event_in o x) (sym h ∙ i)

-- ---- sending

one_lane : (t s : ℕ) (d a c b : NameId) → Some (head.Out t d c) ≡ Some (head.Out s a b) → (t ≡ s) × (d ≡ a) × (c ≡ b)
one_lane t s d a c b h = (cc, cc, cc)

puts_as : (cap : Option ℕ) (n : NetworkState) (p s : ℕ) (a b c : NameId) (o : Option (ℕ × NameId)) (u : Option Load) (l : Load) → has_room cap (queue_of n (s, a, b)) ≡ true → sends_on o c ≡ Some (head.Out s a b) → u ≡ Some l → (k : NetworkState) × (puts cap n p c o u ≡ Some (Makes (event.Send p s a b l) k))
puts_as cap n p s a b c None u l room h i = absurd (none-some _ h)
puts_as cap n p s a b c (Some (t, d)) None l room h i = absurd (none-some l i)
puts_as cap n p s a b c (Some (t, d)) (Some r) l room h i =
    let (es, ea, eb) = one_lane t s d a c b h in
    let el = same_Some r l i in
    let here : has_room cap (queue_of n (t, d, c)) ≡ true = ap (λ (z : ℕ). has_room cap (queue_of n (z, d, c))) es ∙ ap (λ (z : NameId). has_room cap (queue_of n (s, z, c))) ea ∙ ap (λ (z : NameId). has_room cap (queue_of n (s, a, z))) eb ∙ room in
    (with_queue n (t, d, c) (queue_of n (t, d, c) ++ r ∷ []), ap (λ (y : Bool). put_if y n p (t, d, c) r) here ∙ ap (λ (x : Event). Some (Makes x (with_queue n (t, d, c) (queue_of n (t, d, c) ++ r ∷ [])))) (ap (λ (z : ℕ). event.Send p z d c r) es ∙ ap (λ (z : NameId). event.Send p s z c r) ea ∙ ap (λ (z : NameId). event.Send p s a z r) eb ∙ ap (λ (z : Load). event.Send p s a b z) el))

node_sends : (cap : Option ℕ) (n : NetworkState) (p s : ℕ) (a b : NameId) (v : ℤ) (vars : Variables) (m : Sessions) (node : CodeNode) (l : Load) → has_room cap (queue_of n (s, a, b)) ≡ true → node_head m node ≡ Some (head.Out s a b) → node_load vars m node ≡ Some l → (k : NetworkState) × (node_makes cap n p v vars m node ≡ Some (Makes (event.Send p s a b l) k))
node_sends cap n p s a b v vars m (Send j c e next) l room h i = puts_as cap (moved n p next vars m) p s a b c (fin.get m j.0) (Some (Carries (value_of (term_of e) vars))) l room h i
node_sends cap n p s a b v vars m (Pick j c r next) l room h i = puts_as cap (moved n p next vars m) p s a b c (fin.get m j.0) (Some (Picks r)) l room h i
node_sends cap n p s a b v vars m (Throw j c g next) l room h i = puts_as cap (moved n p next vars (fin.remove m g.0)) p s a b c (fin.get m j.0) (part_load (fin.get m g.0)) l room h i
node_sends cap n p s a b v vars m (Recv j c x next) l room h i = absurd (none-some l i)
node_sends cap n p s a b v vars m (Branch j c arms) l room h i = absurd (none-some l i)
node_sends cap n p s a b v vars m (Catch j c x next) l room h i = absurd (none-some l i)
node_sends cap n p s a b v vars m (Join c r j next) l room h i = absurd (none-some l i)
node_sends cap n p s a b v vars m (Set x w next) l room h i = absurd (none-some l i)
node_sends cap n p s a b v vars m (Show w next) l room h i = absurd (none-some l i)
node_sends cap n p s a b v vars m (Host x f c d next) l room h i = absurd (none-some l i)
node_sends cap n p s a b v vars m (If w c d) l room h i = absurd (none-some l i)
node_sends cap n p s a b v vars m (Call f r ns) l room h i = absurd (none-some l i)
node_sends cap n p s a b v vars m End l room h i = absurd (none-some l i)

made_sending : (e : Endpoints) (cap : Option ℕ) (n : NetworkState) (p s : ℕ) (a b : NameId) (v : ℤ) (m : Machine) (l : Load) → has_room cap (queue_of n (s, a, b)) ≡ true → slice_get n.machines p ≡ Some m → head_of e m ≡ Some (head.Out s a b) → load_of e m ≡ Some l → (k : NetworkState) × (makes e cap n p v ≡ Some (Makes (event.Send p s a b l) k))
made_sending e cap n p s a b v m l room there h i = let r = at_place (place_of e m) h i in (r.0, ap (machine_makes e cap n p v) there ∙ r.1)
  where
    at_place : (o : Option Place) → place_head o ≡ Some (head.Out s a b) → place_load m.vars o ≡ Some l → (k : NetworkState) × (place_makes cap n p v m.vars o ≡ Some (Makes (event.Send p s a b l) k))
    at_place None h i = absurd cc
    at_place (Some q) h i = node_sends cap n p s a b v m.vars q.sessions q.node l room h i

-- a process that sends next can make that event alone
pub may_sending : (e : Endpoints) (hosts : Hosts) (cap : Option ℕ) (n : NetworkState) (p s : ℕ) (a b : NameId) (m : Machine) (l : Load) (x : Event) → has_room cap (queue_of n (s, a, b)) ≡ true → slice_get n.machines p ≡ Some m → head_of e m ≡ Some (head.Out s a b) → load_of e m ≡ Some l → (x ≡ event.Send p s a b l → MayMake e hosts cap n p x) × (MayMake e hosts cap n p x → x ≡ event.Send p s a b l)
may_sending e hosts cap n p s a b m l x room there h i = (
  λ is.
      let r = made_sending e cap n p s a b (pos 0) m l room there h i in
      record {
        answer = pos 0;
        after = r.0;
        allowed = subst (λ (o : Option Machine). MachineAnswers hosts e o (pos 0)) (sym there) (free_answers e hosts m (head.Out s a b) (pos 0) h (λ no. cc));
        made = r.1 ∙ ap (λ (y : Event). Some (Makes y r.0)) (sym is);
      },
  λ may. one_event may.made (made_sending e cap n p s a b may.answer m l room there h i).1,
)

-- it can't where its queue is full
pub may_not_send : (e : Endpoints) (hosts : Hosts) (cap : Option ℕ) (n : NetworkState) (p s : ℕ) (a b : NameId) (x : Event) → Shows e n p (head.Out s a b) → has_room cap (queue_of n (s, a, b)) ≡ false → MayMake e hosts cap n p x → ⊥
may_not_send e hosts cap n p s a b x t full may =
    let there = t.stands.there in
    let free = steps_freely e cap n t.stands.machine (sym (ap (steps_of e cap n) there) ∙ may_step e hosts cap n p x may) in
    let none : why_at e cap n p ≡ None = ap (why_of e cap n) there ∙ free in
    let why : why_at e cap n p ≡ Some (Full s a b) = t.waits cap refl ∙ ap (λ (r : Bool). cond r None (Some (Full s a b))) full in
    let clash : None ≡ Some (Full s a b) = sym none ∙ why in
    cc

-- ---- taking

takes_as : (n : NetworkState) (p s : ℕ) (a b c : NameId) (o : Option (ℕ × NameId)) (f : Load → Option Taking) → takes_on o c ≡ Some (head.Take s a b) → takes n p c o f ≡ takes_from n p (s, a, b) f (queue_of n (s, a, b))
takes_as n p s a b c None f h = absurd cc
takes_as n p s a b c (Some (t, d)) f h =
    let es : t ≡ s = cc in
    let ea : c ≡ a = cc in
    let eb : d ≡ b = cc in
    ap (λ (z : ℕ). takes_from n p (z, c, d) f (queue_of n (z, c, d))) es ∙ ap (λ (z : NameId). takes_from n p (s, z, d) f (queue_of n (s, z, d))) ea ∙ ap (λ (z : NameId). takes_from n p (s, a, z) f (queue_of n (s, a, z))) eb

node_taken : (cap : Option ℕ) (n : NetworkState) (p s : ℕ) (a b : NameId) (v : ℤ) (vars : Variables) (m : Sessions) (node : CodeNode) → node_head m node ≡ Some (head.Take s a b) → node_makes cap n p v vars m node ≡ takes_from n p (s, a, b) (λ l. node_takes vars m node l) (queue_of n (s, a, b))
node_taken cap n p s a b v vars m (Recv j c x next) h = takes_as n p s a b c (fin.get m j.0) (takes_value next vars m x) h
node_taken cap n p s a b v vars m (Branch j c arms) h = takes_as n p s a b c (fin.get m j.0) (takes_label arms vars m) h
node_taken cap n p s a b v vars m (Catch j c x next) h = takes_as n p s a b c (fin.get m j.0) (takes_part next vars m x) h
node_taken cap n p s a b v vars m (Send j c e next) h = absurd (no_out (fin.get m j.0) c h)
  where
    no_out : (o : Option (ℕ × NameId)) (c : NameId) → sends_on o c ≡ Some (head.Take s a b) → ⊥
    no_out None c h = cc
    no_out (Some (t, d)) c h = cc
node_taken cap n p s a b v vars m (Pick j c r next) h = absurd (no_out (fin.get m j.0) c h)
  where
    no_out : (o : Option (ℕ × NameId)) (c : NameId) → sends_on o c ≡ Some (head.Take s a b) → ⊥
    no_out None c h = cc
    no_out (Some (t, d)) c h = cc
node_taken cap n p s a b v vars m (Throw j c g next) h = absurd (no_out (fin.get m j.0) c h)
  where
    no_out : (o : Option (ℕ × NameId)) (c : NameId) → sends_on o c ≡ Some (head.Take s a b) → ⊥
    no_out None c h = cc
    no_out (Some (t, d)) c h = cc
node_taken cap n p s a b v vars m (Join c r j next) h = absurd cc
node_taken cap n p s a b v vars m (Set x w next) h = absurd cc
node_taken cap n p s a b v vars m (Show w next) h = absurd cc
node_taken cap n p s a b v vars m (Host x f c d next) h = absurd cc
node_taken cap n p s a b v vars m (If w c d) h = absurd cc
node_taken cap n p s a b v vars m (Call f r ns) h = absurd cc
node_taken cap n p s a b v vars m End h = absurd cc

made_taking : (e : Endpoints) (cap : Option ℕ) (n : NetworkState) (p s : ℕ) (a b : NameId) (v : ℤ) (m : Machine) → slice_get n.machines p ≡ Some m → head_of e m ≡ Some (head.Take s a b) → makes e cap n p v ≡ takes_from n p (s, a, b) (taking_of e m) (queue_of n (s, a, b))
made_taking e cap n p s a b v m there h = ap (machine_makes e cap n p v) there ∙ at_place (place_of e m) h
  where
    at_place : (o : Option Place) → place_head o ≡ Some (head.Take s a b) → place_makes cap n p v m.vars o ≡ takes_from n p (s, a, b) (place_takes m.vars o) (queue_of n (s, a, b))
    at_place None h = absurd cc
    at_place (Some q) h = node_taken cap n p s a b v m.vars q.sessions q.node h

-- the next action of a process, as its machine has it
pub taker : (e : Endpoints) (n : NetworkState) (p : ℕ) (h : Head) → (t : Shows e n p h) → head_of e t.stands.machine ≡ Some h
taker e n p h t = ap place_head t.stands.at_node.place ∙ t.head

-- a process that takes from an empty queue, or doesn't take the first load, makes nothing
pub may_not_take : (e : Endpoints) (hosts : Hosts) (cap : Option ℕ) (n : NetworkState) (p s : ℕ) (a b : NameId) (m : Machine) (x : Event) → slice_get n.machines p ≡ Some m → head_of e m ≡ Some (head.Take s a b) → queue_of n (s, a, b) ≡ [] → MayMake e hosts cap n p x → ⊥
may_not_take e hosts cap n p s a b m x there h q may =
    let no : None ≡ Some (Makes x may.after) = sym (made_taking e cap n p s a b may.answer m there h ∙ ap (takes_from n p (s, a, b) (taking_of e m)) q) ∙ may.made in cc

-- a process that takes a first load can make that event alone, if it takes the load
pub may_taking : (e : Endpoints) (hosts : Hosts) (cap : Option ℕ) (n : NetworkState) (p s : ℕ) (a b : NameId) (m : Machine) (l : Load) (rest : List Load) (x : Event) → slice_get n.machines p ≡ Some m → head_of e m ≡ Some (head.Take s a b) → queue_of n (s, a, b) ≡ l ∷ rest
    → (is_some (taking_of e m l) ≡ true → x ≡ event.Recv p s a b l → MayMake e hosts cap n p x) × (MayMake e hosts cap n p x → (is_some (taking_of e m l) ≡ true) × (x ≡ event.Recv p s a b l))
may_taking e hosts cap n p s a b m l rest x there h q = (λ f is. forth (taking_of e m l) refl f is, λ may. back (taking_of e m l) may (sym (made may.answer) ∙ may.made))
  where
    made : (v : ℤ) → makes e cap n p v ≡ went n p (s, a, b) l rest (taking_of e m l)
    made v = made_taking e cap n p s a b v m there h ∙ ap (takes_from n p (s, a, b) (taking_of e m)) q

    forth : (o : Option Taking) → taking_of e m l ≡ o → is_some o ≡ true → x ≡ event.Recv p s a b l → MayMake e hosts cap n p x
    forth None t f is = absurd cc
    forth (Some (Goes next vars ss)) t f is = record {
      answer = pos 0;
      after = with_queue (moved n p next vars ss) (s, a, b) rest;
      allowed = subst (λ (o : Option Machine). MachineAnswers hosts e o (pos 0)) (sym there) (free_answers e hosts m (head.Take s a b) (pos 0) h (λ no. cc));
      made = made (pos 0) ∙ ap (went n p (s, a, b) l rest) t ∙ ap (λ (y : Event). Some (Makes y (with_queue (moved n p next vars ss) (s, a, b) rest))) (sym is);
    }

    back : (o : Option Taking) → (may : MayMake e hosts cap n p x) → went n p (s, a, b) l rest o ≡ Some (Makes x may.after) → (is_some o ≡ true) × (x ≡ event.Recv p s a b l)
    back None may i = absurd cc
    back (Some (Goes next vars ss)) may i = (refl, one_event i refl)

-- ---- acting alone

pub may_acting : (e : Endpoints) (hosts : Hosts) (cap : Option ℕ) (n : NetworkState) (p : ℕ) (m : Machine) (node : CodeNode) (ss : Sessions) (x : Event) → slice_get n.machines p ≡ Some m → StandsAt e m node ss → head_of e m ≡ Some head.Local → (CanMake e hosts p m x → MayMake e hosts cap n p x) × (MayMake e hosts cap n p x → CanMake e hosts p m x)
may_acting e hosts cap n p m node ss x there st h = (
  λ (new, a). record {
    answer = a.answer;
    after = moved n p new.at new.vars new.sessions;
    allowed = subst (λ (o : Option Machine). MachineAnswers hosts e o a.answer) (sym there) a.allowed;
    made = ap (machine_makes e cap n p a.answer) there ∙ a.made cap n;
  },
  λ may.
      let is = alone_there e m node ss st h in
      let here : MachineAnswers hosts e (Some m) may.answer = subst (λ (o : Option Machine). MachineAnswers hosts e o may.answer) there may.allowed in
      let answers = (answers_alike hosts m.vars ss node may.answer).1 (subst (λ (o : Option Place). PlaceAnswers hosts m.vars o may.answer) st.place here) in
      let made : node_makes cap n p may.answer m.vars ss node ≡ Some (Makes x may.after) = sym (ap (machine_makes e cap n p may.answer) there ∙ ap (place_makes cap n p may.answer m.vars) st.place) ∙ may.made in
      let freely = node_freely e cap n p may.answer m.vars ss node (moves_at e cap n p may.answer m.vars ss node x may.after made).waits_not in
      makes_there e hosts p m node ss may.answer x st is answers (made_event n p may.answer m.vars ss node x may.after is (sym freely ∙ made)),
)

-- ---- following

no_start : (e : Endpoints) (n : NetworkState) (c : NameId) (ps : List ℕ) (x : Event) (m : NetworkState) → starts e n c ps ≡ Some (Makes x m) → maker_of x ≡ None
no_start e n c ps x m h = at_channel (channel_of e.channels c) h
  where
    at_joiners : (k : Channel) (qs : List (NameId × ℕ)) (o : Option (List (ℕ × Machine))) → begun e n c k qs o ≡ Some (Makes x m) → maker_of x ≡ None
    at_joiners k qs None i = absurd cc
    at_joiners k qs (Some ms) i = ap maker_of (one_event i refl)

    at_pairs : (k : Channel) (o : Option (List (NameId × ℕ))) → starts_with e n c k o ≡ Some (Makes x m) → maker_of x ≡ None
    at_pairs k None i = absurd cc
    at_pairs k (Some []) i = absurd cc
    at_pairs k (Some (q ∷ qs)) i = at_joiners k (q ∷ qs) (joiners e n c n.sid (q ∷ qs)) i

    at_channel : (o : Option Channel) → channel_starts e n c ps o ≡ Some (Makes x m) → maker_of x ≡ None
    at_channel None i = absurd cc
    at_channel (Some k) i = at_pairs k (paired k.active ps) i

-- an event that its process can't make is no step
pub no_step : (e : Endpoints) (hosts : Hosts) (cap : Option ℕ) (n : NetworkState) (p : ℕ) (x : Event) → maker_of x ≡ Some p → (MayMake e hosts cap n p x → ⊥) → IsStep e hosts cap n x → ⊥
no_step e hosts cap n p x by cannot (m, acts q v allowed made) =
    let other : maker_of x ≡ Some q = made_maker e cap n q x v m made in
    let both : Some p ≡ Some q = sym by ∙ other in
    let same : p ≡ q = cc in
    let may : MayMake e hosts cap n q x = record { answer = v; after = m; allowed = allowed; made = made } in
    cannot (subst (λ (r : ℕ). MayMake e hosts cap n r x) (sym same) may)
no_step e hosts cap n p x by cannot (m, begins c ps made) = let no : None ≡ Some p = sym (no_start e n c ps x m made) ∙ by in cc

pub is_step : (e : Endpoints) (hosts : Hosts) (cap : Option ℕ) (n : NetworkState) (p : ℕ) (x : Event) → MayMake e hosts cap n p x → IsStep e hosts cap n x
is_step e hosts cap n p x may = (may.after, acts p may.answer may.allowed may.made)

-- what the process has made is the event, if that is no host call
pub followed : (hosts : Hosts) (old new : NetworkView) (p : ℕ) (x : Event) → is_call_event x ≡ false → MayMake old.endpoints hosts old.capacity old.state p x → HasStepped hosts old p new → HasFollowed hosts old x new
followed hosts old new p x other may s =
    let made = sym (may_chosen old.endpoints hosts old.capacity old.state p x may s.chooses.answer) ∙ s.chooses.made in
    let same : s.event ≡ x = one_event made (same_made old.endpoints old.capacity old.state p s.chooses.answer may.answer x may.after other may.made) in
    record {
      state = s.state;
      becomes = subst (λ (y : Event). Becomes old new y s.state) same s.becomes;
      steps = subst (λ (y : Event). NetworkSteps old.endpoints hosts old.capacity old.state y s.state) same (acts p s.chooses.answer s.chooses.allowed made);
    }
