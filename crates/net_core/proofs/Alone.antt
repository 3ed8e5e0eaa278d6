-- Events of one process.
use Rattle.std.proofs.Common.{◌≡◌, ℕ, ◌<◌, Bool, true, false, List, [], ◌∷◌, length, get_or, refl, sym, ap, ◌∙◌, subst, Option, Some, None, arith, is_some, length-set, cond}
use Rattle.std.specs.Prelude.{slice_get, slice_set, map, All, ℤ}
use Rattle.std.proofs.lemmas.List.{map-set}
use Rattle.std.proofs.lemmas.List.Elements.{All-set}
use Rattle.std.proofs.lemmas.Option.{none-some, same_Some}
use Rattle.std.proofs.lemmas.Bool.{true≢false}
use Rattle.chor_base.specs.declared.names.NameId.{NameId}
use Rattle.chor_base.specs.declared.event.Event.{Event}
use Rattle.chor_base.specs.declared.event.Why.{Why}
use Rattle.chor_base.specs.declared.event.Why.TheVariants.{Wrong}
use Rattle.chor_base.specs.declared.value.Load.{Load}
use Rattle.chor_base.specs.Meaning.{Hosts}
use Rattle.endpoint_code.specs.declared.code.CodeNode.{CodeNode}
use Rattle.endpoint_code.specs.declared.code.CodeNode.TheVariants.{Join, Send, Recv, Pick, Branch, Throw, Catch, Set, Show, Host, If, Call, End}
use Rattle.endpoint_code.specs.declared.endpoints.Endpoints.{Endpoints}
use Rattle.endpoint_code.specs.Network.{Machine, NetworkState, Sessions, Place, Makes, place_at, makes, machine_makes, MachineAnswers, loads_for}
use Rattle.endpoint_code.specs.NetworkRuns.{has_ended, waits_for, can_step}
use Rattle.endpoint_code.specs.Scheduled.{Chooses, chosen_at}
use Rattle.endpoint_machine.specs.declared.head.Head.{Head}
use Rattle.endpoint_machine.specs.declared.head.Head.TheVariants as head
use Rattle.endpoint_machine.specs.Bound.{IsBound}
use Rattle.endpoint_machine.specs.Heads.{place_head, head_of}
use Rattle.endpoint_machine.specs.Acts.{node_takes, place_takes, taking_of}
use Rattle.endpoint_machine.specs.Views.{MachineView}
use Rattle.endpoint_machine.proofs.Makings.{fits_there}
use Rattle.post_office.specs.Lanes.{QueuesView, loads_in}
use Rattle.session_starts.specs.Machines.{standing_of}
use Rattle.net_core.specs.Machines.{is_join, ActsWith, can_act, fits_first}
use Rattle.net_core.specs.Heads.{Stands, Shows, steps_at, steps_of, why_at, why_of, ended_of, joins_at_all, is_joining}
use Rattle.session_starts.specs.Machines.{AreCounted, number_of}
use Rattle.net_core.specs.Views.{IsSound, state_of}
use Rattle.net_core.proofs.Capped.{machine_freely}
use Rattle.net_core.proofs.Scopes.{waits_empty, runner_at}
use Rattle.net_core.proofs.Fields.{stands_there}
use Rattle.post_office.proofs.Lanes.{mapped_put}
use Rattle.net_core.proofs.Rooms.{mapped_at}

-- a process that can step waits for nothing
pub steps_freely : (e : Endpoints) (cap : Option ℕ) (n : NetworkState) (m : Machine) → can_step e cap n m ≡ true → waits_for e cap n m ≡ None
steps_freely e cap n m h = go (has_ended e m) (waits_for e cap n m) h
  where
    go : (b : Bool) (o : Option Why) → cond b false (cond (is_some o) false true) ≡ true → o ≡ None
    go true o h = absurd (true≢false (sym h))
    go false None h = refl
    go false (Some w) h = absurd (true≢false (sym h))

not_ended : (e : Endpoints) (cap : Option ℕ) (n : NetworkState) (m : Machine) → can_step e cap n m ≡ true → has_ended e m ≡ false
not_ended e cap n m h = go (has_ended e m) (waits_for e cap n m) h
  where
    go : (b : Bool) (o : Option Why) → cond b false (cond (is_some o) false true) ≡ true → b ≡ false
    go true o h = absurd (true≢false (sym h))
    go false o h = refl

pub joins_not : (e : Endpoints) (n : NetworkState) (p : ℕ) (node : CodeNode) → Stands e n p node → joins_at_all e n p ≡ false → is_join node ≡ false
joins_not e n p node s h = sym (ap is_joining (ap (place_at e) s.there ∙ s.at_node.place)) ∙ h

pub head_there : (e : Endpoints) (ms : List MachineView) (q : QueuesView) (sid p : ℕ) (r : MachineView) (h : Head) → Shows e (state_of ms q sid) p h → p < length ms → r ≡ get_or ms p r → head_of e r.machine ≡ Some h
head_there e ms q sid p r h t lt is =
    ap (head_of e) (sym (stands_there e ms q sid p r t.node t.stands lt is)) ∙ ap place_head t.stands.at_node.place ∙ t.head

-- why a process waits that takes a first load
pub waits_first : (e : Endpoints) (cap : Option ℕ) (n : NetworkState) (p s : ℕ) (a b : NameId) (l : Load) (rest : List Load) → Shows e n p (head.Take s a b) → loads_for n.queues (s, a, b) ≡ l ∷ rest → (m : Machine) → slice_get n.machines p ≡ Some m → why_at e cap n p ≡ cond (is_some (taking_of e m l)) None (Some (Wrong s a b))
waits_first e cap n p s a b l rest t queue m there =
    let st = t.stands in
    let same : st.machine ≡ m = same_Some st.machine m (sym st.there ∙ there) in
    let fits : is_some (taking_of e m l) ≡ is_some (node_takes st.machine.vars st.sessions t.node l) =
    ap (λ (k : Machine). is_some (taking_of e k l)) (sym same) ∙ ap (λ (o : Option Place). is_some (place_takes st.machine.vars o l)) st.at_node.place
    in
    ap (why_of e cap n) st.there
    ∙ fits_there e st.machine t.node st.sessions l (is_some (taking_of e m l)) st.at_node fits cap n s a b rest (ap place_head st.at_node.place ∙ t.head) queue

-- a process that can step and doesn't join acts by itself
pub acts_freely : (e : Endpoints) (cap : Option ℕ) (ms : List MachineView) (q : QueuesView) (sid p : ℕ) (r : MachineView) (h : Head) → Shows e (state_of ms q sid) p h → p < length ms → r ≡ get_or ms p r → steps_at e cap (state_of ms q sid) p ≡ true → joins_at_all e (state_of ms q sid) p ≡ false → can_act e q r h ≡ true
acts_freely e cap ms q sid p r h t lt is steps alone = go h t
  where
    n : NetworkState
    n = state_of ms q sid

    there : slice_get (state_of ms q sid).machines p ≡ Some r.machine
    there = runner_at ms p r lt is

    free : why_at e cap (state_of ms q sid) p ≡ None
    free = ap (why_of e cap (state_of ms q sid)) there ∙ steps_freely e cap (state_of ms q sid) r.machine (sym (ap (steps_of e cap (state_of ms q sid)) there) ∙ steps)

    queue : (s : ℕ) (a b : NameId) → Shows e (state_of ms q sid) p (head.Take s a b) → (ls : List Load) → loads_for (loads_in q.lanes) (s, a, b) ≡ ls → fits_first e r.machine (slice_get ls 0) ≡ true
    queue s a b t [] k = absurd (none-some _ (sym free ∙ waits_empty e cap (state_of ms q sid) p s a b t k))
    queue s a b t (l ∷ rest) k = fitting (is_some (taking_of e r.machine l)) refl
      where
        fitting : (f : Bool) → is_some (taking_of e r.machine l) ≡ f → f ≡ true
        fitting true g = refl
        fitting false g = absurd (none-some _ (sym free ∙ waits_first e cap (state_of ms q sid) p s a b l rest t k r.machine there ∙ ap (λ (f : Bool). cond f None (Some (Wrong s a b))) g))

    go : (h : Head) → Shows e (state_of ms q sid) p h → can_act e q r h ≡ true
    go (head.Out s a b) t = refl
    go (head.Take s a b) t =
        queue s a b t (loads_for (loads_in q.lanes) (s, a, b)) refl
    go head.Local t = refl
    go (head.Join c o) t = absurd (true≢false (sym (sym alone ∙ t.joining)))
    go head.Ended t = absurd (true≢false (sym (sym (not_ended e cap (state_of ms q sid) r.machine (sym (ap (steps_of e cap (state_of ms q sid)) there) ∙ steps)) ∙ sym (ap (ended_of e) there) ∙ t.ended)))

pub sound_after : (e : Endpoints) (ms : List MachineView) (p : ℕ) (r t : MachineView) → IsSound e ms → p < length ms → r ≡ get_or ms p r → t.number ≡ r.number → IsBound e t.machine → IsSound e (slice_set ms p t)
sound_after e ms p r t sound lt h number bound = record {
  faultless = sound.faultless;
  few = (let l = length-set ms p t in let k = sound.few in omega arith);
  bound = subst (All (IsBound e)) (sym (map-set standing_of ms p t)) (All-set (IsBound e) (map standing_of ms) p (standing_of t) bound sound.bound);
  counted = λ i j k. sound.counted i j (sym (ap (λ (l : List ℕ). slice_get l i) (mapped_put number_of ms p r t lt h number)) ∙ k);
}

pub alone_chosen : (e : Endpoints) (cap : Option ℕ) (n : NetworkState) (p : ℕ) (v : ℤ) (node : CodeNode) (m : Sessions) → is_join node ≡ false → chosen_at e cap n p v (Some (record { node = node; sessions = m })) ≡ makes e cap n p v
alone_chosen e cap n p v (Join c r k next) m h = absurd (true≢false h)
alone_chosen e cap n p v (Send k b x next) m h = refl
alone_chosen e cap n p v (Recv k a x next) m h = refl
alone_chosen e cap n p v (Pick k b l next) m h = refl
alone_chosen e cap n p v (Branch k a arms) m h = refl
alone_chosen e cap n p v (Throw k b g next) m h = refl
alone_chosen e cap n p v (Catch k a g next) m h = refl
alone_chosen e cap n p v (Set x w next) m h = refl
alone_chosen e cap n p v (Show w next) m h = refl
alone_chosen e cap n p v (Host x f u w next) m h = refl
alone_chosen e cap n p v (If w c d) m h = refl
alone_chosen e cap n p v (Call f o ns) m h = refl
alone_chosen e cap n p v End m h = refl

-- what a process does by itself is its choice
pub alone_chooses : (e : Endpoints) (hosts : Hosts) (cap : Option ℕ) (ms : List MachineView) (q k : QueuesView) (sid p : ℕ) (r t : MachineView) (h : Head) (x : Event) → Shows e (state_of ms q sid) p h → AreCounted ms → p < length ms → r ≡ get_or ms p r → steps_at e cap (state_of ms q sid) p ≡ true → joins_at_all e (state_of ms q sid) p ≡ false → ActsWith e hosts q r x k t → Chooses e hosts cap (state_of ms q sid) p x (state_of (slice_set ms p t) k sid)
alone_chooses e hosts cap ms q k sid p r t h x w counted lt is steps alone acts =
    let n : NetworkState = state_of ms q sid in
    let s = w.stands in
    let v = acts.answer in
    let there : slice_get n.machines p ≡ Some r.machine = runner_at ms p r lt is in
    let same = stands_there e ms q sid p r w.node s lt is in
    let free = steps_freely e cap n r.machine (sym (ap (steps_of e cap n) there) ∙ steps) in
    let number : r.number ≡ p = counted p r.number (mapped_at number_of ms p r lt is) in
    record {
      answer = v;
      allowed = subst (λ (o : Option Machine). MachineAnswers hosts e o v) (sym there) acts.allowed;
      made =
          ap (λ (o : Option Machine). chosen_at e cap n p v (place_at e o)) s.there
          ∙ ap (chosen_at e cap n p v) s.at_node.place
          ∙ alone_chosen e cap n p v w.node s.sessions (joins_not e n p w.node s alone)
          ∙ ap (machine_makes e cap n p v) s.there
          ∙ ap (λ (m : Machine). machine_makes e cap n p v (Some m)) same
          ∙ ap (λ (i : ℕ). machine_makes e cap n i v (Some r.machine)) (sym number)
          ∙ machine_freely e cap n r.number v r.machine free
          ∙ acts.moves n refl
          ∙ ap (λ (i : ℕ). Some (Makes x (let m : NetworkState = record { machines = slice_set (map standing_of ms) i t.machine; queues = loads_in k.lanes; sid = sid } in m))) number
          ∙ ap (λ (a : List Machine). Some (Makes x (let m : NetworkState = record { machines = a; queues = loads_in k.lanes; sid = sid } in m))) (sym (map-set standing_of ms p t));
    }
