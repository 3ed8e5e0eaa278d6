-- A process that can step makes an event.
use Rattle.std.proofs.Common.{◌≡◌, ℕ, ℤ, Bool, true, false, cond, List, [], ◌∷◌, refl, sym, ap, ◌∙◌, Option, Some, None, is_some}
use Rattle.std.specs.Prelude.{slice_get, All}
use Rattle.std.specs.FinMap as fin
use Rattle.std.proofs.lemmas.Bool.{and_parts, true≢false}
use Rattle.std.proofs.lemmas.Option.{none-some}
use Rattle.chor_base.specs.declared.names.NameId.{NameId}
use Rattle.chor_base.specs.declared.value.Load.{Load}
use Rattle.chor_base.specs.declared.event.Event.{Event}
use Rattle.chor_base.specs.declared.event.Event.TheVariants as event
use Rattle.chor_base.specs.declared.event.Why.TheVariants.{Empty, Full, Wrong}
use Rattle.chor_base.specs.Meaning.{Hosts}
use Rattle.chor_base.specs.NameMap.{Variables}
use Rattle.chor_host.specs.Functions.{Function, hosts_in}
use Rattle.endpoint_code.specs.declared.code.CodeNode.{CodeNode}
use Rattle.endpoint_code.specs.declared.code.CodeNode.TheVariants.{Join, Send, Recv, Pick, Branch, Throw, Catch, Set, Show, Host, If, Call, End}
use Rattle.endpoint_code.specs.declared.endpoints.Endpoints.{Endpoints}
use Rattle.endpoint_code.specs.Network.{Machine, NetworkState, Sessions, part_load, has_room, queue_of}
use Rattle.endpoint_machine.specs.declared.head.Head.{Head}
use Rattle.endpoint_machine.specs.declared.head.Head.TheVariants as head
use Rattle.endpoint_machine.specs.Acts.{is_call, knows_sessions, acts_alone, node_event, node_load, place_load, load_of, taking_of}
use Rattle.endpoint_machine.specs.Bound.{IsBound}
use Rattle.endpoint_machine.specs.Heads.{node_head, sends_on, takes_on}
use Rattle.endpoint_machine.proofs.Actings.{alone_there, makes_there}
use Rattle.endpoint_machine.proofs.Scopes.{knows}
use Rattle.net_core.specs.Follows.{MayMake}
use Rattle.net_core.specs.Heads.{Shows, steps_at, steps_of, why_at, why_of}
use Rattle.net_core.proofs.Alone.{steps_freely, waits_first}
use Rattle.net_core.proofs.Lone.{may_sending, may_taking, may_acting, taker}
use Rattle.net_core.proofs.Makers.{may_chosen}
use Rattle.net_core.proofs.Runs.{steps_no_end}
use Rattle.net_core.proofs.Scopes.{shows_from, waits_empty}
use Rattle.unfinished_runs.specs.Continuing.{AreRunnable}
use Rattle.unfinished_runs.proofs.HostAnswers.{answered}
use Rattle.unfinished_runs.proofs.Joins.{Choice, join_chooses}
use Rattle.unfinished_runs.proofs.Standing.{stands}

-- ---- the head of a node

out_there : (o : Option (ℕ × NameId)) (b : NameId) → is_some o ≡ true → (h : Head) × (sends_on o b ≡ Some h)
out_there None b h = absurd (true≢false (sym h))
out_there (Some (s, a)) b h = (head.Out s a b, refl)

take_there : (o : Option (ℕ × NameId)) (a : NameId) → is_some o ≡ true → (h : Head) × (takes_on o a ≡ Some h)
take_there None a h = absurd (true≢false (sym h))
take_there (Some (s, b)) a h = (head.Take s a b, refl)

head_there : (ss : Sessions) (node : CodeNode) → knows_sessions ss node ≡ true → is_call node ≡ false → (h : Head) × (node_head ss node ≡ Some h)
head_there ss (Join c r k next) known call = (head.Join c r, refl)
head_there ss (Send k b x next) known call = out_there (fin.get ss k.0) b known
head_there ss (Recv k a x next) known call = take_there (fin.get ss k.0) a known
head_there ss (Pick k b l next) known call = out_there (fin.get ss k.0) b known
head_there ss (Branch k a arms) known call = take_there (fin.get ss k.0) a known
head_there ss (Throw k b g next) known call = out_there (fin.get ss k.0) b (and_parts (is_some (fin.get ss k.0)) (is_some (fin.get ss g.0)) known).0
head_there ss (Catch k a g next) known call = take_there (fin.get ss k.0) a known
head_there ss (Set x v next) known call = (head.Local, refl)
head_there ss (Show v next) known call = (head.Local, refl)
head_there ss (Host x f a b next) known call = (head.Local, refl)
head_there ss (If v c d) known call = (head.Local, refl)
head_there ss (Call f p us) known call = absurd (true≢false call)
head_there ss End known call = (head.Ended, refl)

-- ---- what is sent

no_out : (o : Option (ℕ × NameId)) (c : NameId) (s : ℕ) (a b : NameId) → takes_on o c ≡ Some (head.Out s a b) → ⊥
no_out None c s a b h = cc
no_out (Some (t, d)) c s a b h = cc

part_there : (o : Option (ℕ × NameId)) → is_some o ≡ true → (l : Load) × (part_load o ≡ Some l)
part_there None h = absurd (true≢false (sym h))
part_there (Some (s, r)) h = (_, refl)

load_there : (vars : Variables) (ss : Sessions) (node : CodeNode) (s : ℕ) (a b : NameId) → knows_sessions ss node ≡ true → node_head ss node ≡ Some (head.Out s a b) → (l : Load) × (node_load vars ss node ≡ Some l)
load_there vars ss (Send k c x next) s a b known h = (_, refl)
load_there vars ss (Pick k c l next) s a b known h = (_, refl)
load_there vars ss (Throw k c g next) s a b known h = part_there (fin.get ss g.0) (and_parts (is_some (fin.get ss k.0)) (is_some (fin.get ss g.0)) known).1
load_there vars ss (Recv k c x next) s a b known h = absurd (no_out (fin.get ss k.0) c s a b h)
load_there vars ss (Branch k c arms) s a b known h = absurd (no_out (fin.get ss k.0) c s a b h)
load_there vars ss (Catch k c g next) s a b known h = absurd (no_out (fin.get ss k.0) c s a b h)
load_there vars ss (Join c r k next) s a b known h = absurd cc
load_there vars ss (Set x v next) s a b known h = absurd cc
load_there vars ss (Show v next) s a b known h = absurd cc
load_there vars ss (Host x f v w next) s a b known h = absurd cc
load_there vars ss (If v c d) s a b known h = absurd cc
load_there vars ss (Call f p us) s a b known h = absurd cc
load_there vars ss End s a b known h = absurd cc

-- ---- what a process makes by itself

event_there : (p : ℕ) (v : ℤ) (vars : Variables) (node : CodeNode) → acts_alone node ≡ true → (x : Event) × (node_event p v vars node ≡ Some x)
event_there p v vars (Set y t next) h = (_, refl)
event_there p v vars (Show t next) h = (_, refl)
event_there p v vars (Host y f a b next) h = (_, refl)
event_there p v vars (If t c d) h = (_, refl)
event_there p v vars (Join c r k next) h = absurd (true≢false (sym h))
event_there p v vars (Send k b x next) h = absurd (true≢false (sym h))
event_there p v vars (Recv k a x next) h = absurd (true≢false (sym h))
event_there p v vars (Pick k b l next) h = absurd (true≢false (sym h))
event_there p v vars (Branch k a arms) h = absurd (true≢false (sym h))
event_there p v vars (Throw k b g next) h = absurd (true≢false (sym h))
event_there p v vars (Catch k a g next) h = absurd (true≢false (sym h))
event_there p v vars (Call f q us) h = absurd (true≢false (sym h))
event_there p v vars End h = absurd (true≢false (sym h))

-- ---- a process that can step

module _ (functions : List Function) (e : Endpoints) (runnable : AreRunnable functions e) (cap : Option ℕ) (n : NetworkState) (all : All (IsBound e) n.machines) (p : ℕ) (steps : steps_at e cap n p ≡ true) where
  abbrev meanings : Hosts
  meanings = hosts_in e.names functions

  by_itself : (x : Event) → MayMake e meanings cap n p x → Choice e meanings cap n p
  by_itself x may = record { event = x; after = may.after; chooses = record { answer = may.answer; allowed = may.allowed; made = may_chosen e meanings cap n p x may may.answer ∙ may.made } }

  free : (m : Machine) → slice_get n.machines p ≡ Some m → why_at e cap n p ≡ None
  free m there = ap (why_of e cap n) there ∙ steps_freely e cap n m (sym (ap (steps_of e cap n) there) ∙ steps)

  acts : Shows e n p head.Local → Choice e meanings cap n p
  acts t =
      let m = t.stands.machine in
      let st = t.stands.at_node in
      let h = taker e n p head.Local t in
      let alone = alone_there e m t.node t.stands.sessions st h in
      let a = answered functions e runnable m t.node t.stands.sessions st in
      let x = event_there p a.0 m.vars t.node alone in
      by_itself x.0 ((may_acting e meanings cap n p m t.node t.stands.sessions x.0 t.stands.there st h).0 (makes_there e meanings p m t.node t.stands.sessions a.0 x.0 st alone a.1 x.1))

  sends : (s : ℕ) (a b : NameId) → Shows e n p (head.Out s a b) → Choice e meanings cap n p
  sends s a b t = go (has_room cap (queue_of n (s, a, b))) refl
    where
      go : (r : Bool) → has_room cap (queue_of n (s, a, b)) ≡ r → Choice e meanings cap n p
      go false i =
          let full : why_at e cap n p ≡ Some (Full s a b) = t.waits cap refl ∙ ap (λ (r : Bool). cond r None (Some (Full s a b))) i in
          absurd (none-some (Full s a b) (sym (free t.stands.machine t.stands.there) ∙ full))
      go true i =
          let m = t.stands.machine in
          let st = t.stands.at_node in
          let known = knows e st.id m.vars t.stands.sessions t.node st.bound st.found in
          let l = load_there m.vars t.stands.sessions t.node s a b known t.head in
          let load : load_of e m ≡ Some l.0 = ap (place_load m.vars) st.place ∙ l.1 in
          by_itself (event.Send p s a b l.0) ((may_sending e meanings cap n p s a b m l.0 (event.Send p s a b l.0) i t.stands.there (taker e n p (head.Out s a b) t) load).0 refl)

  takes : (s : ℕ) (a b : NameId) → Shows e n p (head.Take s a b) → Choice e meanings cap n p
  takes s a b t = at_queue (queue_of n (s, a, b)) refl
    where
      at_load : (l : Load) (rest : List Load) → queue_of n (s, a, b) ≡ l ∷ rest → (r : Bool) → is_some (taking_of e t.stands.machine l) ≡ r → Choice e meanings cap n p
      at_load l rest q false i =
          let wrong : why_at e cap n p ≡ Some (Wrong s a b) = waits_first e cap n p s a b l rest t q t.stands.machine t.stands.there ∙ ap (λ (r : Bool). cond r None (Some (Wrong s a b))) i in
          absurd (none-some (Wrong s a b) (sym (free t.stands.machine t.stands.there) ∙ wrong))
      at_load l rest q true i = by_itself (event.Recv p s a b l) ((may_taking e meanings cap n p s a b t.stands.machine l rest (event.Recv p s a b l) t.stands.there (taker e n p (head.Take s a b) t) q).0 i refl)

      at_queue : (ls : List Load) → queue_of n (s, a, b) ≡ ls → Choice e meanings cap n p
      at_queue [] q = absurd (none-some (Empty s a b) (sym (free t.stands.machine t.stands.there) ∙ waits_empty e cap n p s a b t q))
      at_queue (l ∷ rest) q = at_load l rest q (is_some (taking_of e t.stands.machine l)) refl

  chosen : (h : Head) → Shows e n p h → Choice e meanings cap n p
  chosen (head.Join c r) t = join_chooses e runnable.faultless.faultless n all meanings cap p c r t (free t.stands.machine t.stands.there)
  chosen (head.Out s a b) t = sends s a b t
  chosen (head.Take s a b) t = takes s a b t
  chosen head.Local t = acts t
  chosen head.Ended t = absurd (steps_no_end e cap n p steps t.ended)

  pub makes_event : (m : Machine) → slice_get n.machines p ≡ Some m → Choice e meanings cap n p
  makes_event m there =
      let at = stands e runnable.faultless.faultless n p m all there in
      let s = at.1 in
      let st = s.at_node in
      let h = head_there s.sessions at.0 (knows e st.id s.machine.vars s.sessions at.0 st.bound st.found) st.is_head in
      chosen h.0 (shows_from e n p at.0 s h.0 h.1)
