-- What a process does by itself, as its part of the network's steps.
use Rattle.std.proofs.Common.{◌≡◌, ℕ, ℤ, pos, true, List, [], refl, sym, ap, ◌∙◌, subst, Option, Some, None}
use Rattle.std.specs.Prelude.{All, slice_get}
use Rattle.std.specs.FinMap as fin
use Rattle.std.proofs.lemmas.Option.{get_or_from_slice_get, slice_get_within}
use Rattle.chor_base.specs.declared.names.NameId.{NameId}
use Rattle.chor_base.specs.declared.event.Event.{Event}
use Rattle.chor_base.specs.Meaning.{Hosts}
use Rattle.chor_base.specs.NameMap.{Variables}
use Rattle.endpoint_code.specs.declared.code.CodeNode.{CodeNode}
use Rattle.endpoint_code.specs.declared.code.CodeNode.TheVariants.{Join, Send, Recv, Pick, Branch, Throw, Catch, Set, Show, Host, If, Call, End}
use Rattle.endpoint_code.specs.declared.endpoints.Endpoints.{Endpoints}
use Rattle.endpoint_code.specs.Faults.{IsFaultlessWith, asks_known, is_listed}
use Rattle.endpoint_code.proofs.Asking.{known_in_body}
use Rattle.endpoint_code.specs.Kept.{node_there, has_name, has_text}
use Rattle.endpoint_code.specs.Network.{Machine, NetworkState, Sessions, Place, Makes, place_makes, node_makes, PlaceAnswers, MachineAnswers, moved}
use Rattle.endpoint_machine.specs.declared.head.Head.TheVariants as head
use Rattle.endpoint_machine.specs.Heads.{node_head, place_head, head_of, sends_on, takes_on}
use Rattle.endpoint_machine.specs.Acts.{acts_alone, asks_at, place_asks, asks_next, answer_in, NodeAnswers, node_event, node_acted}
use Rattle.endpoint_machine.specs.Steps.{HasActed, HasBeenTold, CanMake}
use Rattle.endpoint_machine.specs.Places.{StandsAt}

-- ---- nodes where a process acts by itself

no_out : (o : Option (ℕ × NameId)) (a : NameId) → sends_on o a ≡ Some head.Local → ⊥
no_out None a h = absurd cc
no_out (Some (s, b)) a h = absurd cc

no_take : (o : Option (ℕ × NameId)) (a : NameId) → takes_on o a ≡ Some head.Local → ⊥
no_take None a h = absurd cc
no_take (Some (s, b)) a h = absurd cc

node_alone : (m : Sessions) (node : CodeNode) → node_head m node ≡ Some head.Local → acts_alone node ≡ true
node_alone m (Join c r k next) h = absurd cc
node_alone m (Send k b x next) h = absurd (no_out (fin.get m k.0) b h)
node_alone m (Pick k b l next) h = absurd (no_out (fin.get m k.0) b h)
node_alone m (Throw k b g next) h = absurd (no_out (fin.get m k.0) b h)
node_alone m (Recv k a x next) h = absurd (no_take (fin.get m k.0) a h)
node_alone m (Branch k a arms) h = absurd (no_take (fin.get m k.0) a h)
node_alone m (Catch k a g next) h = absurd (no_take (fin.get m k.0) a h)
node_alone m (Set x v next) h = refl
node_alone m (Show v next) h = refl
node_alone m (Host x f a b next) h = refl
node_alone m (If v a b) h = refl
node_alone m (Call f p ns) h = absurd cc
node_alone m End h = absurd cc

pub alone_there : (e : Endpoints) (m : Machine) (node : CodeNode) (ss : Sessions) → StandsAt e m node ss → head_of e m ≡ Some head.Local → acts_alone node ≡ true
alone_there e m node ss st h = node_alone ss node (sym (ap place_head st.place) ∙ h)

-- ---- what is asked there

-- what holds of each element holds of that at a place
pub all_at : {X : Type 0} (P : X → Type 0) (xs : List X) (i : ℕ) (x : X) → All P xs → slice_get xs i ≡ Some x → P x
all_at P xs i x all h = subst P (get_or_from_slice_get xs i x x h) (all i x (slice_get_within xs i x h))

pub known_there : (words : List (List ℕ)) (e : Endpoints) (m : Machine) (node : CodeNode) (ss : Sessions) → IsFaultlessWith words e → StandsAt e m node ss → asks_known (is_listed words e) node ≡ true
known_there words e m node ss f st = known_in_body (is_listed words e) e f.hosts st.bound.in_body node st.found

pub numbered_there : (e : Endpoints) (m : Machine) (node : CodeNode) (ss : Sessions) → StandsAt e m node ss → node_there (has_name e.names) (has_text e.texts) node ≡ true
numbered_there e m node ss st = all_at (λ n. node_there (has_name e.names) (has_text e.texts) n ≡ true) e.code.nodes st.id.0 node e.numbered.in_nodes st.found

-- ---- the event

-- what a process makes by itself at a node
pub node_made : (n : NetworkState) (p : ℕ) (v : ℤ) (vars : Variables) (m : Sessions) (node : CodeNode) (x : Event) (new : Machine) (cap : Option ℕ) → acts_alone node ≡ true → node_event p v vars node ≡ Some x → node_acted v vars m node ≡ Some new → node_makes cap n p v vars m node ≡ Some (Makes x (moved n p new.at new.vars new.sessions))
node_made n p v vars m (Set y w next) x new cap is h k = cc
node_made n p v vars m (Show w next) x new cap is h k = cc
node_made n p v vars m (Host y f a b next) x new cap is h k = cc
node_made n p v vars m (If w a b) x new cap is h k = cc
node_made n p v vars m (Send k b y next) x new cap is h i = absurd cc
node_made n p v vars m (Pick k b l next) x new cap is h i = absurd cc
node_made n p v vars m (Throw k b g next) x new cap is h i = absurd cc
node_made n p v vars m (Recv k a y next) x new cap is h i = absurd cc
node_made n p v vars m (Branch k a arms) x new cap is h i = absurd cc
node_made n p v vars m (Catch k a g next) x new cap is h i = absurd cc
node_made n p v vars m (Join c r k next) x new cap is h i = absurd cc
node_made n p v vars m (Call f q ns) x new cap is h i = absurd cc
node_made n p v vars m End x new cap is h i = absurd cc

-- the event that it makes there
pub made_event : (n : NetworkState) (p : ℕ) (v : ℤ) (vars : Variables) (m : Sessions) (node : CodeNode) (x : Event) (k : NetworkState) → acts_alone node ≡ true → node_makes None n p v vars m node ≡ Some (Makes x k) → node_event p v vars node ≡ Some x
made_event n p v vars m (Set y w next) x k is h = cc
made_event n p v vars m (Show w next) x k is h = cc
made_event n p v vars m (Host y f a b next) x k is h = cc
made_event n p v vars m (If w a b) x k is h = cc
made_event n p v vars m (Send j b y next) x k is h = absurd cc
made_event n p v vars m (Pick j b l next) x k is h = absurd cc
made_event n p v vars m (Throw j b g next) x k is h = absurd cc
made_event n p v vars m (Recv j a y next) x k is h = absurd cc
made_event n p v vars m (Branch j a arms) x k is h = absurd cc
made_event n p v vars m (Catch j a g next) x k is h = absurd cc
made_event n p v vars m (Join c r j next) x k is h = absurd cc
made_event n p v vars m (Call f q ns) x k is h = absurd cc
made_event n p v vars m End x k is h = absurd cc

-- at each node some process has acted
acted_at : (v : ℤ) (vars : Variables) (m : Sessions) (node : CodeNode) → acts_alone node ≡ true → (new : Machine) × (node_acted v vars m node ≡ Some new)
acted_at v vars m (Set y w next) is = (_, refl)
acted_at v vars m (Show w next) is = (_, refl)
acted_at v vars m (Host y f a b next) is = (_, refl)
acted_at v vars m (If w a b) is = (_, refl)
acted_at v vars m (Send j b y next) is = absurd cc
acted_at v vars m (Pick j b l next) is = absurd cc
acted_at v vars m (Throw j b g next) is = absurd cc
acted_at v vars m (Recv j a y next) is = absurd cc
acted_at v vars m (Branch j a arms) is = absurd cc
acted_at v vars m (Catch j a g next) is = absurd cc
acted_at v vars m (Join c r j next) is = absurd cc
acted_at v vars m (Call f q ns) is = absurd cc
acted_at v vars m End is = absurd cc

-- ---- answers

pub answers_alike : (hosts : Hosts) (vars : Variables) (m : Sessions) (node : CodeNode) (v : ℤ) → (NodeAnswers hosts vars node v → PlaceAnswers hosts vars (Some (record { node = node; sessions = m })) v) × (PlaceAnswers hosts vars (Some (record { node = node; sessions = m })) v → NodeAnswers hosts vars node v)
answers_alike hosts vars m (Join c r k next) v = (λ h. tt, λ h. tt)
answers_alike hosts vars m (Send k b x next) v = (λ h. tt, λ h. tt)
answers_alike hosts vars m (Recv k a x next) v = (λ h. tt, λ h. tt)
answers_alike hosts vars m (Pick k b l next) v = (λ h. tt, λ h. tt)
answers_alike hosts vars m (Branch k a arms) v = (λ h. tt, λ h. tt)
answers_alike hosts vars m (Throw k b g next) v = (λ h. tt, λ h. tt)
answers_alike hosts vars m (Catch k a g next) v = (λ h. tt, λ h. tt)
answers_alike hosts vars m (Set x w next) v = (λ h. tt, λ h. tt)
answers_alike hosts vars m (Show w next) v = (λ h. tt, λ h. tt)
answers_alike hosts vars m (Host x f u w next) v = (λ h. h, λ h. h)
answers_alike hosts vars m (If w c d) v = (λ h. tt, λ h. tt)
answers_alike hosts vars m (Call f o ns) v = (λ h. tt, λ h. tt)
answers_alike hosts vars m End v = (λ h. tt, λ h. tt)

-- ---- a process that has acted

pub acted_there : (e : Endpoints) (hosts : Hosts) (p : ℕ) (m : Machine) (node : CodeNode) (ss : Sessions) (v : ℤ) (x : Event) (new : Machine) → StandsAt e m node ss → acts_alone node ≡ true → NodeAnswers hosts m.vars node v → node_event p v m.vars node ≡ Some x → node_acted v m.vars ss node ≡ Some new → HasActed e hosts p m x new
acted_there e hosts p m node ss v x new st is answers h k = record {
  answer = v;
  allowed = subst (λ (o : Option Place). PlaceAnswers hosts m.vars o v) (sym st.place) ((answers_alike hosts m.vars ss node v).0 answers);
  made = λ cap n. ap (place_makes cap n p v m.vars) st.place ∙ node_made n p v m.vars ss node x new cap is h k;
}

-- where an event is made by an answer, it is made by the one that it tells
pub record Tells (hosts : Hosts) (p : ℕ) (vars : Variables) (node : CodeNode) (x : Event) : Type 0 where
  pub event : node_event p (answer_in x) vars node ≡ Some x
  pub answers : NodeAnswers hosts vars node (answer_in x)

node_tells : (hosts : Hosts) (p : ℕ) (v : ℤ) (vars : Variables) (node : CodeNode) (x : Event) → NodeAnswers hosts vars node v → node_event p v vars node ≡ Some x → Tells hosts p vars node x
node_tells hosts p v vars (Host y f a b next) x h e =
    let own : v ≡ answer_in x = ap answer_of e in
    record {
      event = ap (λ (w : ℤ). node_event p w vars (Host y f a b next)) (sym own) ∙ e;
      answers = subst (λ (w : ℤ). NodeAnswers hosts vars (Host y f a b next) w) own h;
    }
  where
    answer_of : Option Event → ℤ
    answer_of None = pos 0
    answer_of (Some y) = answer_in y
node_tells hosts p v vars (Set y w next) x h e = record { event = e; answers = tt }
node_tells hosts p v vars (Show w next) x h e = record { event = e; answers = tt }
node_tells hosts p v vars (If w a b) x h e = record { event = e; answers = tt }
node_tells hosts p v vars (Send j b y next) x h e = absurd cc
node_tells hosts p v vars (Pick j b l next) x h e = absurd cc
node_tells hosts p v vars (Throw j b g next) x h e = absurd cc
node_tells hosts p v vars (Recv j a y next) x h e = absurd cc
node_tells hosts p v vars (Branch j a arms) x h e = absurd cc
node_tells hosts p v vars (Catch j a g next) x h e = absurd cc
node_tells hosts p v vars (Join c r j next) x h e = absurd cc
node_tells hosts p v vars (Call f q ns) x h e = absurd cc
node_tells hosts p v vars End x h e = absurd cc

-- it can make the events that an answer gives, and no other
pub makes_there : (e : Endpoints) (hosts : Hosts) (p : ℕ) (m : Machine) (node : CodeNode) (ss : Sessions) (v : ℤ) (x : Event) → StandsAt e m node ss → acts_alone node ≡ true → NodeAnswers hosts m.vars node v → node_event p v m.vars node ≡ Some x → CanMake e hosts p m x
makes_there e hosts p m node ss v x st is answers h = let a = acted_at v m.vars ss node is in (a.0, acted_there e hosts p m node ss v x a.0 st is answers h a.1)

pub makes_only : (e : Endpoints) (hosts : Hosts) (p : ℕ) (m : Machine) (node : CodeNode) (ss : Sessions) (x : Event) → StandsAt e m node ss → acts_alone node ≡ true → CanMake e hosts p m x → Tells hosts p m.vars node x
makes_only e hosts p m node ss x st is (new, a) =
    let n : NetworkState = record { machines = []; queues = []; sid = 0 } in
    let answers = (answers_alike hosts m.vars ss node a.answer).1 (subst (λ (o : Option Place). PlaceAnswers hosts m.vars o a.answer) st.place a.allowed) in
    let made = sym (ap (place_makes None n p a.answer m.vars) st.place) ∙ a.made None n in
    node_tells hosts p a.answer m.vars node x answers (made_event n p a.answer m.vars ss node x (moved n p new.at new.vars new.sessions) is made)

-- ---- a host call

pub asks_alone : (node : CodeNode) → asks_at node ≡ true → acts_alone node ≡ true
asks_alone (Host x f a b next) h = refl
asks_alone (Join c r k next) h = absurd cc
asks_alone (Send k b x next) h = absurd cc
asks_alone (Pick k b l next) h = absurd cc
asks_alone (Throw k b g next) h = absurd cc
asks_alone (Recv k a x next) h = absurd cc
asks_alone (Branch k a arms) h = absurd cc
asks_alone (Catch k a g next) h = absurd cc
asks_alone (Set x v next) h = absurd cc
asks_alone (Show v next) h = absurd cc
asks_alone (If v a b) h = absurd cc
asks_alone (Call f p ns) h = absurd cc
asks_alone End h = absurd cc

pub asking_there : (e : Endpoints) (m : Machine) (node : CodeNode) (ss : Sessions) → StandsAt e m node ss → asks_next e m ≡ true → acts_alone node ≡ true
asking_there e m node ss st h = asks_alone node (sym (ap place_asks st.place) ∙ h)

event_there : (p : ℕ) (v : ℤ) (vars : Variables) (node : CodeNode) → acts_alone node ≡ true → (x : Event) × (node_event p v vars node ≡ Some x)
event_there p v vars (Host x f a b next) h = (_, refl)
event_there p v vars (Set x w next) h = (_, refl)
event_there p v vars (Show w next) h = (_, refl)
event_there p v vars (If w a b) h = (_, refl)
event_there p v vars (Join c r k next) h = absurd cc
event_there p v vars (Send k b x next) h = absurd cc
event_there p v vars (Pick k b l next) h = absurd cc
event_there p v vars (Throw k b g next) h = absurd cc
event_there p v vars (Recv k a x next) h = absurd cc
event_there p v vars (Branch k a arms) h = absurd cc
event_there p v vars (Catch k a g next) h = absurd cc
event_there p v vars (Call f q ns) h = absurd cc
event_there p v vars End h = absurd cc

-- a process that has gone past a host call with an answer has made the event that tells it
pub told_there : (e : Endpoints) (hosts : Hosts) (p : ℕ) (m : Machine) (node : CodeNode) (ss : Sessions) (v : ℤ) (new : Machine) → StandsAt e m node ss → acts_alone node ≡ true → MachineAnswers hosts e (Some m) v → node_acted v m.vars ss node ≡ Some new → HasBeenTold e hosts p m v new
unfolding acted_there
told_there e hosts p m node ss v new st is allowed k =
    let answers = (answers_alike hosts m.vars ss node v).1 (subst (λ (q : Option Place). PlaceAnswers hosts m.vars q v) st.place allowed) in
    let x = event_there p v m.vars node is in
    record { event = x.0; acted = acted_there e hosts p m node ss v x.0 new st is answers x.1 k; by_it = refl }
