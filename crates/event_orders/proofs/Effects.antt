-- The effect of an event of one process, in any state that it fits.
use Rattle.std.proofs.Common.{◌≡◌, ℕ, Bool, true, false, List, [], ◌∷◌, ◌++◌, refl, sym, ap, ◌∙◌, subst, Option, Some, None, if◌then◌else◌, arith}
use Rattle.std.specs.Prelude.{slice_set}
use Rattle.std.specs.FinMap as fin
use Rattle.std.proofs.lemmas.Bool.Decides.{nat_tests}
use Rattle.chor_base.specs.declared.names.NameId.{NameId}
use Rattle.chor_base.specs.declared.value.Load.{Load}
use Rattle.chor_base.specs.declared.event.Event.{Event}
use Rattle.chor_base.specs.declared.event.Event.TheVariants as event
use Rattle.chor_base.specs.Events.{Triple, triple_eq}
use Rattle.endpoint_code.specs.Network.{Sessions, Machine, NetworkState, Makes, Taking, Goes, queue_of, loads_for, with_loads, with_queue, has_room, put_if, went, takes_from}
use Rattle.endpoint_code.proofs.Queues.{loads-same, loads-other}
use Rattle.endpoint_code.proofs.Fifo.{same_triple}
use Rattle.event_orders.specs.EventKinds.{EventKind, Sends, Receives, Starts, has_kind, is_in, participates}
use Rattle.event_orders.proofs.Actions.{Action, Alone, Puts, Takes, machine_at, replaced, performs, Uses, IsLocal, IsPlain}

pub turned : (t u : Triple) → triple_eq t u ≡ false → triple_eq u t ≡ false
turned t u h = grind (arith, nat_tests)

pub turned_true : (t u : Triple) → triple_eq t u ≡ true → triple_eq u t ≡ true
turned_true t u h = grind (arith, nat_tests)

abbrev pub rest_of : List Load → List Load
rest_of [] = []
rest_of (l ∷ ls) = ls

-- what an event does to the queue of a triple
abbrev pub changed : Event → Triple → List Load → List Load
changed (event.Send p s a b l) u q = if triple_eq u (s, a, b) then q ++ l ∷ [] else q
changed (event.Recv p s a b l) u q = if triple_eq u (s, a, b) then rest_of q else q
changed _ u q = q

-- a send has room, and the load of a receipt is first in its queue
abbrev pub Fits : Option ℕ → NetworkState → Event → Type 0
Fits cap n (event.Send p s a b l) = has_room cap (queue_of n (s, a, b)) ≡ true
Fits cap n (event.Recv p s a b l) = (rest : List Load) × (queue_of n (s, a, b) ≡ l ∷ rest)
Fits cap n _ = Unit {0}

-- the role that a send or a receipt uses
abbrev pub role_of : EventKind → Option (ℕ × NameId)
role_of (Sends t) = Some (t.0, t.1)
role_of (Receives t) = Some (t.0, t.2)
role_of Starts = None

pub record EffectElsewhere (cap : Option ℕ) (n : NetworkState) (p : ℕ) (d : Action) (x : Event) (w : Machine) : Type 0 where
  pub state : NetworkState
  pub is : performs cap n p d ≡ Some (Makes x state)
  pub machines : state.machines ≡ slice_set n.machines p w
  pub queues : (u : Triple) → queue_of state u ≡ changed x u (queue_of n u)
  pub sid : state.sid ≡ n.sid

pub record Effect (cap : Option ℕ) (n : NetworkState) (p : ℕ) (d : Action) (x : Event) (m : NetworkState) : Type 0 where
  pub machine : Machine
  pub machines : m.machines ≡ slice_set n.machines p machine
  pub queues : (u : Triple) → queue_of m u ≡ changed x u (queue_of n u)
  pub sid : m.sid ≡ n.sid
  pub fits : Fits cap n x
  pub alone : (q : ℕ) → participates q x ≡ true → q ≡ p
  pub own : participates p x ≡ true
  pub no_start : has_kind Starts x ≡ false
  pub uses : (m : Sessions) → Uses m d → (kind : EventKind) → has_kind kind x ≡ true → (k : ℕ) × (fin.get m k ≡ role_of kind)
  pub elsewhere : (n' : NetworkState) → Fits cap n' x → EffectElsewhere cap n' p d x machine

-- ---- queues

put_queue : (qs : List (Triple × List Load)) (t u : Triple) (l : Load) → loads_for (with_loads qs t (loads_for qs t ++ l ∷ [])) u ≡ (if triple_eq u t then loads_for qs u ++ l ∷ [] else loads_for qs u)
put_queue qs t u l = go (triple_eq u t) refl
  where
    go : (b : Bool) → triple_eq u t ≡ b → loads_for (with_loads qs t (loads_for qs t ++ l ∷ [])) u ≡ (if triple_eq u t then loads_for qs u ++ l ∷ [] else loads_for qs u)
    go true e = let is = same_triple u t e in rw e (subst (λ (w : Triple). loads_for (with_loads qs t (loads_for qs t ++ l ∷ [])) w ≡ loads_for qs w ++ l ∷ []) (sym is) (loads-same qs t (loads_for qs t ++ l ∷ [])))
    go false e = rw e (loads-other qs t u (loads_for qs t ++ l ∷ []) (turned u t e))

take_queue : (qs : List (Triple × List Load)) (t u : Triple) (l : Load) (rest : List Load) → loads_for qs t ≡ l ∷ rest → loads_for (with_loads qs t rest) u ≡ (if triple_eq u t then rest_of (loads_for qs u) else loads_for qs u)
take_queue qs t u l rest h = go (triple_eq u t) refl
  where
    go : (b : Bool) → triple_eq u t ≡ b → loads_for (with_loads qs t rest) u ≡ (if triple_eq u t then rest_of (loads_for qs u) else loads_for qs u)
    go true e = let is = same_triple u t e in rw e (subst (λ (w : Triple). loads_for (with_loads qs t rest) w ≡ rest_of (loads_for qs w)) (sym is) (loads-same qs t rest ∙ sym (ap rest_of h)))
    go false e = rw e (loads-other qs t u rest (turned u t e))

-- ---- an event that uses no queue

one_part : (q p : ℕ) → is_in q (p ∷ []) ≡ true → q ≡ p
one_part q p h = grind (arith, nat_tests)

own_part : (p : ℕ) → is_in p (p ∷ []) ≡ true
own_part p = grind (arith, nat_tests)

local_queue : (p : ℕ) (x : Event) → IsLocal p x → (u : Triple) (q : List Load) → changed x u q ≡ q
local_queue p (event.Start c s ps) h u q = absurd h
local_queue p (event.Send r s a b l) h u q = absurd h
local_queue p (event.Recv r s a b l) h u q = absurd h
local_queue p (event.Test r b) h u q = refl
local_queue p (event.Set r x v) h u q = refl
local_queue p (event.Show r v) h u q = refl
local_queue p (event.Host r x f a b v) h u q = refl

local_fits : (p : ℕ) (x : Event) → IsLocal p x → (cap : Option ℕ) (n : NetworkState) → Fits cap n x
local_fits p (event.Start c s ps) h cap n = absurd h
local_fits p (event.Send r s a b l) h cap n = absurd h
local_fits p (event.Recv r s a b l) h cap n = absurd h
local_fits p (event.Test r b) h cap n = tt
local_fits p (event.Set r x v) h cap n = tt
local_fits p (event.Show r v) h cap n = tt
local_fits p (event.Host r x f a b v) h cap n = tt

local_alone : (p : ℕ) (x : Event) → IsLocal p x → (q : ℕ) → participates q x ≡ true → q ≡ p
local_alone p (event.Start c s ps) h q i = absurd h
local_alone p (event.Send r s a b l) h q i = absurd h
local_alone p (event.Recv r s a b l) h q i = absurd h
local_alone p (event.Test r b) h q i = one_part q r i ∙ h
local_alone p (event.Set r x v) h q i = one_part q r i ∙ h
local_alone p (event.Show r v) h q i = one_part q r i ∙ h
local_alone p (event.Host r x f a b v) h q i = one_part q r i ∙ h

local_own : (p : ℕ) (x : Event) → IsLocal p x → participates p x ≡ true
local_own p (event.Start c s ps) h = absurd h
local_own p (event.Send r s a b l) h = absurd h
local_own p (event.Recv r s a b l) h = absurd h
local_own p (event.Test r b) h = ap (λ (z : ℕ). is_in p (z ∷ [])) h ∙ own_part p
local_own p (event.Set r x v) h = ap (λ (z : ℕ). is_in p (z ∷ [])) h ∙ own_part p
local_own p (event.Show r v) h = ap (λ (z : ℕ). is_in p (z ∷ [])) h ∙ own_part p
local_own p (event.Host r x f a b v) h = ap (λ (z : ℕ). is_in p (z ∷ [])) h ∙ own_part p

local_mark : (p : ℕ) (x : Event) → IsLocal p x → (k : EventKind) → has_kind k x ≡ false
local_mark p (event.Start c s ps) h k = absurd h
local_mark p (event.Send r s a b l) h k = absurd h
local_mark p (event.Recv r s a b l) h k = absurd h
local_mark p (event.Test r b) h (Sends t) = refl
local_mark p (event.Test r b) h (Receives t) = refl
local_mark p (event.Test r b) h Starts = refl
local_mark p (event.Set r x v) h (Sends t) = refl
local_mark p (event.Set r x v) h (Receives t) = refl
local_mark p (event.Set r x v) h Starts = refl
local_mark p (event.Show r v) h (Sends t) = refl
local_mark p (event.Show r v) h (Receives t) = refl
local_mark p (event.Show r v) h Starts = refl
local_mark p (event.Host r x f a b v) h (Sends t) = refl
local_mark p (event.Host r x f a b v) h (Receives t) = refl
local_mark p (event.Host r x f a b v) h Starts = refl

alone_done : (cap : Option ℕ) (n : NetworkState) (p : ℕ) (x : Event) (w : Machine) → IsLocal p x → Effect cap n p (Alone x w) x (replaced n p w)
alone_done cap n p x w local = record {
  machine = w;
  machines = refl;
  queues = λ u. sym (local_queue p x local u (queue_of n u));
  sid = refl;
  fits = local_fits p x local cap n;
  alone = local_alone p x local;
  own = local_own p x local;
  no_start = local_mark p x local Starts;
  uses = λ m h kind i. (let f : false ≡ true = sym (local_mark p x local kind) ∙ i in absurd cc);
  elsewhere = λ n' fits. record { state = replaced n' p w; is = refl; machines = refl; queues = λ u. sym (local_queue p x local u (queue_of n' u)); sid = refl };
}

-- ---- a send

abbrev sent : NetworkState → ℕ → Triple → Load → Machine → NetworkState
sent n p t l w = with_queue (replaced n p w) t (queue_of n t ++ l ∷ [])

put_uses : (p : ℕ) (t : Triple) (l : Load) (w : Machine) (m : Sessions) → Uses m (Puts t l w) → (kind : EventKind) → has_kind kind (event.Send p t.0 t.1 t.2 l) ≡ true → (k : ℕ) × (fin.get m k ≡ role_of kind)
put_uses p t l w m h (Sends u) i = let is : u ≡ t = same_triple u t i in (h.0, h.1 ∙ ap (λ (z : Triple). Some (z.0, z.1)) (sym is))
put_uses p t l w m h (Receives u) i = absurd cc
put_uses p t l w m h Starts i = absurd cc

put_done : (cap : Option ℕ) (n : NetworkState) (p : ℕ) (t : Triple) (l : Load) (w : Machine) → has_room cap (queue_of n t) ≡ true → Effect cap n p (Puts t l w) (event.Send p t.0 t.1 t.2 l) (sent n p t l w)
put_done cap n p t l w room = record {
  machine = w;
  machines = refl;
  queues = λ u. put_queue n.queues t u l;
  sid = refl;
  fits = room;
  alone = λ q i. one_part q p i;
  own = own_part p;
  no_start = refl;
  uses = put_uses p t l w;
  elsewhere = λ n' fits. record { state = sent n' p t l w; is = ap (λ (b : Bool). put_if b (replaced n' p w) p t l) fits; machines = refl; queues = λ u. put_queue n'.queues t u l; sid = refl };
}

-- ---- a receipt

abbrev received : NetworkState → ℕ → Triple → List Load → Machine → NetworkState
received n p t rest w = with_queue (replaced n p w) t rest

take_uses : (p : ℕ) (t : Triple) (l : Load) (f : Load → Option Taking) (m : Sessions) → Uses m (Takes t f) → (kind : EventKind) → has_kind kind (event.Recv p t.0 t.1 t.2 l) ≡ true → (k : ℕ) × (fin.get m k ≡ role_of kind)
take_uses p t l f m h (Receives u) i = let is : u ≡ t = same_triple u t i in (h.0, h.1 ∙ ap (λ (z : Triple). Some (z.0, z.2)) (sym is))
take_uses p t l f m h (Sends u) i = absurd cc
take_uses p t l f m h Starts i = absurd cc

take_done : (cap : Option ℕ) (n : NetworkState) (p : ℕ) (t : Triple) (f : Load → Option Taking) (l : Load) (rest : List Load) (w : Machine) → queue_of n t ≡ l ∷ rest → f l ≡ Some (Goes w.at w.vars w.sessions)
    → Effect cap n p (Takes t f) (event.Recv p t.0 t.1 t.2 l) (received n p t rest w)
take_done cap n p t f l rest w first goes = record {
  machine = w;
  machines = refl;
  queues = λ u. take_queue n.queues t u l rest first;
  sid = refl;
  fits = (rest, first);
  alone = λ q i. one_part q p i;
  own = own_part p;
  no_start = refl;
  uses = take_uses p t l f;
  elsewhere = λ n' fits. record {
    state = received n' p t fits.0 w;
    is = ap (takes_from n' p t f) fits.1 ∙ ap (went n' p t l fits.0) goes;
    machines = refl;
    queues = λ u. take_queue n'.queues t u l fits.0 fits.1;
    sid = refl;
  };
}

-- ---- any event of one process

made_so : (cap : Option ℕ) (n : NetworkState) (p : ℕ) (d : Action) {y x : Event} {k m : NetworkState} → Some (Makes y k) ≡ Some (Makes x m) → Effect cap n p d y k → Effect cap n p d x m
made_so cap n p d {y} {x} {k} {m} h effect =
    let i : y ≡ x = cc in
    let j : k ≡ m = cc in
    subst (λ (z : NetworkState). Effect cap n p d x z) j (subst (λ (z : Event). Effect cap n p d z k) i effect)

pub effect : (cap : Option ℕ) (n : NetworkState) (p : ℕ) (d : Action) → IsPlain p d → (x : Event) (m : NetworkState) → performs cap n p d ≡ Some (Makes x m) → Effect cap n p d x m
effect cap n p (Alone y w) plain x m h = made_so cap n p (Alone y w) h (alone_done cap n p y w plain)
effect cap n p (Puts t l w) plain x m h = go (has_room cap (queue_of n t)) refl h
  where
    go : (b : Bool) → has_room cap (queue_of n t) ≡ b → put_if b (replaced n p w) p t l ≡ Some (Makes x m) → Effect cap n p (Puts t l w) x m
    go true i j = made_so cap n p (Puts t l w) j (put_done cap n p t l w i)
    go false i j = absurd cc
effect cap n p (Takes t f) plain x m h = at_queue (queue_of n t) refl h
  where
    at_load : (l : Load) (rest : List Load) → queue_of n t ≡ l ∷ rest → (o : Option Taking) → f l ≡ o → went n p t l rest o ≡ Some (Makes x m) → Effect cap n p (Takes t f) x m
    at_load l rest i None g j = absurd cc
    at_load l rest i (Some (Goes next vars ss)) g j = made_so cap n p (Takes t f) j (take_done cap n p t f l rest (machine_at next vars ss) i g)

    at_queue : (q : List Load) → queue_of n t ≡ q → takes_from n p t f q ≡ Some (Makes x m) → Effect cap n p (Takes t f) x m
    at_queue [] i j = absurd cc
    at_queue (l ∷ rest) i j = at_load l rest i (f l) refl j
