-- Two steps whose events are independent commute.
use Rattle.std.proofs.Common.{◌≡◌, ℕ, ◌<◌, ◌≤◌, ◌+◌, Bool, true, false, List, [], ◌∷◌, ◌++◌, length, refl, sym, ap, ◌∙◌, subst, Option, Some, None, arith, append-nil, length-append, if◌then◌else◌, nat_lt, inl, inr, ◌⊎◌}
use Rattle.std.specs.Prelude.{slice_get}
use Rattle.std.proofs.lemmas.Bool.{ltb-true, lt-ltb, cases_lt, true≢false, false_from_ne_true}
use Rattle.std.proofs.lemmas.Option.{slice_get_within}
use Rattle.chor_base.specs.declared.names.NameId.{NameId}
use Rattle.chor_base.specs.declared.value.Load.{Load}
use Rattle.chor_base.specs.declared.event.Event.{Event}
use Rattle.chor_base.specs.declared.event.Event.TheVariants as event
use Rattle.chor_base.specs.Meaning.{Hosts}
use Rattle.chor_base.specs.Events.{Triple, triple_eq}
use Rattle.endpoint_code.specs.declared.endpoints.Endpoints.{Endpoints}
use Rattle.endpoint_code.specs.Network.{Machine, NetworkState, queue_of, has_room, with_machines, NetworkSteps}
use Rattle.endpoint_code.specs.NetworkRuns.{NetworkLeads}
use Rattle.endpoint_code.specs.SameState.{IsSameState}
use Rattle.endpoint_code.proofs.Queues.{triple_same}
use Rattle.endpoint_code.proofs.Fifo.{same_triple}
use Rattle.event_orders.specs.EventKinds.{EventKind, Sends, Receives, Starts, has_kind, one_if, participates, ShareNoProcess}
use Rattle.event_orders.specs.Holders.{IsRoleHolder, HasExclusiveRoles}
use Rattle.event_orders.specs.Commute.{AreIndependent, Commute, LeadsToSame}
use Rattle.chor_base.proofs.Lists.{get_append_left}
use Rattle.event_orders.proofs.Machines.{AreOff, AreClear, with_length, with_other, machines_commute}
use Rattle.event_orders.proofs.Effects.{rest_of, changed, Fits, role_of}
use Rattle.event_orders.proofs.StepEffects.{AreParts, IsReady, StepElsewhere, StepEffect, step_effect}

-- ---- states that are the same

fits_same : (cap : Option ℕ) (n n' : NetworkState) (x : Event) → ((u : Triple) → queue_of n u ≡ queue_of n' u) → Fits cap n x → Fits cap n' x
fits_same cap n n' (event.Send p s a b l) same h = ap (has_room cap) (sym (same (s, a, b))) ∙ h
fits_same cap n n' (event.Recv p s a b l) same h = (h.0, sym (same (s, a, b)) ∙ h.1)
fits_same cap n n' (event.Start c s ps) same h = tt
fits_same cap n n' (event.Test p b) same h = tt
fits_same cap n n' (event.Set p y v) same h = tt
fits_same cap n n' (event.Show p v) same h = tt
fits_same cap n n' (event.Host p y f a b v) same h = tt

module _ (e : Endpoints) (hosts : Hosts) (cap : Option ℕ) where
  pub record StepsSame (n' : NetworkState) (x : Event) (m : NetworkState) : Type 0 where
    pub state : NetworkState
    pub steps : NetworkSteps e hosts cap n' x state
    pub same : IsSameState m state

  pub same_steps : (n n' m : NetworkState) (x : Event) → IsSameState n n' → NetworkSteps e hosts cap n x m → StepsSame n' x m
  same_steps n n' m x same step =
      let s : StepEffect e hosts cap n x m = step_effect e hosts cap n x m step in
      let ready : IsReady n n' x = record {
        same = λ q i lt. ap (λ (z : List Machine). slice_get z q) (sym same.machines);
        sid = λ i. sym same.sid;
        count = λ i. ap length (sym same.machines);
      } in
      let a : StepElsewhere e hosts cap n' x s.put s.new = s.elsewhere n' ready (fits_same cap n n' x same.queues s.fits) in
      record {
        state = a.state;
        steps = a.steps;
        same = record {
          machines = s.machines ∙ ap (λ (z : List Machine). with_machines z s.put ++ s.new) same.machines ∙ sym a.machines;
          queues = λ u. s.queues u ∙ ap (changed x u) (same.queues u) ∙ sym (a.queues u);
          sid = s.sid ∙ ap (λ z. z + one_if (has_kind Starts x)) same.sid ∙ sym a.sid;
        };
      }

  pub same_leads : (h : List Event) (n n' m : NetworkState) → IsSameState n n' → NetworkLeads e hosts cap n h m → LeadsToSame e hosts cap n' h m
  same_leads [] n n' m same i = record { last = n'; leads = refl; same = subst (λ (z : NetworkState). IsSameState z n') i same }
  same_leads (x ∷ h) n n' m same leads =
      let s : StepsSame n' x leads.0 = same_steps n n' leads.0 x same leads.1 in
      let t : LeadsToSame e hosts cap s.state h m = same_leads h leads.0 s.state m s.same leads.2 in
      record { last = t.last; leads = (s.state, s.steps, t.leads); same = t.same }

  -- ---- one user of each triple

  one_role : (n : NetworkState) (kind : EventKind) → (part : ℕ × NameId) → role_of kind ≡ Some part → (x y : Event) (m k : NetworkState) → HasExclusiveRoles e n → ShareNoProcess x y
      → StepEffect e hosts cap n x m → StepEffect e hosts cap n y k → has_kind kind x ≡ true → has_kind kind y ≡ true → ⊥
  one_role n kind part role x y m k exclusive apart s t i j =
      let u = s.user kind part role i in
      let w = t.user kind part role j in
      exclusive u.0 w.0 part (λ same. apart u.0 u.1 (subst (λ z. participates z y ≡ true) (sym same) w.1)) u.2 w.2

  pub one_user : (n m k : NetworkState) (x y : Event) (kind : EventKind) → HasExclusiveRoles e n → ShareNoProcess x y
      → NetworkSteps e hosts cap n x m → NetworkSteps e hosts cap n y k → has_kind kind x ≡ true → has_kind kind y ≡ true → kind ≡ Starts
  one_user n m k x y (Sends t) exclusive apart a b i j = absurd (one_role n (Sends t) (t.0, t.1) refl x y m k exclusive apart (step_effect e hosts cap n x m a) (step_effect e hosts cap n y k b) i j)
  one_user n m k x y (Receives t) exclusive apart a b i j = absurd (one_role n (Receives t) (t.0, t.2) refl x y m k exclusive apart (step_effect e hosts cap n x m a) (step_effect e hosts cap n y k b) i j)
  one_user n m k x y Starts exclusive apart a b i j = refl

-- ---- what two events do to a queue

send_send : (b c : Bool) (q : List Load) (l l' : Load) → (b ≡ true → c ≡ true → ⊥)
    → (if c then (if b then q ++ l ∷ [] else q) ++ l' ∷ [] else (if b then q ++ l ∷ [] else q)) ≡ (if b then (if c then q ++ l' ∷ [] else q) ++ l ∷ [] else (if c then q ++ l' ∷ [] else q))
send_send true true q l l' h = absurd (h refl refl)
send_send true false q l l' h = refl
send_send false true q l l' h = refl
send_send false false q l l' h = refl

rest_behind : (q : List Load) (l : Load) → (q ≡ [] → ⊥) → rest_of (q ++ l ∷ []) ≡ rest_of q ++ l ∷ []
rest_behind [] l h = absurd (h refl)
rest_behind (a ∷ q) l h = refl

send_recv : (b c : Bool) (q : List Load) (l : Load) → (b ≡ true → c ≡ true → q ≡ [] → ⊥)
    → (if c then rest_of (if b then q ++ l ∷ [] else q) else (if b then q ++ l ∷ [] else q)) ≡ (if b then (if c then rest_of q else q) ++ l ∷ [] else (if c then rest_of q else q))
send_recv true true q l h = rest_behind q l (h refl refl)
send_recv true false q l h = refl
send_recv false true q l h = refl
send_recv false false q l h = refl

recv_recv : (b c : Bool) (q : List Load) → (b ≡ true → c ≡ true → ⊥)
    → (if c then rest_of (if b then rest_of q else q) else (if b then rest_of q else q)) ≡ (if b then rest_of (if c then rest_of q else q) else (if c then rest_of q else q))
recv_recv true true q h = absurd (h refl refl)
recv_recv true false q h = refl
recv_recv false true q h = refl
recv_recv false false q h = refl

changes_commute : (x y : Event) (u : Triple) (q : List Load)
    → (has_kind (Sends u) x ≡ true → has_kind (Sends u) y ≡ true → ⊥)
    → (has_kind (Receives u) x ≡ true → has_kind (Receives u) y ≡ true → ⊥)
    → (has_kind (Sends u) x ≡ true → has_kind (Receives u) y ≡ true → q ≡ [] → ⊥)
    → (has_kind (Receives u) x ≡ true → has_kind (Sends u) y ≡ true → q ≡ [] → ⊥)
    → changed y u (changed x u q) ≡ changed x u (changed y u q)
changes_commute (event.Send p s a b l) (event.Send p' s' a' b' l') u q h g i j = send_send _ _ q l l' h
changes_commute (event.Send p s a b l) (event.Recv p' s' a' b' l') u q h g i j = send_recv _ _ q l i
changes_commute (event.Recv p s a b l) (event.Send p' s' a' b' l') u q h g i j = sym (send_recv _ _ q l' (λ c d. j d c))
changes_commute (event.Recv p s a b l) (event.Recv p' s' a' b' l') u q h g i j = recv_recv _ _ q g
changes_commute (event.Send p s a b l) _ u q h g i j = refl
changes_commute (event.Recv p s a b l) _ u q h g i j = refl
changes_commute _ y u q h g i j = refl

-- ---- which event fits before and after another event

rest_shorter : (q : List Load) → length (rest_of q) ≤ length q
rest_shorter [] = omega arith
rest_shorter (l ∷ q) = omega arith

room_before : (x : Event) (t : Triple) (q : List Load) (c : ℕ) → (has_kind (Receives t) x ≡ true → length q < c) → nat_lt (length (changed x t q)) c ≡ true → nat_lt (length q) c ≡ true
room_before (event.Send p s a b l) t q c room h = go (triple_eq t (s, a, b)) h
  where
    go : (z : Bool) → nat_lt (length (if z then q ++ l ∷ [] else q)) c ≡ true → nat_lt (length q) c ≡ true
    go true i = let lt = ltb-true (length (q ++ l ∷ [])) c i in lt-ltb (length q) c (omega (arith, lt, length-append q (l ∷ [])))
    go false i = i
room_before (event.Recv p s a b l) t q c room h = go (triple_eq t (s, a, b)) room h
  where
    go : (z : Bool) → (z ≡ true → length q < c) → nat_lt (length (if z then rest_of q else q)) c ≡ true → nat_lt (length q) c ≡ true
    go true r i = lt-ltb (length q) c (r refl)
    go false r i = i
room_before _ t q c room h = h

room_after : (y : Event) (t : Triple) (q : List Load) (c : ℕ) → (has_kind (Sends t) y ≡ true → ⊥) → nat_lt (length q) c ≡ true → nat_lt (length (changed y t q)) c ≡ true
room_after (event.Send p s a b l) t q c other h = go (triple_eq t (s, a, b)) other
  where
    go : (z : Bool) → (z ≡ true → ⊥) → nat_lt (length (if z then q ++ l ∷ [] else q)) c ≡ true
    go true o = absurd (o refl)
    go false o = h
room_after (event.Recv p s a b l) t q c other h = go (triple_eq t (s, a, b))
  where
    go : (z : Bool) → nat_lt (length (if z then rest_of q else q)) c ≡ true
    go true = let lt = ltb-true (length q) c h in lt-ltb (length (rest_of q)) c (omega (arith, lt, rest_shorter q))
    go false = h
room_after _ t q c other h = h

same_first : (a l : Load) (q r rest : List Load) → a ∷ q ≡ l ∷ rest → (s : List Load) × (a ∷ r ≡ l ∷ s)
same_first a l q r rest h = let i : a ≡ l = cc in (r, ap (λ (z : Load). z ∷ r) i)

first_before : (x : Event) (t : Triple) (q rest : List Load) (l : Load) → (has_kind (Sends t) x ≡ true → q ≡ [] → ⊥) → (has_kind (Receives t) x ≡ true → ⊥) → changed x t q ≡ l ∷ rest → (s : List Load) × (q ≡ l ∷ s)
first_before (event.Send p s a b l') t q rest l some other h = go (triple_eq t (s, a, b)) some q refl h
  where
    go : (z : Bool) → (z ≡ true → q ≡ [] → ⊥) → (r : List Load) → q ≡ r → (if z then q ++ l' ∷ [] else q) ≡ l ∷ rest → (s : List Load) × (q ≡ l ∷ s)
    go true o [] i j = absurd (o refl i)
    go true o (c ∷ r) i j = let f = same_first c l (r ++ l' ∷ []) r rest (ap (λ z. z ++ l' ∷ []) (sym i) ∙ j) in (f.0, i ∙ f.1)
    go false o r i j = (rest, j)
first_before (event.Recv p s a b l') t q rest l some other h = go (triple_eq t (s, a, b)) other h
  where
    go : (z : Bool) → (z ≡ true → ⊥) → (if z then rest_of q else q) ≡ l ∷ rest → (s : List Load) × (q ≡ l ∷ s)
    go true o i = absurd (o refl)
    go false o i = (rest, i)
first_before _ t q rest l some other h = (rest, h)

first_after : (y : Event) (t : Triple) (q rest : List Load) (l : Load) → (has_kind (Receives t) y ≡ true → ⊥) → q ≡ l ∷ rest → (s : List Load) × (changed y t q ≡ l ∷ s)
first_after (event.Send p s a b l') t q rest l other h = go (triple_eq t (s, a, b))
  where
    go : (z : Bool) → (r : List Load) × ((if z then q ++ l' ∷ [] else q) ≡ l ∷ r)
    go true = (rest ++ l' ∷ [], ap (λ z. z ++ l' ∷ []) h)
    go false = (rest, h)
first_after (event.Recv p s a b l') t q rest l other h = go (triple_eq t (s, a, b)) other
  where
    go : (z : Bool) → (z ≡ true → ⊥) → (r : List Load) × ((if z then rest_of q else q) ≡ l ∷ r)
    go true o = absurd (o refl)
    go false o = (rest, h)
first_after _ t q rest l other h = (rest, h)

-- y fits before x if it fits after x
fits_before : (cap : Option ℕ) (n m : NetworkState) (x y : Event) → ((u : Triple) → queue_of m u ≡ changed x u (queue_of n u))
    → ((t : Triple) → has_kind (Sends t) x ≡ true → has_kind (Receives t) y ≡ true → queue_of n t ≡ [] → ⊥)
    → ((t : Triple) → has_kind (Receives t) x ≡ true → has_kind (Receives t) y ≡ true → ⊥)
    → ((t : Triple) (c : ℕ) → cap ≡ Some c → has_kind (Receives t) x ≡ true → has_kind (Sends t) y ≡ true → length (queue_of n t) < c)
    → Fits cap m y → Fits cap n y
fits_before None n m x (event.Send p s a b l) queues some other room h = refl
fits_before (Some c) n m x (event.Send p s a b l) queues some other room h =
    room_before x (s, a, b) (queue_of n (s, a, b)) c (λ i. room (s, a, b) c refl i (triple_same (s, a, b))) (ap (λ (z : List Load). nat_lt (length z) c) (sym (queues (s, a, b))) ∙ h)
fits_before cap n m x (event.Recv p s a b l) queues some other room h =
    first_before x (s, a, b) (queue_of n (s, a, b)) h.0 l (λ i. some (s, a, b) i (triple_same (s, a, b))) (λ i. other (s, a, b) i (triple_same (s, a, b))) (sym (queues (s, a, b)) ∙ h.1)
fits_before cap n m x (event.Start c s ps) queues some other room h = tt
fits_before cap n m x (event.Test p b) queues some other room h = tt
fits_before cap n m x (event.Set p y v) queues some other room h = tt
fits_before cap n m x (event.Show p v) queues some other room h = tt
fits_before cap n m x (event.Host p y f a b v) queues some other room h = tt

-- x fits after y if it fits before y
fits_after : (cap : Option ℕ) (n m : NetworkState) (x y : Event) → ((u : Triple) → queue_of m u ≡ changed y u (queue_of n u))
    → ((t : Triple) → has_kind (Sends t) x ≡ true → has_kind (Sends t) y ≡ true → ⊥)
    → ((t : Triple) → has_kind (Receives t) x ≡ true → has_kind (Receives t) y ≡ true → ⊥)
    → Fits cap n x → Fits cap m x
fits_after None n m (event.Send p s a b l) y queues sends receives h = refl
fits_after (Some c) n m (event.Send p s a b l) y queues sends receives h =
    ap (λ (z : List Load). nat_lt (length z) c) (queues (s, a, b)) ∙ room_after y (s, a, b) (queue_of n (s, a, b)) c (λ i. sends (s, a, b) (triple_same (s, a, b)) i) h
fits_after cap n m (event.Recv p s a b l) y queues sends receives h =
    let f = first_after y (s, a, b) (queue_of n (s, a, b)) h.0 l (λ i. receives (s, a, b) (triple_same (s, a, b)) i) h.1 in
    (f.0, queues (s, a, b) ∙ f.1)
fits_after cap n m (event.Start c s ps) y queues sends receives h = tt
fits_after cap n m (event.Test p b) y queues sends receives h = tt
fits_after cap n m (event.Set p z v) y queues sends receives h = tt
fits_after cap n m (event.Show p v) y queues sends receives h = tt
fits_after cap n m (event.Host p z f a b v) y queues sends receives h = tt

-- what is received is first in its queue
received_some : (cap : Option ℕ) (n : NetworkState) (x : Event) (t : Triple) → Fits cap n x → has_kind (Receives t) x ≡ true → queue_of n t ≡ [] → ⊥
received_some cap n (event.Recv p s a b l) t h i j =
    let is : t ≡ (s, a, b) = same_triple t (s, a, b) i in
    let f : [] ≡ l ∷ h.0 = sym j ∙ ap (queue_of n) is ∙ h.1 in
    absurd cc
received_some cap n (event.Send p s a b l) t h i j = absurd (true≢false (sym i))
received_some cap n (event.Start c s ps) t h i j = absurd (true≢false (sym i))
received_some cap n (event.Test p b) t h i j = absurd (true≢false (sym i))
received_some cap n (event.Set p z v) t h i j = absurd (true≢false (sym i))
received_some cap n (event.Show p v) t h i j = absurd (true≢false (sym i))
received_some cap n (event.Host p z f a b v) t h i j = absurd (true≢false (sym i))

-- ---- the machines of processes that don't participate stay as they were

off_from : (l q : ℕ) (x : Event) (js : List (ℕ × Machine)) → AreParts l x js → (participates q x ≡ true → ⊥) → AreOff q js
off_from l q x [] parts none = tt
off_from l q x (j ∷ js) parts none = (λ same. none (subst (λ z. participates z x ≡ true) (sym same) parts.1), off_from l q x js parts.2 none)

clear_from : (l l1 l2 : ℕ) (x1 x2 : Event) (ks js : List (ℕ × Machine)) → AreParts l2 x2 ks → AreParts l1 x1 js → ShareNoProcess x2 x1 → ((q : ℕ) → participates q x1 ≡ true → q < l1 → q < l) → AreClear l ks js
clear_from l l1 l2 x1 x2 ks [] other parts apart within = tt
clear_from l l1 l2 x1 x2 ks (j ∷ js) other parts apart within =
    (within j.0 parts.1 parts.0, off_from l2 j.0 x2 ks other (λ i. apart j.0 i parts.1), clear_from l l1 l2 x1 x2 ks js other parts.2 apart within)

module _ (e : Endpoints) (hosts : Hosts) (cap : Option ℕ) where
  pub stays : (n : NetworkState) (x : Event) (m : NetworkState) → NetworkSteps e hosts cap n x m → (q : ℕ) → q < length n.machines → (participates q x ≡ true → ⊥) → slice_get m.machines q ≡ slice_get n.machines q
  stays n x m step q lt none =
      let s : StepEffect e hosts cap n x m = step_effect e hosts cap n x m step in
      ap (λ (z : List Machine). slice_get z q) s.machines
      ∙ get_append_left (with_machines n.machines s.put) s.new q (omega (arith, lt, with_length n.machines s.put))
      ∙ with_other n.machines s.put q (off_from (length n.machines) q x s.put s.parts none)

  -- ---- the diamond

  module _ (n m k : NetworkState) (x y : Event) (exclusive : HasExclusiveRoles e n) (free : AreIndependent cap n x y) (a : NetworkSteps e hosts cap n x m) (b : NetworkSteps e hosts cap m y k) where
    s : StepEffect e hosts cap n x m
    s = step_effect e hosts cap n x m a

    t : StepEffect e hosts cap m y k
    t = step_effect e hosts cap m y k b

    -- the processes of y were there before x, and x leaves their machines as they were
    old : (q : ℕ) → participates q y ≡ true → q < length m.machines → q < length n.machines
    old q part lt = go (cases_lt q (length n.machines))
      where
        go : (q < length n.machines) ⊎ (length n.machines ≤ q) → q < length n.machines
        go (inl h) = h
        go (inr h) = absurd (free.apart q (s.fresh q h lt) part)

    stood : (q : ℕ) → participates q y ≡ true → q < length m.machines → slice_get n.machines q ≡ slice_get m.machines q
    stood q part lt = sym (stays n x m a q (old q part lt) (λ i. free.apart q i part))

    -- x and y don't both send, or both receive, on one triple
    clash : (kind : EventKind) (part : ℕ × NameId) → role_of kind ≡ Some part → has_kind kind x ≡ true → has_kind kind y ≡ true → ⊥
    clash kind part role i j =
        let u = s.user kind part role i in
        let w = t.user kind part role j in
        let there : IsRoleHolder e m w.0 part = w.2 in
        let back : slice_get n.machines w.0 ≡ slice_get m.machines w.0 = stood w.0 w.1 (slice_get_within m.machines w.0 there.machine there.there) in
        exclusive u.0 w.0 part (λ same. free.apart u.0 u.1 (subst (λ z. participates z y ≡ true) (sym same) w.1)) u.2
        (record { machine = there.machine; there = back ∙ there.there; place = there.place; at_place = there.at_place; name = there.name; bound = there.bound })

    no_start : (z : Event) → (has_kind Starts z ≡ true → ⊥) → has_kind Starts z ≡ false
    no_start z h = false_from_ne_true (has_kind Starts z) h

    none_new : has_kind Starts x ≡ false → length m.machines ≡ length n.machines
    none_new h = ap length s.machines ∙ ap (λ (z : List Machine). length (with_machines n.machines s.put ++ z)) (s.added h) ∙ ap length (append-nil (with_machines n.machines s.put)) ∙ with_length n.machines s.put

    same_sid : has_kind Starts x ≡ false → n.sid ≡ m.sid
    same_sid h = let i : one_if (has_kind Starts x) ≡ 0 = ap one_if h in let j = s.sid in omega arith

    ready : IsReady m n y
    ready = record {
      same = stood;
      sid = λ i. same_sid (no_start x (λ j. free.starts j i));
      count = λ i. sym (none_new (no_start x (λ j. free.starts j i)));
    }

    before : StepElsewhere e hosts cap n y t.put t.new
    before = t.elsewhere n ready (fits_before cap n m x y s.queues free.waits (λ u i j. clash (Receives u) (u.0, u.2) refl i j) free.room t.fits)

    ready_after : IsReady n before.state x
    ready_after = record {
      same = λ q part lt. stays n y before.state before.steps q lt (λ i. free.apart q part i);
      sid = λ i. (let f : has_kind Starts y ≡ false = no_start y (λ j. free.starts i j) in let g : one_if (has_kind Starts y) ≡ 0 = ap one_if f in let h = before.sid in omega arith);
      count = λ i. ap length before.machines ∙ ap (λ (z : List Machine). length (with_machines n.machines t.put ++ z)) (t.added (no_start y (λ j. free.starts i j))) ∙ ap length (append-nil (with_machines n.machines t.put)) ∙ with_length n.machines t.put;
    }

    after : StepElsewhere e hosts cap before.state x s.put s.new
    after = s.elsewhere before.state ready_after (fits_after cap n before.state x y before.queues (λ u i j. clash (Sends u) (u.0, u.1) refl i j) (λ u i j. clash (Receives u) (u.0, u.2) refl i j) s.fits)

    turned_apart : ShareNoProcess y x
    turned_apart q i j = free.apart q j i

    machines_same : (b : Bool) → has_kind Starts x ≡ b → k.machines ≡ after.state.machines
    machines_same true h =
        let none : t.new ≡ [] = t.added (no_start y (λ j. free.starts h j)) in
        t.machines
        ∙ ap (λ (z : List Machine). with_machines m.machines t.put ++ z) none
        ∙ append-nil (with_machines m.machines t.put)
        ∙ ap (λ (z : List Machine). with_machines z t.put) s.machines
        ∙ machines_commute n.machines s.put t.put s.new (clear_from (length n.machines) (length m.machines) (length n.machines) y x s.put t.put s.parts t.parts free.apart old)
        ∙ ap (λ (z : List Machine). with_machines z s.put ++ s.new) (sym (append-nil (with_machines n.machines t.put)) ∙ ap (λ (z : List Machine). with_machines n.machines t.put ++ z) (sym none) ∙ sym before.machines)
        ∙ sym after.machines
    machines_same false h =
        let none : s.new ≡ [] = s.added h in
        t.machines
        ∙ ap (λ (z : List Machine). with_machines z t.put ++ t.new) (s.machines ∙ ap (λ (z : List Machine). with_machines n.machines s.put ++ z) none ∙ append-nil (with_machines n.machines s.put))
        ∙ sym (machines_commute n.machines t.put s.put t.new (clear_from (length n.machines) (length n.machines) (length m.machines) x y t.put s.put t.parts s.parts turned_apart (λ q i lt. lt)))
        ∙ ap (λ (z : List Machine). with_machines z s.put) (sym before.machines)
        ∙ sym (append-nil (with_machines before.state.machines s.put))
        ∙ ap (λ (z : List Machine). with_machines before.state.machines s.put ++ z) (sym none)
        ∙ sym after.machines

    queues_same : (u : Triple) → queue_of k u ≡ queue_of after.state u
    queues_same u =
        t.queues u
        ∙ ap (changed y u) (s.queues u)
        ∙ changes_commute x y u (queue_of n u) (λ i j. clash (Sends u) (u.0, u.1) refl i j) (λ i j. clash (Receives u) (u.0, u.2) refl i j) (free.waits u) (λ i j. received_some cap n x u s.fits i)
        ∙ ap (changed x u) (sym (before.queues u))
        ∙ sym (after.queues u)

    pub commute : Commute e hosts cap n x y k
    commute = record {
      mid = before.state;
      last = after.state;
      first = before.steps;
      second = after.steps;
      same = record {
        machines = machines_same (has_kind Starts x) refl;
        queues = queues_same;
        sid = (let a1 = s.sid in let a2 = t.sid in let a3 = before.sid in let a4 = after.sid in omega arith);
      };
    }
