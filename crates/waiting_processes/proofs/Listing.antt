-- A process that an event leaves is listed where it was.
use Rattle.std.proofs.Common.{◌≡◌, ℕ, zero, suc, ◌<◌, ◌==◌, ◌&&◌, ◌||◌, Bool, true, false, cond, List, [], ◌∷◌, length, refl, sym, ap, ◌∙◌, Option, Some, None, is_some}
use Rattle.std.specs.Prelude.{slice_get}
use Rattle.std.proofs.lemmas.Bool.{eqb-true, and_parts}
use Rattle.std.proofs.lemmas.Option.{slice_get_within}
use Rattle.std.specs.FinMap as fin
use Rattle.chor_base.specs.declared.names.NameId.{NameId}
use Rattle.chor_base.specs.declared.value.Load.{Load}
use Rattle.chor_base.specs.declared.event.Why.{Why}
use Rattle.chor_base.specs.declared.event.Why.TheVariants.{Absent, Full}
use Rattle.chor_base.specs.NameMap.{Variables}
use Rattle.endpoint_code.specs.declared.code.CodeNode.{CodeNode}
use Rattle.endpoint_code.specs.declared.code.CodeNode.TheVariants.{Join, Send, Recv, Pick, Branch, Throw, Catch, Set, Show, Host, If, Call, End}
use Rattle.endpoint_code.specs.declared.endpoints.Channel.{Channel as ChannelCode}
use Rattle.endpoint_code.specs.declared.endpoints.Endpoints.{Endpoints}
use Rattle.endpoint_code.specs.Network.{Sessions, Machine, NetworkState, Place, Taking, queue_of, has_room, place_of, channel_of}
use Rattle.endpoint_code.specs.NetworkRuns.{has_ended, joins_there, is_joined, absent_among, absent_on, waits_to_send, waits_for_first, waits_to_receive, node_waits, place_waits}
use Rattle.endpoint_code.specs.Scheduled.{is_listed, listed_at}
use Rattle.endpoint_machine.specs.declared.head.Head.{Head}
use Rattle.endpoint_machine.specs.declared.head.Head.TheVariants as head
use Rattle.endpoint_machine.specs.Heads.{head_of, place_head, node_head, sends_on, takes_on}
use Rattle.waiting_processes.specs.declared.waits.Awaited.{Awaited}
use Rattle.waiting_processes.specs.declared.waits.Awaited.TheVariants.{Queue, Channel}
use Rattle.waiting_processes.specs.Waits.{awaits_room, awaited_by, touched_by, awaited_of, awaited_in, awaited_at}
use Rattle.waiting_processes.specs.Untouched.{IsAt, IsOther, IsUnmoved, LeavesOthers, NobodyCame, listed_in}

-- what a process may wait for is the same in both states
abbrev pub IsAlike : Endpoints → NetworkState → NetworkState → Option Awaited → Type 0
IsAlike e n m None = Unit {0}
IsAlike e n m (Some (Queue s a b)) = queue_of m (s, a, b) ≡ queue_of n (s, a, b)
IsAlike e n m (Some (Channel c)) = (r : NameId) → is_joined e m.machines c r ≡ is_joined e n.machines c r

module _ (e : Endpoints) (cap : Option ℕ) (n m : NetworkState) where
  absent_alike : (c own : NameId) → ((r : NameId) → is_joined e m.machines c r ≡ is_joined e n.machines c r) → (rs : List NameId) → absent_among e m.machines c own rs ≡ absent_among e n.machines c own rs
  absent_alike c own same [] = refl
  absent_alike c own same (r ∷ rs) =
      ap (λ (b : Bool). cond ((r.0 == own.0) || b) (absent_among e m.machines c own rs) (Some (Absent c r))) (same r)
      ∙ ap (λ (o : Option Why). cond ((r.0 == own.0) || is_joined e n.machines c r) o (Some (Absent c r))) (absent_alike c own same rs)

  absent_on_alike : (c own : NameId) → ((r : NameId) → is_joined e m.machines c r ≡ is_joined e n.machines c r) → (k : Option ChannelCode) → absent_on e m.machines c own k ≡ absent_on e n.machines c own k
  absent_on_alike c own same None = refl
  absent_on_alike c own same (Some k) = absent_alike c own same k.active

  sends_alike : (b : NameId) (o : Option (ℕ × NameId)) → IsAlike e n m (awaited_of cap (sends_on o b)) → waits_to_send cap m b o ≡ waits_to_send cap n b o
  sends_alike b None same = refl
  sends_alike b (Some (s, a)) same = go cap same
    where
      go : (c : Option ℕ) → IsAlike e n m (awaits_room c (Queue s a b)) → waits_to_send c m b (Some (s, a)) ≡ waits_to_send c n b (Some (s, a))
      go None h = refl
      go (Some c) h = ap (λ (q : List Load). cond (has_room (Some c) q) None (Some (Full s a b))) h

  receives_alike : (a : NameId) (o : Option (ℕ × NameId)) (f : Load → Option Taking) → IsAlike e n m (awaited_of cap (takes_on o a)) → waits_to_receive m a o f ≡ waits_to_receive n a o f
  receives_alike a None f same = refl
  receives_alike a (Some (s, b)) f same = ap (waits_for_first s a b f) same

  node_alike : (vars : Variables) (ss : Sessions) (node : CodeNode) → IsAlike e n m (awaited_of cap (node_head ss node)) → node_waits e cap m vars ss node ≡ node_waits e cap n vars ss node
  node_alike vars ss (Join c r k next) same = absent_on_alike c r same (channel_of e.channels c)
  node_alike vars ss (Send k b x next) same = sends_alike b (fin.get ss k.0) same
  node_alike vars ss (Pick k b l next) same = sends_alike b (fin.get ss k.0) same
  node_alike vars ss (Throw k b h next) same = sends_alike b (fin.get ss k.0) same
  node_alike vars ss (Recv k a x next) same = receives_alike a (fin.get ss k.0) _ same
  node_alike vars ss (Branch k a arms) same = receives_alike a (fin.get ss k.0) _ same
  node_alike vars ss (Catch k a h next) same = receives_alike a (fin.get ss k.0) _ same
  node_alike vars ss (Set x v next) same = refl
  node_alike vars ss (Show v next) same = refl
  node_alike vars ss (Host x f v w next) same = refl
  node_alike vars ss (If v c d) same = refl
  node_alike vars ss (Call f p ks) same = refl
  node_alike vars ss End same = refl

  place_alike : (vars : Variables) (o : Option Place) → IsAlike e n m (awaited_of cap (place_head o)) → place_waits e cap m vars o ≡ place_waits e cap n vars o
  place_alike vars None same = refl
  place_alike vars (Some q) same = node_alike vars q.sessions q.node same

  listed_alike : (w : Machine) → IsAlike e n m (awaited_of cap (head_of e w)) → is_listed e cap m w ≡ is_listed e cap n w
  listed_alike w same = ap (λ (o : Option Why). cond (has_ended e w) false (cond (is_some o) false true) && listed_at e (place_of e w)) (place_alike w.vars (place_of e w) same)

  -- the same machine
  pub stays_listed : (p : ℕ) → IsUnmoved n m p → IsAlike e n m (awaited_at e cap n p) → listed_in e cap m (slice_get m.machines p) ≡ listed_in e cap n (slice_get n.machines p)
  stays_listed p same alike = ap (listed_in e cap m) same ∙ go (slice_get n.machines p) alike
    where
      go : (o : Option Machine) → IsAlike e n m (awaited_in e cap o) → listed_in e cap m o ≡ listed_in e cap n o
      go None h = refl
      go (Some w) h = listed_alike w h

-- ---- who joins a channel

pub joining_head : (cap : Option ℕ) (o : _) (c r : NameId) → joins_there o c r ≡ true → awaited_of cap (place_head o) ≡ Some (Channel c)
joining_head cap None c r h = absurd cc
joining_head cap (Some p) c r h = at_node p.node p.sessions h
  where
    at_node : (node : CodeNode) (ss : Sessions) → joins_there (Some (record { node = node; sessions = ss })) c r ≡ true → awaited_of cap (node_head ss node) ≡ Some (Channel c)
    at_node (Join d q k next) ss i = ap (λ (j : ℕ). Some (Channel (let name : NameId = record { 0 = j } in name))) (eqb-true d.0 c.0 (and_parts (d.0 == c.0) (q.0 == r.0) i).0)
    at_node (Send k b y next) ss i = absurd cc
    at_node (Recv k b y next) ss i = absurd cc
    at_node (Pick k b l next) ss i = absurd cc
    at_node (Branch k b arms) ss i = absurd cc
    at_node (Throw k b l next) ss i = absurd cc
    at_node (Catch k b l next) ss i = absurd cc
    at_node (Set y v next) ss i = absurd cc
    at_node (Show v next) ss i = absurd cc
    at_node (Host y f a b next) ss i = absurd cc
    at_node (If v a b) ss i = absurd cc
    at_node (Call f o ks) ss i = absurd cc
    at_node End ss i = absurd cc

-- a process that joins
record Joiner (e : Endpoints) (ms : List Machine) (c r : NameId) : Type 0 where
  place : ℕ
  machine : Machine
  there : slice_get ms place ≡ Some machine
  joins : joins_there (place_of e machine) c r ≡ true

joiner_of : (e : Endpoints) (ms : List Machine) (c r : NameId) → is_joined e ms c r ≡ true → Joiner e ms c r
joiner_of e [] c r h = absurd cc
joiner_of e (w ∷ ms) c r h = go (joins_there (place_of e w) c r) refl h (joiner_of e ms c r)
  where
    go : (b : Bool) → joins_there (place_of e w) c r ≡ b → (b || is_joined e ms c r) ≡ true → (is_joined e ms c r ≡ true → Joiner e ms c r) → Joiner e (w ∷ ms) c r
    go true j k more = record { place = zero; machine = w; there = refl; joins = j }
    go false j k more = let f = more k in record { place = suc f.place; machine = f.machine; there = f.there; joins = f.joins }

joined_of : (e : Endpoints) (ms : List Machine) (c r : NameId) (i : ℕ) (w : Machine) → slice_get ms i ≡ Some w → joins_there (place_of e w) c r ≡ true → is_joined e ms c r ≡ true
joined_of e [] c r i w h j = absurd cc
joined_of e (v ∷ ms) c r zero w h j = let same : v ≡ w = cc in ap (λ (b : Bool). b || is_joined e ms c r) (ap (λ (u : Machine). joins_there (place_of e u) c r) same ∙ j)
joined_of e (v ∷ ms) c r (suc i) w h j = go (joins_there (place_of e v) c r) (joined_of e ms c r i w h j)
  where
    go : (b : Bool) → is_joined e ms c r ≡ true → (b || is_joined e ms c r) ≡ true
    go true k = refl
    go false k = k

both_ways : (a b : Bool) → (a ≡ true → b ≡ true) → (b ≡ true → a ≡ true) → a ≡ b
both_ways true true f g = refl
both_ways true false f g = sym (f refl)
both_ways false true f g = g refl
both_ways false false f g = refl

-- ---- a process that an event leaves

module _ (e : Endpoints) (cap : Option ℕ) (n m : NetworkState) (p : ℕ) (h : Head) (at : IsAt e n p h) (left : LeavesOthers e cap n p h m) where
  -- who joins the channel that another joins, before or after, hasn't moved
  came : (q : ℕ) (c : NameId) → IsOther e cap n p h q → awaited_at e cap n q ≡ Some (Channel c) → NobodyCame e cap n m (Some (Channel c)) → (r : NameId) → is_joined e m.machines c r ≡ is_joined e n.machines c r
  came q c other waits nobody r = both_ways (is_joined e m.machines c r) (is_joined e n.machines c r) before after
    where
      before : is_joined e m.machines c r ≡ true → is_joined e n.machines c r ≡ true
      before j =
          let f = joiner_of e m.machines c r j in
          let waits : awaited_at e cap m f.place ≡ Some (Channel c) = ap (awaited_in e cap) f.there ∙ joining_head cap (place_of e f.machine) c r f.joins in
          joined_of e n.machines c r f.place f.machine (sym (nobody f.place waits) ∙ f.there) f.joins

      untouched : touched_by h ≡ Some (Channel c) → ⊥
      untouched t = other.apart (Channel c) t waits

      own_joins : awaited_in e cap (Some at.machine) ≡ Some (Channel c) → touched_by h ≡ Some (Channel c)
      own_joins w = go h (sym (ap (awaited_of cap) at.head) ∙ w)
        where
          go : (k : Head) → awaited_by cap k ≡ Some (Channel c) → touched_by k ≡ Some (Channel c)
          go (head.Take s a b) i = i
          go (head.Join d o) i = i
          go (head.Out s a b) i = absurd (room cap i)
            where
              room : (o : Option ℕ) → awaits_room o (Queue s a b) ≡ Some (Channel c) → ⊥
              room None j = cc
              room (Some k) j = cc
          go head.Local i = absurd cc
          go head.Ended i = absurd cc

      after : is_joined e n.machines c r ≡ true → is_joined e m.machines c r ≡ true
      after j =
          let f = joiner_of e n.machines c r j in
          let here : awaited_at e cap n f.place ≡ Some (Channel c) = ap (awaited_in e cap) f.there ∙ joining_head cap (place_of e f.machine) c r f.joins in
          let another : IsOther e cap n p h f.place = record {
            another = λ is. untouched (own_joins (sym (ap (awaited_in e cap) at.there) ∙ sym (ap (awaited_at e cap n) is) ∙ here));
            apart = λ w t k. untouched (t ∙ sym k ∙ here);
          } in
          joined_of e m.machines c r f.place f.machine (left.machines f.place (slice_get_within n.machines f.place f.machine f.there) another ∙ f.there) f.joins

  alike : (q : ℕ) → IsOther e cap n p h q → (w : Option Awaited) → awaited_at e cap n q ≡ w → NobodyCame e cap n m w → IsAlike e n m w
  alike q other None waits nobody = tt
  alike q other (Some (Queue s a b)) waits nobody = left.queues (s, a, b) (λ t. other.apart (Queue s a b) t waits)
  alike q other (Some (Channel c)) waits nobody = came q c other waits nobody

  -- Each other process is listed where it was, unless another has come to the channel that it joins
  pub others_listed : (q : ℕ) → q < length n.machines → IsOther e cap n p h q → NobodyCame e cap n m (awaited_at e cap n q) → listed_in e cap m (slice_get m.machines q) ≡ listed_in e cap n (slice_get n.machines q)
  others_listed q lt other nobody = stays_listed e cap n m q (left.machines q lt other) (alike q other (awaited_at e cap n q) refl nobody)
