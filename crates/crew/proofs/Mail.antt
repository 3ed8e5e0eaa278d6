-- Sends and receipts of a worker's process.
use Rattle.std.proofs.Common.{◌≡◌, ℕ, pos, zero, suc, ◌+◌, ◌*◌, ◌<◌, inl, inr, Bool, true, false, List, [], ◌∷◌, ◌++◌, length, get_or, refl, sym, ap, ◌∙◌, subst, Option, Some, None, arith}
use Rattle.std.specs.Prelude.{slice_get, slice_set, map, All, not}
use Rattle.std.proofs.lemmas.List.{map-set, length-map}
use Rattle.std.proofs.lemmas.List.Elements.{All-set, All-nil}
use Rattle.std.proofs.lemmas.Option.{slice_get_within, get_or_from_slice_get}
use Rattle.chor_base.proofs.Lists.{get_set_other}
use Rattle.crew.specs.Turns.{HasHead}
use Rattle.chor_base.specs.declared.names.NameId.{NameId}
use Rattle.chor_base.specs.declared.value.Load.{Load}
use Rattle.chor_base.specs.declared.event.Event.{Event}
use Rattle.chor_base.specs.declared.event.Event.TheVariants as event
use Rattle.endpoint_code.specs.declared.endpoints.Endpoints.{Endpoints}
use Rattle.endpoint_code.specs.Network.{Machine, NetworkState, NetworkSteps, MachineAnswers, Makes, machine_makes, moved, with_queue, queue_of, has_room, put_if, loads_for}
use Rattle.endpoint_code.specs.Network as net
use Rattle.endpoint_machine.specs.declared.head.Head.{Head}
use Rattle.endpoint_machine.specs.declared.head.Head.TheVariants as head
use Rattle.endpoint_machine.specs.Heads.{head_of}
use Rattle.endpoint_machine.specs.Acts.{load_of}
use Rattle.endpoint_machine.specs.Bound.{IsBound}
use Rattle.endpoint_machine.specs.Steps.{HasSent, HasTaken}
use Rattle.endpoint_machine.specs.Views.{MachineView}
use Rattle.session_starts.specs.Machines.{standing_of, number_of}
use Rattle.session_starts.proofs.Joins.{mapped_get, bound_here}
use Rattle.net_core.proofs.Moves.{free_answers}
use Rattle.post_office.specs.Lanes.{loads_in}
use Rattle.post_office.specs.Answers.{IsSame, HasNoted}
use Rattle.post_office.specs.Views.{OfficeView, CanMake, loads_at, is_full}
use Rattle.post_office.specs.Kept.{IsKept}
use Rattle.post_office.proofs.Acting.{after_more}
use Rattle.post_office.proofs.Callers.{one_state, can_make}
use Rattle.crew.specs.Crews.{CrewView, number_at}
use Rattle.crew.specs.Ahead.{events_by, ComesTo, IsOwn, IsAhead, IsUpToDate}
use Rattle.crew.proofs.Ahead.{comes_same}
use Rattle.crew.proofs.Numbers.{number_one, set_own, is_or_not}
use Rattle.crew.proofs.Notes.{same_run, same_ahead, same_up}
use Rattle.crew.proofs.Adding.{one_owner}
use Rattle.post_office.specs.Owners.{IsMadeByOwner}
use Rattle.crew.specs.declared.share.Share.{Share}
use Rattle.chor_base.specs.Events.{actors_of}
use Rattle.post_office.proofs.Steps.{is_start}

pub queues_of : (a b : OfficeView) (kept : IsKept a) (s : IsSame a b) (c : CrewView) (u : IsUpToDate a c) → loads_in b.queues.lanes ≡ (same_up a b c s u).state.queues
queues_of a b kept s c u = s.queues ∙ kept.queues ∙ ap (λ (n : NetworkState). n.queues) (one_state a kept.state u.state kept.after u.after)

mapped : {Y : Type 0} (f : MachineView → Y) (ms : List MachineView) (i : ℕ) (d : MachineView) → i < length ms → slice_get (map f ms) i ≡ Some (f (get_or ms i d))
mapped f [] i d l = absurd (omega (arith, l))
mapped f (m ∷ ms) zero d l = refl
mapped f (m ∷ ms) (suc i) d l = mapped f ms i d (omega (arith, l))

module _ (b : OfficeView) (c : CrewView) (u : IsUpToDate b c) (none : c.notes ≡ []) (queues : loads_in b.queues.lanes ≡ u.state.queues) (place : ℕ) (d new : MachineView) (lt : place < length c.machines) (same : new.number ≡ (get_or c.machines place d).number) (bound : IsBound b.endpoints new.machine) where
  abbrev old : MachineView
  old = get_or c.machines place d

  abbrev n : NetworkState
  n = u.state

  named : (get_or c.machines place d).number ≡ number_at c place
  named = u.ahead.numbers place (get_or c.machines place d).number (mapped number_of c.machines place d lt)

  -- with nothing to note, the process is that of the state
  as_state : (j : ℕ) → slice_get u.state.machines (number_at c j) ≡ slice_get (map standing_of c.machines) j
  as_state j = go (slice_get u.state.machines (number_at c j)) (slice_get (map standing_of c.machines) j) (subst (λ (xs : List Event). ComesTo b.endpoints b.hosts (number_at c j) (events_by (number_at c j) xs) (slice_get u.state.machines (number_at c j)) (slice_get (map standing_of c.machines) j)) none (u.ahead.standing j))
    where
      go : (o r : Option Machine) → ComesTo b.endpoints b.hosts (number_at c j) [] o r → o ≡ r
      go None None h = refl
      go None (Some m) h = absurd h
      go (Some m) None h = absurd h
      go (Some m) (Some k) h = ap (λ (w : Machine). Some w) h

  there : slice_get u.state.machines (get_or c.machines place d).number ≡ Some (get_or c.machines place d).machine
  there = ap (slice_get u.state.machines) named ∙ as_state place ∙ mapped standing_of c.machines place d lt

  -- another state, in which this process alone has moved
  pub mail_ahead : (k : NetworkState) (seen : ℕ) → k.machines ≡ slice_set u.state.machines (get_or c.machines place d).number new.machine → IsAhead b.endpoints b.hosts k (record c { machines = slice_set c.machines place new; seen = seen })
  mail_ahead k seen is = record {
    standing = at;
    numbers = λ i p at. u.ahead.numbers i p (ap (λ (l : List ℕ). slice_get l i) (sym (mapped_get number_of c.machines place d new lt same)) ∙ at);
    bound = subst (All (IsBound b.endpoints)) (sym set) (All-set (IsBound b.endpoints) (map standing_of c.machines) place new.machine bound u.ahead.bound);
    own = subst (λ (xs : List Event). All (IsOwn c) xs) (sym none) (All-nil (IsOwn c));
  }
    where
      set : map standing_of (slice_set c.machines place new) ≡ slice_set (map standing_of c.machines) place new.machine
      set = map-set standing_of c.machines place new

      long : length (map standing_of c.machines) ≡ length c.machines
      long = length-map c.machines standing_of

      moved_to : k.machines ≡ slice_set u.state.machines (number_at c place) new.machine
      moved_to = is ∙ ap (λ q. slice_set u.state.machines q new.machine) named

      alike : (j : ℕ) → slice_get k.machines (number_at c j) ≡ slice_get (map standing_of (slice_set c.machines place new)) j
      alike j = elim (is_or_not j place) [
        | inl eq ↦ subst (λ i. slice_get k.machines (number_at c i) ≡ slice_get (map standing_of (slice_set c.machines place new)) i) (sym eq)
            (ap (λ (ms : List Machine). slice_get ms (number_at c place)) moved_to
            ∙ set_own u.state.machines (number_at c place) new.machine (subst (λ q. q < length u.state.machines) named (slice_get_within u.state.machines (get_or c.machines place d).number (get_or c.machines place d).machine there))
            ∙ sym (ap (λ (l : List Machine). slice_get l place) set ∙ set_own (map standing_of c.machines) place new.machine (omega (arith, lt, long))))
        | inr apart ↦
            ap (λ (ms : List Machine). slice_get ms (number_at c j)) moved_to
            ∙ get_set_other u.state.machines (number_at c place) (number_at c j) new.machine (λ eq. apart (number_one c.share j place eq))
            ∙ as_state j
            ∙ sym (ap (λ (l : List Machine). slice_get l j) set ∙ get_set_other (map standing_of c.machines) place j new.machine apart)
      ]

      at : (j : ℕ) → ComesTo b.endpoints b.hosts (number_at c j) (events_by (number_at c j) c.notes) (slice_get k.machines (number_at c j)) (slice_get (map standing_of (slice_set c.machines place new)) j)
      at j =
          subst (λ (xs : List Event). ComesTo b.endpoints b.hosts (number_at c j) (events_by (number_at c j) xs) (slice_get k.machines (number_at c j)) (slice_get (map standing_of (slice_set c.machines place new)) j)) (sym none)
          (subst (λ (o : Option Machine). ComesTo b.endpoints b.hosts (number_at c j) [] (slice_get k.machines (number_at c j)) o) (alike j) (comes_same b.endpoints b.hosts (number_at c j) (slice_get k.machines (number_at c j))))

  pub mail_up : (k : NetworkState) (x : Event) (w seen : ℕ) (after : OfficeView) → k.machines ≡ slice_set u.state.machines (get_or c.machines place d).number new.machine → NetworkSteps b.endpoints b.hosts b.capacity u.state x k → HasNoted b w x after → seen ≡ length after.history → IsUpToDate after (record c { machines = slice_set c.machines place new; seen = seen })
  mail_up k x w seen after is step noted long =
      let later : OfficeView = record b { history = after.history } in
      record {
        seen = long;
        state = k;
        after = same_run later after k noted.endpoints noted.hosts noted.capacity refl (after_more b u.state k x w after.history noted.history u.after step);
        ahead = same_ahead b after k (record c { machines = slice_set c.machines place new; seen = seen }) noted.endpoints noted.hosts (mail_ahead k seen is);
      }

  -- ---- sends

  module _ (s : ℕ) (from to : NameId) (l : Load) (is : head_of b.endpoints (get_or c.machines place d).machine ≡ Some (head.Out s from to)) (load : load_of b.endpoints (get_or c.machines place d).machine ≡ Some l) (sent : HasSent b.endpoints (get_or c.machines place d).number (get_or c.machines place d).machine new.machine) where
    after_send : NetworkState
    after_send = with_queue (moved u.state (get_or c.machines place d).number new.machine.at new.machine.vars new.machine.sessions) (s, from, to) (queue_of u.state (s, from, to) ++ l ∷ [])

    send_step : (cap : Option ℕ) → has_room cap (queue_of u.state (s, from, to)) ≡ true → NetworkSteps b.endpoints b.hosts cap u.state (event.Send (get_or c.machines place d).number s from to l) after_send
    unfolding after_send
    send_step cap room =
        net.acts (get_or c.machines place d).number (pos 0)
        (subst (λ (o : Option Machine). MachineAnswers b.hosts b.endpoints o (pos 0)) (sym there) (free_answers b.endpoints b.hosts (get_or c.machines place d).machine (head.Out s from to) (pos 0) is (λ h. cc)))
        (ap (machine_makes b.endpoints cap u.state (get_or c.machines place d).number (pos 0)) there ∙ sent cap u.state (pos 0) s from to l is load
        ∙ ap (λ t. put_if t (moved u.state (get_or c.machines place d).number new.machine.at new.machine.vars new.machine.sessions) (get_or c.machines place d).number (s, from, to) l) room)

    pub send_can : CanMake b (event.Send (get_or c.machines place d).number s from to l)
    send_can = can_make b (event.Send (get_or c.machines place d).number s from to l) u.state after_send u.after (send_step None refl)

    pub send_up : (w seen : ℕ) (after : OfficeView) → is_full b (s, from, to) ≡ false → HasNoted b w (event.Send (get_or c.machines place d).number s from to l) after → seen ≡ length after.history → IsUpToDate after (record c { machines = slice_set c.machines place new; seen = seen })
    unfolding after_send
    send_up w seen after free noted long =
        let room : has_room b.capacity (queue_of u.state (s, from, to)) ≡ true = ap (λ qs. has_room b.capacity (loads_for qs (s, from, to))) (sym queues) ∙ open_room (has_room b.capacity (loads_at b.queues (s, from, to))) free in
        mail_up after_send (event.Send (get_or c.machines place d).number s from to l) w seen after refl (send_step b.capacity room) noted long
      where
        open_room : (t : Bool) → not t ≡ false → t ≡ true
        open_room true i = refl
        open_room false i = absurd cc

  -- ---- receipts

  module _ (s : ℕ) (from to : NameId) (l : Load) (is : head_of b.endpoints (get_or c.machines place d).machine ≡ Some (head.Take s from to)) (first : slice_get (loads_at b.queues (s, from, to)) 0 ≡ Some l) (taken : HasTaken b.endpoints (get_or c.machines place d).number l (get_or c.machines place d).machine new.machine) where
    rest_of : (ls : List Load) → slice_get ls 0 ≡ Some l → (rest : List Load) × (ls ≡ l ∷ rest)
    rest_of [] h = absurd cc
    rest_of (x ∷ ls) h = (let same : x ≡ l = cc in (ls, ap (λ y. y ∷ ls) same))

    queue_is : queue_of u.state (s, from, to) ≡ loads_at b.queues (s, from, to)
    queue_is = ap (λ qs. loads_for qs (s, from, to)) (sym queues)

    rest : (rest : List Load) × (loads_at b.queues (s, from, to) ≡ l ∷ rest)
    rest = rest_of (loads_at b.queues (s, from, to)) first

    after_receipt : NetworkState
    after_receipt = with_queue (moved u.state (get_or c.machines place d).number new.machine.at new.machine.vars new.machine.sessions) (s, from, to) rest.0

    receive_step : (cap : Option ℕ) → NetworkSteps b.endpoints b.hosts cap u.state (event.Recv (get_or c.machines place d).number s from to l) after_receipt
    unfolding after_receipt
    receive_step cap =
        net.acts (get_or c.machines place d).number (pos 0)
        (subst (λ (o : Option Machine). MachineAnswers b.hosts b.endpoints o (pos 0)) (sym there) (free_answers b.endpoints b.hosts (get_or c.machines place d).machine (head.Take s from to) (pos 0) is (λ h. cc)))
        (ap (machine_makes b.endpoints cap u.state (get_or c.machines place d).number (pos 0)) there ∙ taken cap u.state (pos 0) s from to rest.0 is (queue_is ∙ rest.1))

    pub receive_can : (k : Load) → slice_get (loads_at b.queues (s, from, to)) 0 ≡ Some k → CanMake b (event.Recv (get_or c.machines place d).number s from to k)
    receive_can k at =
        let both : Some l ≡ Some k = sym first ∙ at in
        let same : l ≡ k = cc in
        subst (λ (y : Load). CanMake b (event.Recv (get_or c.machines place d).number s from to y)) same (can_make b (event.Recv (get_or c.machines place d).number s from to l) u.state after_receipt u.after (receive_step None))

    pub receive_up : (k : Load) (w seen : ℕ) (after : OfficeView) → slice_get (loads_at b.queues (s, from, to)) 0 ≡ Some k → HasNoted b w (event.Recv (get_or c.machines place d).number s from to k) after → seen ≡ length after.history → IsUpToDate after (record c { machines = slice_set c.machines place new; seen = seen })
    unfolding after_receipt
    receive_up k w seen after at noted long =
        let both : Some k ≡ Some l = sym at ∙ first in
        let same : k ≡ l = cc in
        mail_up after_receipt (event.Recv (get_or c.machines place d).number s from to l) w seen after refl (receive_step b.capacity)
        (subst (λ (y : Load). HasNoted b w (event.Recv (get_or c.machines place d).number s from to y) after) same noted) long

-- ---- the process at a place

pub record AtPlace (e : Endpoints) (ms : List MachineView) (place : ℕ) (d : MachineView) (h : Head) : Type 0 where
  pub lt : place < length ms
  pub is : head_of e (get_or ms place d).machine ≡ Some h
  pub bound : IsBound e (get_or ms place d).machine

-- the process that a list of processes has there, as it is lent
pub at_place : (v : OfficeView) (e : Endpoints) (c : CrewView) (ms : List MachineView) (place : ℕ) (d : MachineView) (h : Head) → IsUpToDate v c → v.endpoints ≡ e → HasHead e c place h → c.machines ≡ ms → AtPlace e ms place d h
at_place v e c ms place d h u same head is = subst (λ (l : List MachineView). AtPlace e l place d h) is (record {
  lt = lt;
  is = ap (λ (m : MachineView). head_of e m.machine) at ∙ head.head;
  bound = subst (λ (x : Endpoints). IsBound x (get_or c.machines place d).machine) same (bound_here v.endpoints c.machines place d u.ahead.bound lt);
})
  where
    lt : place < length c.machines
    lt = slice_get_within c.machines place head.process head.there

    at : get_or c.machines place d ≡ head.process
    at = get_or_from_slice_get c.machines place head.process d head.there

pub mail_owner : (a : OfficeView) (c : CrewView) (u : IsUpToDate a c) (h : Share) → c.share ≡ h → (place : ℕ) (d : MachineView) → place < length c.machines → (e : Endpoints) (w : ℕ) (x : Event) → is_start x ≡ false → (p : ℕ) → p ≡ (get_or c.machines place d).number → actors_of x ≡ p ∷ [] → w ≡ h.worker + 1 → IsMadeByOwner h.workers e (record { worker = w; event = x })
mail_owner a c u h share place d lt e w x alone p number actor worker =
    let named : (get_or c.machines place d).number ≡ number_at c place = u.ahead.numbers place (get_or c.machines place d).number (mapped number_of c.machines place d lt) in
    one_owner h place e w x alone (actor ∙ ap (λ q. q ∷ []) (number ∙ named ∙ ap (λ (g : Share). place * g.workers + g.worker) share)) worker
